-- codes of one port: how many bits, which numbers, which values
use Rattle.std.proofs.Common.{◌≡◌, ◌≢◌, ◌+◌, ◌<◌, ◌≤◌, ◌-◌, ◌*◌, ◌/◌, ◌%◌, ◌^◌, ℕ, zero, suc, Bool, true, false, List, [], ◌∷◌, ◌++◌, length}
use Rattle.std.proofs.Common.{drop, get_or, length-drop, refl, sym, ◌∙◌, ap, inl, inr, arith, append_assoc, length-append}
use Rattle.std.specs.Prelude.{map, ℤ, pos, ◌+ℤ◌, Some, slice_get, nat_eq, nat_le, if◌then◌else◌}
use Rattle.std.specs.List.{All, AllPairs, Contains}
use Rattle.std.proofs.lemmas.Int.{ints}
use Rattle.std.proofs.lemmas.Option.{slice_get-get_or}
use Rattle.std.proofs.lemmas.List.FromFn.{length-map-range_with_len, get_or-map-range_with_len}
use Rattle.std.specs.Int.{w32, leading_zeros}
use Rattle.std.proofs.Math.Nat.{pow-suc, pow-le-pow_right}
use Rattle.std.proofs.Math.Seq.{get_or-append_seam, drop-cons}
use Rattle.std.proofs.lemmas.Nat.{leading_length}
use Rattle.std.proofs.lemmas.Bool.Decides.{nat_tests}
use Rattle.std.proofs.lemmas.Bool.{cases_lt}
use Rattle.std.proofs.lemmas.List.{length-map, get_or-map}
use Rattle.std.proofs.lemmas.List.Elements.{All-nil, All-cons, Contains-get_or}
use Rattle.port_types.specs.declared.types.PortType.{PortType}
use Rattle.port_types.specs.declared.types.PortType.TheVariants as kind
use Rattle.port_types.specs.declared.types.Value.{Value}
use Rattle.port_types.specs.declared.types.Value.TheVariants as value
use Rattle.port_types.specs.Types.{values, range_size}
use Rattle.cnf.specs.declared.lit.Lit.{Lit}
use Rattle.cnf.specs.Clauses.{lit_holds, lit_values, clauses_hold}
use Rattle.cnf.specs.Gates.{literal}
use Rattle.cnf.specs.Bounds.{binary_digits, binary_number}
use Rattle.cnf.specs.Laws.{GatesAreRight}
use Rattle.state_coding.specs.Codes.{IsCodable, bit_count, type_bits, value_at, code_clauses}
use Rattle.state_coding.specs.States.{var_row}

-- ---- binary digits

pub length-binary_digits : (places m : ℕ) → length (binary_digits places m) ≡ places
length-binary_digits zero m = refl
length-binary_digits (suc places) m = ap suc (length-binary_digits places (m / 2))

digit : (r q m : ℕ) → r < 2 → m ≡ 2 * q + r → (if nat_eq r 1 then 1 else 0) + 2 * q ≡ m
digit zero q m h e = omega arith
digit (suc zero) q m h e = omega arith
digit (suc (suc r)) q m h e = absurd (omega arith)

halves : (m : ℕ) → m ≡ 2 * (m / 2) + m % 2
halves m = omega arith

half_below : (w m : ℕ) → m < 2 ^ suc w → m / 2 < 2 ^ w
half_below w m h = let e : 2 ^ suc w ≡ 2 ^ w * 2 = pow-suc 2 w in omega arith

pub digits_number : (places m : ℕ) → m < 2 ^ places → binary_number (binary_digits places m) ≡ m
digits_number zero m h = omega arith
digits_number (suc places) m h =
    ap (λ k. (if nat_eq (m % 2) 1 then 1 else 0) + 2 * k) (digits_number places (m / 2) (half_below places m h))
    ∙ digit (m % 2) (m / 2) m (omega arith) (halves m)

digit_below : (b : Bool) (k p q : ℕ) → k < p → q ≡ p * 2 → (if b then 1 else 0) + 2 * k < q
digit_below true k p q h e = omega arith
digit_below false k p q h e = omega arith

pub number_below : (bits : List Bool) → binary_number bits < 2 ^ length bits
number_below [] = omega arith
number_below (b ∷ bits) = digit_below b (binary_number bits) (2 ^ length bits) (2 ^ suc (length bits)) (number_below bits) (pow-suc 2 (length bits))

-- ---- the number of bits

pub count_fits : (c : ℕ) → 0 < c → c < 2 ^ 32 → c ≤ 2 ^ bit_count c
count_fits c some few =
    let found = leading_length 32 (c - 1) (omega arith) in
    let bits : bit_count c ≡ found.0 = (let e : leading_zeros w32 (c - 1) + found.0 ≡ 32 = found.1 in omega arith) in
    let below : c - 1 < 2 ^ found.0 = found.2 in
    rw bits (omega arith)

pub count_least : (c b : ℕ) → 0 < c → c < 2 ^ 32 → c ≤ 2 ^ b → bit_count c ≤ b
count_least c b some few fits =
    let found = leading_length 32 (c - 1) (omega arith) in
    let bits : bit_count c ≡ found.0 = (let e : leading_zeros w32 (c - 1) + found.0 ≡ 32 = found.1 in omega arith) in
    let above : 2 ^ found.0 ≤ 2 * (c - 1) + 1 = found.3 in
    rw bits (least found.0 b (2 ^ found.0) c above refl some fits)
  where
    least : (m b p c : ℕ) → p ≤ 2 * (c - 1) + 1 → p ≡ 2 ^ m → 0 < c → c ≤ 2 ^ b → m ≤ b
    least m b p c above e some fits =
        elim (cases_lt b m) [
          | inl less ↦ (let q : 2 ^ suc b ≤ 2 ^ m = pow-le-pow_right {n = 2} (omega arith) {i = suc b} {j = m}
              (omega arith) in let r : 2 ^ suc b ≡ 2 ^ b * 2
              = pow-suc 2 b in absurd (omega arith))
          | inr more ↦ more
        ]

pub bits_few : (c : ℕ) → bit_count c ≤ 32
bits_few c = omega arith

-- ---- new variables as a row

pub length-var_row : (n count : ℕ) → length (var_row n count) ≡ count
length-var_row n zero = refl
length-var_row n (suc count) = ap suc (length-var_row (n + 1) count)

pub var_row-within : (m n count : ℕ) → n + count ≤ m → All (λ lit. lit.var < m) (var_row n count)
var_row-within m n zero h = All-nil (λ lit. lit.var < m)
var_row-within m n (suc count) h = All-cons (λ lit. lit.var < m) (literal n) (var_row (n + 1) count) (omega arith)
    (var_row-within m (n + 1) count (omega arith))

-- a row of new variables has the values that a model gives them
pub row_reads : (model bits more : List Bool) (n : ℕ) → n ≡ length model
    → lit_values (model ++ (bits ++ more)) (var_row n (length bits)) ≡ bits
row_reads model [] more n e = refl
row_reads model (b ∷ bits) more n e =
    let here : lit_holds (model ++ b ∷ (bits ++ more)) (literal n) ≡ b = rw e (get_or-append_seam model b (bits ++ more) false) in
    let there : lit_values (model ++ b ∷ (bits ++ more)) (var_row (n + 1) (length bits)) ≡ bits =
    ap (λ l. lit_values l (var_row (n + 1) (length bits))) (sym (append_assoc model (b ∷ []) (bits ++ more)))
    ∙ row_reads (model ++ b ∷ []) bits more (n + 1) (sym (length-append model (b ∷ []) ∙ ap (λ k. k + 1) (sym e))) in
    rw (here, there) refl

-- ---- codes and values

le_is : (a b : ℕ) → a ≤ b → nat_le a b ≡ true
le_is a b h = grind (arith, nat_tests)

le_from : (a b : ℕ) → nat_le a b ≡ true → a ≤ b
le_from a b h = grind (arith, nat_tests)

-- the clauses of a type's codes hold exactly where the number of the bits is below the number of values
pub code_says : (g : GatesAreRight) (model : List Bool) (kind : PortType) (row : List Lit) → length row ≡ type_bits kind
    → All (λ lit. lit.var < length model) row → 0 < length (values kind) → length (values kind) < 2 ^ 32
    → clauses_hold model (code_clauses kind row) ≡ nat_le (binary_number (lit_values model row))
    (length (values kind) - 1)
code_says g model kind row wide known some few =
    let c : ℕ = length (values kind) in
    let fits : c ≤ 2 ^ length row = rw wide (count_fits c some few) in
    g.limit model row (binary_digits (length row) (c - 1)) (sym (length-binary_digits (length row) (c - 1))) known
    ∙ ap (nat_le (binary_number (lit_values model row))) (digits_number (length row) (c - 1) (omega arith))

pub code_holds : (g : GatesAreRight) (model : List Bool) (kind : PortType) (row : List Lit) (m : ℕ)
    → length row ≡ type_bits kind → All (λ lit. lit.var < length model) row → length (values kind) < 2 ^ 32
    → binary_number (lit_values model row) ≡ m → m < length (values kind)
    → clauses_hold model (code_clauses kind row) ≡ true
code_holds g model kind row m wide known few e below =
    code_says g model kind row wide known (omega arith) few ∙ le_is (binary_number (lit_values model row)) (length (values kind) - 1) (omega arith)

pub code_below : (g : GatesAreRight) (model : List Bool) (kind : PortType) (row : List Lit)
    → length row ≡ type_bits kind → All (λ lit. lit.var < length model) row → 0 < length (values kind)
    → length (values kind) < 2 ^ 32
    → clauses_hold model (code_clauses kind row) ≡ true → binary_number (lit_values model row) < length (values kind)
code_below g model kind row wide known some few h =
    let le : binary_number (lit_values model row) ≤ length (values kind) - 1 = le_from _ _
    (sym (code_says g model kind row wide known some few) ∙ h) in omega
    arith

pub value_typed : (kind : PortType) (bits : List Bool) → binary_number bits < length (values kind)
    → Contains (values kind) (value_at kind bits)
value_typed kind bits h = Contains-get_or (values kind) (binary_number bits) (value.Bool false) h

any_default : (xs : List Value) (i : ℕ) (d e : Value) → i < length xs → get_or xs i d ≡ get_or xs i e
any_default [] i d e h = absurd (omega arith)
any_default (x ∷ xs) zero d e h = refl
any_default (x ∷ xs) (suc i) d e h = any_default xs i d e (omega arith)

-- the bits of a value's place stand for it
pub value_of_place : (kind : PortType) (v : Value) (has : Contains (values kind) v) (bits : List Bool)
    → binary_number bits ≡ has.0 → value_at kind bits ≡ v
value_of_place kind v has bits e =
    ap (λ k. get_or (values kind) k (value.Bool false)) e ∙ any_default (values kind) has.0 (value.Bool false) v has.1 ∙ has.2

-- ---- laws

pub code_is_place : (kind : PortType) (bits : List Bool) → binary_number bits < length (values kind)
    → slice_get (values kind) (binary_number bits) ≡ Some (value_at kind bits)
code_is_place kind bits h = slice_get-get_or (values kind) (binary_number bits) (value.Bool false) h

same_int : (a b : ℤ) → value.Int a ≡ value.Int b → a ≡ b
same_int a b e = cc

same_offset : (a : ℤ) (i j : ℕ) → a +ℤ pos i ≡ a +ℤ pos j → i ≡ j
same_offset a i j e = omega (arith, ints)

two_truths : (i j : ℕ) (d : Value) → i < j → j < 2 → get_or (value.Bool false ∷ value.Bool true ∷ []) i d ≢ get_or
    (value.Bool false ∷ value.Bool true ∷ []) j d
two_truths zero zero d less h e = absurd (omega arith)
two_truths zero (suc zero) d less h e = cc
two_truths zero (suc (suc j)) d less h e = absurd (omega arith)
two_truths (suc i) j d less h e = absurd (omega arith)

two_names : (names : List (List ℕ)) (i j : ℕ) (d : Value) (e : List ℕ) → AllPairs (λ a b. a ≢ b) names → i < j
    → j < length names → get_or (map value.Name names) i d ≢ get_or (map value.Name names) j d
two_names names i j d e distinct less h same =
    distinct i j e less h (same_name (get_or names i e) (get_or names j e)
    (sym (get_or-map value.Name names i e d (omega arith)) ∙ same ∙ get_or-map value.Name names j e d h))
  where
    same_name : (a b : List ℕ) → value.Name a ≡ value.Name b → a ≡ b
    same_name a b h = cc

pub one_place_each : (kind : PortType) → IsCodable kind → (i j : ℕ) (d : Value) → i < j → j < length (values kind)
    → get_or (values kind) i d ≢ get_or (values kind) j d
one_place_each kind.Bool codable i j d less h = two_truths i j d less h
one_place_each (kind.Range lo hi) codable i j d less h =
    λ same.
    let size : length (values (kind.Range lo hi)) ≡ range_size lo hi = length-map-range_with_len (λ k. value.Int (lo +ℤ pos k)) 0 (range_size lo hi) in
    let at_i = get_or-map-range_with_len (λ k. value.Int (lo +ℤ pos k)) 0 (range_size lo hi) i i d (omega arith) (omega arith) in
    let at_j = get_or-map-range_with_len (λ k. value.Int (lo +ℤ pos k)) 0 (range_size lo hi) j j d (omega arith) (omega arith) in
    let equal : i ≡ j = same_offset lo i j (same_int (lo +ℤ pos i) (lo +ℤ pos j) (sym at_i ∙ same ∙ at_j)) in
    omega arith
one_place_each (kind.Enum names) codable i j d less h =
    two_names names i j d [] codable.0.1 less (let size : length (values (kind.Enum names)) ≡ length names = length-map names value.Name in omega arith)

-- ---- the code

-- digits that are read from the highest down stay small
pub number_small : (digits : List Bool) (place number : ℕ) → number ≡ binary_number (drop place digits) → 0 < place
    → length digits ≤ 32 → number < 2 ^ 31
number_small digits place number e some few =
    let below : binary_number (drop place digits) < 2 ^ length (drop place digits) = number_below (drop place digits) in
    let short : length (drop place digits) ≡ length digits - place = length-drop place digits in
    let power : 2 ^ length (drop place digits) ≤ 2 ^ 31 = pow-le-pow_right {n = 2} (omega arith) {i = length (drop place digits)} {j = 31} (omega arith) in
    omega arith

pub number_goes_on : (model : List Bool) (row : List Lit) (place next number number' : ℕ) (d : Lit) (bit : Bool)
    → place ≡ suc next → place ≤ length row → bit ≡ lit_holds model (get_or row next d)
    → number ≡ binary_number (drop place (lit_values model row)) → number' ≡ (if bit then 1 else 0) + 2 * number
    → number' ≡ binary_number (drop next (lit_values model row))
number_goes_on model row place next number number' d bit ep within eb en em =
    em ∙ rw (eb, en, ep) (sym (ap binary_number (drop-cons (lit_values model row) next (lit_holds model d)
    (rw (length-map row (lit_holds model)) (omega arith)) ∙ ap (λ v. v ∷ drop (suc next) (lit_values model row))
    (get_or-map (lit_holds model) row next d (lit_holds model d) (omega arith)))))
