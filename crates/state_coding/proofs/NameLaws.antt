-- names: an enumeration's bits are the place of its name, and each name has one place
use Rattle.std.proofs.Common.{◌≡◌, ◌≢◌, ◌+◌, ◌<◌, ◌≤◌, ◌*◌, ◌^◌, ℕ, zero, suc, Bool, true, false, not, ◌&&◌, ◌||◌, List, [], ◌∷◌, ◌++◌, length}
use Rattle.std.proofs.Common.{get_or, Option, refl, sym, ◌∙◌, ap, inl, inr, zero-add, arith}
use Rattle.std.specs.Prelude.{Some, None, nat_eq, nat_lt, cond, position, if◌then◌else◌}
use Rattle.std.specs.Str.{bytes_eq}
use Rattle.std.specs.Cmp.Lexicographic.{pointwise}
use Rattle.std.specs.List.{prefix_len, All, AllPairs, list_all, list_any}
use Rattle.std.proofs.lemmas.Bool.{cases_lt, and_parts, false≢true}
use Rattle.std.proofs.lemmas.Bool.Decides.{nat_tests, same_from_decides, Decides-eqb}
use Rattle.std.proofs.lemmas.Slice.Eq.{bytes_eq-Decides}
use Rattle.std.proofs.lemmas.List.{length-map}
use Rattle.std.proofs.lemmas.List.Folds.{list_all-append, list_any-append}
use Rattle.std.proofs.lemmas.List.Quantifiers.{position-Some}
use Rattle.std.proofs.lemmas.List.Elements.{All-nil, All-cons, All-head, All-tail, All-append}
use Rattle.port_types.specs.declared.types.PortType.TheVariants as kind
use Rattle.port_types.specs.declared.types.Value.TheVariants as value
use Rattle.port_types.specs.Types.{values}
use Rattle.typed_ltl.specs.Truth.{as_name}
use Rattle.cnf.specs.declared.lit.Lit.{Lit}
use Rattle.cnf.specs.Clauses.{lit_holds, clauses_hold, lit_values}
use Rattle.cnf.specs.Gates.{xor, all_clauses, any_clauses}
use Rattle.cnf.specs.Bounds.{binary_digits, binary_number}
use Rattle.cnf.specs.Laws.{GatesAreRight}
use Rattle.state_coding.specs.States.{var_row}
use Rattle.state_coding.specs.Atoms
use Rattle.state_coding.proofs.CodeLaws.{length-binary_digits, digits_number, var_row-within}
use Rattle.state_coding.proofs.StateLaws.{parts_hold}
use Rattle.state_coding.proofs.RowLaws.{same_bits, match_says, match-within}
use Rattle.state_coding.proofs.AtomLaws.{Says, truth_is, same_rows_is}

-- ---- digits

same_digit : (x y : Bool) (m n : ℕ) → nat_eq ((if x then 1 else 0) + 2 * m) ((if y then 1 else 0) + 2 * n) ≡
    (not (xor x y) && nat_eq m n)
same_digit true true m n = grind (arith, nat_tests)
same_digit true false m n = grind (arith, nat_tests)
same_digit false true m n = grind (arith, nat_tests)
same_digit false false m n = grind (arith, nat_tests)

pub same_codes : (xs ys : List Bool) → length xs ≡ length ys
    → same_bits xs ys ≡ nat_eq (binary_number xs) (binary_number ys)
same_codes [] [] e = refl
same_codes [] (y ∷ ys) e = absurd (omega arith)
same_codes (x ∷ xs) [] e = absurd (omega arith)
same_codes (x ∷ xs) (y ∷ ys) e =
    ap (λ b. not (xor x y) && b) (same_codes xs ys (omega arith)) ∙ sym (same_digit x y (binary_number xs) (binary_number ys))

-- the literals of a place all hold where the row is that place
pub place_says : (g : GatesAreRight) (model : List Bool) (row : List Lit) (place : ℕ) → place < 2 ^ length row
    → All (λ lit. lit.var < length model) row
    → list_all (lit_holds model) (Atoms.place_lits row place) ≡ nat_eq (binary_number (lit_values model row)) place
place_says g model row place fits known =
    match_says g model row (binary_digits (length row) place) known
    ∙ same_codes (lit_values model row) (binary_digits (length row) place)
    (length-map row (lit_holds model) ∙ sym (length-binary_digits (length row) place))
    ∙ ap (nat_eq (binary_number (lit_values model row))) (digits_number (length row) place fits)

-- ---- names

pub name_value : (names : List (List ℕ)) (k : ℕ) → as_name (get_or (values (kind.Enum names)) k (value.Bool false)) ≡
    get_or names k []
name_value [] k = refl
name_value (name ∷ names) zero = refl
name_value (name ∷ names) (suc k) = name_value names k

-- an enumeration: each name once, and a code for each
pub record Enumeration (names : List (List ℕ)) (row : List Lit) (k : ℕ) : Type 0 where
  pub distinct : AllPairs (λ a b. a ≢ b) names
  pub code : k < length names
  pub fits : length names ≤ 2 ^ length row

one_place : (names : List (List ℕ)) (i j : ℕ) (d : List ℕ) → AllPairs (λ a b. a ≢ b) names → i < length names
    → j < length names → get_or names i d ≡ get_or names j d → i ≡ j
one_place names i j d distinct hi hj e =
    elim (cases_lt i j) [
      | inl less ↦ absurd (distinct i j d less hj e)
      | inr more ↦ elim (cases_lt j i) [
        | inl less ↦ absurd (distinct j i d less hi (sym e))
        | inr least ↦ omega arith
      ]
    ]

-- the code is the place of a name exactly where the code's name is that one
found_name : (names : List (List ℕ)) (name : List ℕ) (k i : ℕ) → AllPairs (λ a b. a ≢ b) names → k < length names
    → position (bytes_eq name) names ≡ Some i → nat_eq k i ≡ bytes_eq (get_or names k []) name
found_name names name k i distinct hk e =
    let found = position-Some (bytes_eq name) names i [] e in
    let same : name ≡ get_or names i [] = (bytes_eq-Decides name (get_or names i [])).0 found.1 in
    same_from_decides {P = k ≡ i} (nat_eq k i) (bytes_eq (get_or names k []) name) (Decides-eqb k i) (
      λ h. one_place names k i [] distinct hk found.0 ((bytes_eq-Decides (get_or names k []) name).0 h ∙ same),
      λ h. (bytes_eq-Decides (get_or names k []) name).1 (ap (λ j. get_or names j []) h ∙ sym same),
    )

name_fails : (b : Bool) (r m : ℕ) → suc m ≤ cond (not b) (1 + r) 0 → (b ≡ false) × (m ≤ r)
name_fails true r m h = absurd (omega arith)
name_fails false r m h = (refl, omega arith)

all_fail : (p : List ℕ → Bool) (xs : List (List ℕ)) → length xs ≤ prefix_len (λ x. not (p x)) xs → (k : ℕ)
    → k < length xs → p (get_or xs k []) ≡ false
all_fail p [] h k hk = absurd (omega arith)
all_fail p (x ∷ xs) h zero hk = (name_fails (p x) (prefix_len (λ x. not (p x)) xs) (length xs) h).0
all_fail p (x ∷ xs) h (suc k) hk = all_fail p xs (name_fails (p x) (prefix_len (λ x. not (p x)) xs) (length xs) h).1 k (omega arith)

no_place : (b : Bool) (i : ℕ) → cond b (Some i) None ≡ None → b ≡ false
no_place true i h = cc
no_place false i h = refl

not_below : (a b : ℕ) → nat_lt a b ≡ false → b ≤ a
not_below a b h = grind (arith, nat_tests)

pub same_either_way : (a b : List ℕ) → bytes_eq a b ≡ bytes_eq b a
same_either_way a b =
    same_from_decides {P = a ≡ b} (bytes_eq a b) (bytes_eq b a) (bytes_eq-Decides a b)
    (λ h. sym ((bytes_eq-Decides b a).0 h), λ h. (bytes_eq-Decides b a).1 (sym h))

absent_name : (names : List (List ℕ)) (name : List ℕ) (k : ℕ) → k < length names → position (bytes_eq name) names ≡ None
    → false ≡ bytes_eq (get_or names k []) name
absent_name names name k hk e =
    let len : ℕ = prefix_len (λ x. not (bytes_eq name x)) names in
    let past : length names ≤ len = not_below len (length names) (no_place (nat_lt len (length names)) len e) in
    sym (all_fail (bytes_eq name) names past k hk) ∙ same_either_way name (get_or names k [])

-- ---- a port and a name

pub name_is : (g : GatesAreRight) (model : List Bool) (n : ℕ) (row : List Lit) (names : List (List ℕ)) (name : List ℕ)
    → All (λ lit. lit.var < length model) row → Enumeration names row (binary_number (lit_values model row))
    → Says model (Atoms.name_coding n row names name) (bytes_eq (get_or names (binary_number (lit_values model row)) [])
    name)
name_is g model n row names name known en = place_cases g model n row names name (position (bytes_eq name) names) refl known en
  where
    place_cases : (g : GatesAreRight) (model : List Bool) (n : ℕ) (row : List Lit) (names : List (List ℕ))
        (name : List ℕ) (place : Option ℕ) → position (bytes_eq name) names ≡ place
        → All (λ lit. lit.var < length model) row → Enumeration names row (binary_number (lit_values model row))
        → Says model (Atoms.place_coding n row place) (bytes_eq (get_or names (binary_number (lit_values model row)) [])
        name)
    place_cases g model n row names name None e known en room h =
        truth_is g model n false (omega arith) h ∙ absent_name names name (binary_number (lit_values model row)) en.code e
    place_cases g model n row names name (Some i) e known en room h =
        let found = position-Some (bytes_eq name) names i [] e in
        let within : i < length names = found.0 in
        let fits : length names ≤ 2 ^ length row = en.fits in
        g.all model n (Atoms.place_lits row i) (omega arith) (match-within (length model) row (binary_digits (length row) i) known) h
        ∙ place_says g model row i (omega arith) known
        ∙ found_name names name (binary_number (lit_values model row)) i en.distinct en.code e

-- ---- two ports

-- a pair of ports, with their codes in a model
pub record NamedPair (model : List Bool) (names : List (List ℕ)) (a : List Lit) (others : List (List ℕ)) (b : List Lit) : Type 0 where
  pub left : All (λ lit. lit.var < length model) a
  pub right : All (λ lit. lit.var < length model) b
  pub first : Enumeration names a (binary_number (lit_values model a))
  pub second : Enumeration others b (binary_number (lit_values model b))

pub place-within : (n : ℕ) (row : List Lit) (place : ℕ) → All (λ lit. lit.var < n) row
    → All (λ lit. lit.var < n) (Atoms.place_lits row place)
place-within n row place h = match-within n row (binary_digits (length row) place) h

-- the lists of common names from place i on: the list holds that has both codes
both_places : (g : GatesAreRight) (model : List Bool) (a b : List Lit) (i j : ℕ) → i < 2 ^ length a → j < 2 ^ length b
    → All (λ lit. lit.var < length model) a → All (λ lit. lit.var < length model) b
    → list_all (lit_holds model) (Atoms.place_lits a i ++ Atoms.place_lits b j) ≡
    (nat_eq (binary_number (lit_values model a)) i && nat_eq (binary_number (lit_values model b)) j)
both_places g model a b i j hi hj la lb =
    list_all-append (lit_holds model) (Atoms.place_lits a i) (Atoms.place_lits b j)
    ∙ rw (place_says g model a i hi la, place_says g model b j hj lb) refl

-- one of the lists holds
abbrev pub some_list : List Bool → List (List Lit) → Bool
some_list model lists = list_any (list_all (lit_holds model)) lists

differs : (k i : ℕ) → k < i → nat_eq k i ≡ false
differs k i h = grind (arith, nat_tests)

differs_above : (k i : ℕ) → i < k → nat_eq k i ≡ false
differs_above k i h = grind (arith, nat_tests)

agrees : (k : ℕ) → nat_eq k k ≡ true
agrees k = grind (arith, nat_tests)

head_false : (x r b : Bool) → x ≡ false → r ≡ b → (x || r) ≡ b
head_false x r b e f = rw (e, f) refl

earlier_code : (g : GatesAreRight) (model : List Bool) (a b : List Lit) (i : ℕ) (names others : List (List ℕ))
    → binary_number (lit_values model a) < i → i + length names ≤ 2 ^ length a → length others ≤ 2 ^ length b
    → All (λ lit. lit.var < length model) a → All (λ lit. lit.var < length model) b
    → some_list model (Atoms.common_lits a b i names others) ≡ false
earlier_code g model a b i [] others low fits more la lb = refl
earlier_code g model a b i (name ∷ names) others low fits more la lb =
    list_any-append (list_all (lit_holds model)) (Atoms.common_place a b i (position (bytes_eq name) others)) (Atoms.common_lits a b (i + 1) names others)
    ∙ head_false _ _ false (here (position (bytes_eq name) others) refl)
    (earlier_code g model a b (i + 1) names others (omega arith) (omega arith) more la lb)
  where
    here : (place : Option ℕ) → position (bytes_eq name) others ≡ place
        → some_list model (Atoms.common_place a b i place) ≡ false
    here None e = refl
    here (Some j) e =
        let found = position-Some (bytes_eq name) others j [] e in
        let within : j < length others = found.0 in
        ap (λ v. v || false) (both_places g model a b i j (omega arith) (omega arith) la lb)
        ∙ ap (λ v. (v && nat_eq (binary_number (lit_values model b)) j) || false) (differs (binary_number (lit_values model a)) i low)

-- from place i on, one of the lists holds exactly where the two codes have the same name
later_code : (g : GatesAreRight) (model : List Bool) (a b : List Lit) (i k : ℕ) (names others : List (List ℕ))
    → binary_number (lit_values model a) ≡ i + k → k < length names → i + length names ≤ 2 ^ length a
    → Enumeration others b (binary_number (lit_values model b)) → All (λ lit. lit.var < length model) a
    → All (λ lit. lit.var < length model) b
    → some_list model (Atoms.common_lits a b i names others) ≡ bytes_eq (get_or names k [])
    (get_or others (binary_number (lit_values model b)) [])
later_code g model a b i k [] others at low fits second la lb = absurd (omega arith)
later_code g model a b i zero (name ∷ names) others at low fits second la lb =
    list_any-append (list_all (lit_holds model)) (Atoms.common_place a b i (position (bytes_eq name) others)) (Atoms.common_lits a b (i + 1) names others)
    ∙ tail_false _ _ (earlier_code g model a b (i + 1) names others (omega arith) (omega arith) second.fits la lb)
    ∙ here (position (bytes_eq name) others) refl
  where
    tail_false : (x r : Bool) → r ≡ false → (x || r) ≡ x
    tail_false true r e = refl
    tail_false false r e = e

    first_holds : (x y : Bool) → x ≡ true → ((x && y) || false) ≡ y
    first_holds x true e = rw e refl
    first_holds x false e = rw e refl

    here : (place : Option ℕ) → position (bytes_eq name) others ≡ place
        → some_list model (Atoms.common_place a b i place) ≡ bytes_eq name
        (get_or others (binary_number (lit_values model b)) [])
    here None e = absent_name others name (binary_number (lit_values model b)) second.code e ∙ same_either_way
        (get_or others (binary_number (lit_values model b)) []) name
    here (Some j) e =
        let found = position-Some (bytes_eq name) others j [] e in
        let within : j < length others = found.0 in
        let enough : length others ≤ 2 ^ length b = second.fits in
        let code : binary_number (lit_values model a) ≡ i = omega arith in
        ap (λ v. v || false) (both_places g model a b i j (omega arith) (omega arith) la lb)
        ∙ first_holds (nat_eq (binary_number (lit_values model a)) i) (nat_eq (binary_number (lit_values model b)) j) (ap (λ v. nat_eq v i) code ∙ agrees i)
        ∙ found_name others name (binary_number (lit_values model b)) j second.distinct second.code e
        ∙ same_either_way (get_or others (binary_number (lit_values model b)) []) name
later_code g model a b i (suc k) (name ∷ names) others at low fits second la lb =
    list_any-append (list_all (lit_holds model)) (Atoms.common_place a b i (position (bytes_eq name) others)) (Atoms.common_lits a b (i + 1) names others)
    ∙ head_false _ _ _ (here (position (bytes_eq name) others) refl)
    (later_code g model a b (i + 1) k names others (omega arith) (omega arith) (omega arith)
    second la lb)
  where
    here : (place : Option ℕ) → position (bytes_eq name) others ≡ place
        → some_list model (Atoms.common_place a b i place) ≡ false
    here None e = refl
    here (Some j) e =
        let found = position-Some (bytes_eq name) others j [] e in
        let within : j < length others = found.0 in
        let enough : length others ≤ 2 ^ length b = second.fits in
        let differ : nat_eq (binary_number (lit_values model a)) i ≡ false = differs_above (binary_number (lit_values model a)) i (omega arith) in
        ap (λ v. v || false) (both_places g model a b i j (omega arith) (omega arith) la lb)
        ∙ ap (λ v. (v && nat_eq (binary_number (lit_values model b)) j) || false) differ

-- a variable for each list, and any of these
each_all_says : (g : GatesAreRight) (model : List Bool) (n : ℕ) (lists : List (List Lit))
    → n + length lists ≤ length model → All (All (λ lit. lit.var < length model)) lists
    → clauses_hold model (Atoms.each_all_clauses n lists) ≡ true
    → list_any (lit_holds model) (var_row n (length lists)) ≡ some_list model lists
each_all_says g model n [] room known h = refl
each_all_says g model n (lits ∷ lists) room known h =
    let both = parts_hold model (all_clauses n lits) (Atoms.each_all_clauses (n + 1) lists) h in
    rw (
      g.all model n lits (omega arith) (All-head (All (λ lit. lit.var < length model)) lits lists known) both.0,
      each_all_says g model (n + 1) lists (omega arith) (All-tail (All (λ lit. lit.var < length model)) lits lists known) both.1,
    )
    refl

any_all_is : (g : GatesAreRight) (model : List Bool) (n : ℕ) (lists : List (List Lit))
    → All (All (λ lit. lit.var < length model)) lists → Says model (Atoms.any_all_coding n lists)
    (some_list model lists)
any_all_is g model n lists known room h =
    let both = parts_hold model (Atoms.each_all_clauses n lists) (any_clauses (n + length lists) (var_row n (length lists))) h in
    g.any model (n + length lists) (var_row n (length lists)) (omega arith) (var_row-within (length model) n (length lists) (omega arith)) both.1
    ∙ each_all_says g model n lists (omega arith) known both.0

pub common-within : (m : ℕ) (a b : List Lit) (i : ℕ) (names others : List (List ℕ)) → All (λ lit. lit.var < m) a
    → All (λ lit. lit.var < m) b → All (All (λ lit. lit.var < m)) (Atoms.common_lits a b i names others)
common-within m a b i [] others la lb = All-nil (All (λ lit. lit.var < m))
common-within m a b i (name ∷ names) others la lb =
    All-append (All (λ lit. lit.var < m)) (Atoms.common_place a b i (position (bytes_eq name) others)) (Atoms.common_lits a b (i + 1) names others)
    (here (position (bytes_eq name) others)) (common-within m a b (i + 1) names others la lb)
  where
    here : (place : Option ℕ) → All (All (λ lit. lit.var < m)) (Atoms.common_place a b i place)
    here None = All-nil (All (λ lit. lit.var < m))
    here (Some j) =
        All-cons (All (λ lit. lit.var < m)) (Atoms.place_lits a i ++ Atoms.place_lits b j) []
        (All-append (λ lit. lit.var < m) (Atoms.place_lits a i) (Atoms.place_lits b j) (place-within m a i la) (place-within m b j lb))
        (All-nil (All (λ lit. lit.var < m)))

-- ---- two ports

same_names : (names others : List (List ℕ)) (k j : ℕ) → names ≡ others → AllPairs (λ a b. a ≢ b) names
    → k < length names → j < length others → nat_eq k j ≡ bytes_eq (get_or names k []) (get_or others j [])
same_names names others k j e distinct hk hj =
    let within : j < length names = rw e hj in
    same_from_decides {P = k ≡ j} (nat_eq k j) (bytes_eq (get_or names k []) (get_or others j [])) (Decides-eqb k j) (
      λ h. one_place names k j [] distinct hk within ((bytes_eq-Decides (get_or names k []) (get_or others j [])).0 h ∙ ap (λ l. get_or l j []) (sym e)),
      λ h. (bytes_eq-Decides (get_or names k []) (get_or others j [])).1 (ap (λ i. get_or names i []) h ∙ ap (λ l. get_or l j []) e),
    )

pub same_lists : (xs ys : List (List ℕ)) → pointwise bytes_eq xs ys ≡ true → xs ≡ ys
same_lists [] [] h = refl
same_lists [] (y ∷ ys) h = absurd (false≢true h)
same_lists (x ∷ xs) [] h = absurd (false≢true h)
same_lists (x ∷ xs) (y ∷ ys) h =
    let both = and_parts (bytes_eq x y) (pointwise bytes_eq xs ys) h in
    rw ((bytes_eq-Decides x y).0 both.0, same_lists xs ys both.1) refl

pub same_ports_is : (g : GatesAreRight) (model : List Bool) (n : ℕ) (names : List (List ℕ)) (a : List Lit)
    (others : List (List ℕ)) (b : List Lit) → NamedPair model names a others b → (names ≡ others → length a ≡ length b)
    → Says model (Atoms.same_ports_coding n names a others b)
    (bytes_eq (get_or names (binary_number (lit_values model a)) [])
    (get_or others (binary_number (lit_values model b)) []))
same_ports_is g model n names a others b pair same = by_cases (pointwise bytes_eq names others) refl
  where
    by_cases : (t : Bool) → pointwise bytes_eq names others ≡ t
        → Says model (if t then Atoms.same_rows_coding n a b else Atoms.any_all_coding n
        (Atoms.common_lits a b 0 names others)) (bytes_eq (get_or names (binary_number (lit_values model a)) [])
        (get_or others (binary_number (lit_values model b)) []))
    by_cases true e room h =
        let equal : names ≡ others = same_lists names others e in
        same_rows_is g model n a b (same equal) pair.left pair.right room h
        ∙ same_codes (lit_values model a) (lit_values model b) (length-map a (lit_holds model) ∙ same equal ∙ sym (length-map b (lit_holds model)))
        ∙ same_names names others (binary_number (lit_values model a)) (binary_number (lit_values model b)) equal pair.first.distinct pair.first.code
        pair.second.code
    by_cases false e room h =
        any_all_is g model n (Atoms.common_lits a b 0 names others) (common-within (length model) a b 0 names others pair.left pair.right) room h
        ∙ later_code g model a b 0 (binary_number (lit_values model a)) names others (sym (zero-add (binary_number (lit_values model a)))) pair.first.code
        (let f : length names ≤ 2 ^ length a = pair.first.fits in omega arith) pair.second pair.left pair.right
