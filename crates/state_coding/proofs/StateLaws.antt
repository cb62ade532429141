-- codes of all ports
use Rattle.std.proofs.Common.{◌≡◌, ◌+◌, ◌<◌, ◌≤◌, ◌^◌, ℕ, Bool, true, ◌&&◌, List, [], ◌∷◌, ◌++◌, length, refl, sym, ◌∙◌, ap}
use Rattle.std.proofs.Common.{arith, append_assoc, length-append}
use Rattle.std.specs.Prelude.{ℤ, pos, negsuc, ◌+ℤ◌, ◌-ℤ◌, ◌≤ℤ◌, neg_ℤ}
use Rattle.std.proofs.lemmas.Int.{ints}
use Rattle.std.proofs.lemmas.List.{length-map}
use Rattle.std.proofs.lemmas.List.FromFn.{length-map-range_with_len}
use Rattle.std.specs.List.{All}
use Rattle.std.proofs.lemmas.Bool.{and_parts, and_from}
use Rattle.std.proofs.lemmas.List.Folds.{list_all-append}
use Rattle.std.proofs.lemmas.List.Elements.{All-head, All-tail, All-weaker}
use Rattle.port_types.specs.declared.types.PortType.{PortType}
use Rattle.port_types.specs.declared.types.PortType.TheVariants as kind
use Rattle.port_types.specs.declared.types.Value.{Value}
use Rattle.port_types.specs.declared.types.Value.TheVariants as value
use Rattle.port_types.specs.Types.{natural_part, range_size, values}
use Rattle.cnf.specs.declared.lit.Lit.{Lit}
use Rattle.cnf.specs.Clauses.{clause_holds, clauses_hold, lit_values}
use Rattle.cnf.specs.Bounds.{binary_digits, binary_number}
use Rattle.cnf.specs.Laws.{GatesAreRight}
use Rattle.state_coding.specs.Codes.{IsCodable, type_bits, value_at, code_clauses}
use Rattle.state_coding.specs.States.{var_row, state_bits, state_width, state_clauses, state_values, IsValuation, HasBits}
use Rattle.state_coding.proofs.CodeLaws.{length-binary_digits, digits_number, count_fits, length-var_row, var_row-within, row_reads, code_holds}
use Rattle.state_coding.proofs.CodeLaws.{code_below, value_typed, value_of_place}

-- ---- how many values

natural_below : (z : ℤ) (k : ℕ) → z ≤ℤ pos k → natural_part z ≤ k
natural_below (pos n) k h = omega (arith, ints)
natural_below (negsuc n) k h = omega arith

range_few : (lo hi : ℤ) → neg_ℤ (pos 1000000) ≤ℤ lo → hi ≤ℤ pos 1000000 → range_size lo hi ≤ 2000001
range_few lo hi low high = natural_below ((hi +ℤ pos 1) -ℤ lo) 2000001 (omega (arith, ints))

-- a codable type has fewer values than 2^32
pub codable_few : (kind : PortType) → IsCodable kind → length (values kind) < 2 ^ 32
codable_few kind.Bool h = omega arith
codable_few (kind.Range lo hi) h =
    let size : length (values (kind.Range lo hi)) ≡ range_size lo hi = length-map-range_with_len (λ j. value.Int (lo +ℤ pos j)) 0 (range_size lo hi) in
    let few : range_size lo hi ≤ 2000001 = range_few lo hi h.0.0.0 h.0.1.1 in omega arith
codable_few (kind.Enum names) h = let size : length (values (kind.Enum names)) ≡ length names =
    length-map names value.Name in let few : length names < 2 ^ 32
    = h.0.0 in omega arith

pub holds_append : (model : List Bool) (xs ys : List (List Lit))
    → clauses_hold model (xs ++ ys) ≡ (clauses_hold model xs && clauses_hold model ys)
holds_append model xs ys = list_all-append (clause_holds model) xs ys

pub both_hold : (model : List Bool) (xs ys : List (List Lit)) → clauses_hold model xs ≡ true
    → clauses_hold model ys ≡ true → clauses_hold model (xs ++ ys) ≡ true
both_hold model xs ys h k = holds_append model xs ys ∙ and_from (clauses_hold model xs) (clauses_hold model ys) h k

pub parts_hold : (model : List Bool) (xs ys : List (List Lit)) → clauses_hold model (xs ++ ys) ≡ true
    → (clauses_hold model xs ≡ true) × (clauses_hold model ys ≡ true)
parts_hold model xs ys h = and_parts (clauses_hold model xs) (clauses_hold model ys) (sym (holds_append model xs ys) ∙ h)

pub within_later : (n m : ℕ) (row : List Lit) → n ≤ m → All (λ lit. lit.var < n) row → All (λ lit. lit.var < m) row
within_later n m row le h = All-weaker (λ lit. lit.var < n) (λ lit. lit.var < m) (λ lit below. omega arith) row h

pub bits_later : (n m : ℕ) (ports : List PortType) (bits : List (List Lit)) → n ≤ m → HasBits n ports bits
    → HasBits m ports bits
bits_later n m [] [] le h = tt
bits_later n m [] (row ∷ bits) le h = h
bits_later n m (kind ∷ ports) [] le h = h
bits_later n m (kind ∷ ports) (row ∷ bits) le h = (h.0, within_later n m row le h.1, bits_later n m ports bits le h.2)

-- the bits of a new state
pub state_has_bits : (n m : ℕ) (ports : List PortType) → n + state_width ports ≤ m
    → HasBits m ports (state_bits n ports)
state_has_bits n m [] h = tt
state_has_bits n m (kind ∷ ports) h = (
  length-var_row n (type_bits kind),
  var_row-within m n (type_bits kind) (omega arith),
  state_has_bits (n + type_bits kind) m ports (omega arith),
)

-- in a model of its clauses a state has a valuation
pub state_typed : (g : GatesAreRight) (model : List Bool) (ports : List PortType) (bits : List (List Lit))
    → All IsCodable ports → HasBits (length model) ports bits → clauses_hold model (state_clauses ports bits) ≡ true
    → IsValuation ports (state_values model ports bits)
state_typed g model [] [] codable has h = tt
state_typed g model [] (row ∷ bits) codable has h = absurd has
state_typed g model (kind ∷ ports) [] codable has h = absurd has
state_typed g model (kind ∷ ports) (row ∷ bits) codable has h =
    let this : IsCodable kind = All-head IsCodable kind ports codable in
    let both = parts_hold model (code_clauses kind row) (state_clauses ports bits) h in (
      value_typed kind (lit_values model row) (code_below g model kind row has.0 has.1 this.1 (codable_few kind this) both.0),
      state_typed g model ports bits (All-tail IsCodable kind ports codable) has.2 both.1,
    )

-- each valuation has bits, whatever stands before
pub record Extension (ports : List PortType) (n : ℕ) (model : List Bool) (valuation : List Value) : Type 0 where
  pub more : List Bool
  pub width : length more ≡ state_width ports
  pub holds : clauses_hold (model ++ more) (state_clauses ports (state_bits n ports)) ≡ true
  pub reads : state_values (model ++ more) ports (state_bits n ports) ≡ valuation

pub state_extends : (g : GatesAreRight) (ports : List PortType) (n : ℕ) (model : List Bool) (valuation : List Value)
    → All IsCodable ports → n ≡ length model → IsValuation ports valuation → Extension ports n model valuation
state_extends g [] n model [] codable e h = record { more = []; width = refl; holds = refl; reads = refl }
state_extends g [] n model (v ∷ valuation) codable e h = absurd h
state_extends g (kind ∷ ports) n model [] codable e h = absurd h
state_extends g (kind ∷ ports) n model (v ∷ valuation) codable e h =
    let this : IsCodable kind = All-head IsCodable kind ports codable in
    let few : length (values kind) < 2 ^ 32 = codable_few kind this in
    let width : ℕ = type_bits kind in
    let place : ℕ = h.0.0 in
    let digits : List Bool = binary_digits width place in
    let wide : length digits ≡ width = length-binary_digits width place in
    let enough : length (values kind) ≤ 2 ^ width = count_fits (length (values kind)) this.1 few in
    let below : place < length (values kind) = h.0.1 in
    let number : binary_number digits ≡ place = digits_number width place (omega arith) in
    let rest = state_extends g ports (n + width) (model ++ digits) valuation (All-tail IsCodable kind ports codable)
    (let f : length (model ++ digits) ≡ length model + length digits = length-append model digits in omega arith) h.1 in
    let all : (model ++ digits) ++ rest.more ≡ model ++ (digits ++ rest.more) = append_assoc model digits rest.more in
    let total : length (model ++ (digits ++ rest.more)) ≡ n + (width + state_width ports) =
    length-append model (digits ++ rest.more) ∙ (let f : length (digits ++ rest.more) ≡ length digits + length rest.more = length-append digits rest.more in
    let w : length rest.more ≡ state_width ports = rest.width in omega arith) in
    let reads : lit_values (model ++ (digits ++ rest.more)) (var_row n width) ≡ digits = ap (λ k. lit_values (model ++ (digits ++ rest.more)) (var_row n k))
    (sym wide) ∙ row_reads model digits rest.more n e in
    let known : All (λ lit. lit.var < length (model ++ (digits ++ rest.more))) (var_row n width) = var_row-within
    (length (model ++ (digits ++ rest.more))) n
    width (omega arith) in
    record {
      more = digits ++ rest.more;
      width = length-append digits rest.more ∙ (let w : length rest.more ≡ state_width ports = rest.width in omega arith);
      holds = both_hold (model ++ (digits ++ rest.more)) (code_clauses kind (var_row n width)) (state_clauses ports (state_bits (n + width) ports))
          (code_holds g (model ++ (digits ++ rest.more)) kind (var_row n width) place (length-var_row n width) known few (ap binary_number reads ∙ number)
          below)
          (ap (λ l. clauses_hold l (state_clauses ports (state_bits (n + width) ports))) (sym all) ∙ rest.holds);
      reads = cons_same (value_at kind (lit_values (model ++ (digits ++ rest.more)) (var_row n width))) v _ _
          (ap (value_at kind) reads ∙ value_of_place kind v h.0 digits number)
          (ap (λ l. state_values l ports (state_bits (n + width) ports)) (sym all) ∙ rest.reads);
    }
  where
    cons_same : (a b : Value) (xs ys : List Value) → a ≡ b → xs ≡ ys → a ∷ xs ≡ b ∷ ys
    cons_same a b xs ys e f = rw (e, f) refl
