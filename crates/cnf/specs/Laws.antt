-- What the clauses of the gates say, of every list of truth values that has a value for each literal. So a
-- crate that has codings of its own, made of these gates, can tell what its own clauses say.

use Rattle.std.specs.Prelude.{◌≡◌, ℕ, ◌+◌, ◌*◌, ◌<◌, ◌≤◌, Bool, true, not, ℤ, ◌+ℤ◌, int_le, nat_le, List, ◌++◌, length}
use Rattle.std.specs.List.{All, list_any, list_all}
use Rattle.cnf.specs.declared.lit.Lit.{Lit}
use Rattle.cnf.specs.Clauses.{opposite, lit_holds, clauses_hold, lit_values, IsConservative}
use Rattle.cnf.specs.Gates.{literal, xor, xor_clauses, all_clauses, any_clauses}
use Rattle.cnf.specs.Arithmetic.{signed_number, le_clauses, le_literal, sum_clauses, sum_bits}
use Rattle.cnf.specs.Bounds.{constant_bits, has_places, binary_number, limit_clauses, at_most_const_clauses}

-- the list has a value for each literal
abbrev pub HasValues : List Bool → List Lit → Type 0
HasValues model lits = All (λ lit. lit.var < length model) lits

abbrev pub OppositesDiffer : Type 0
OppositesDiffer = (model : List Bool) (lit : Lit) → lit.var < length model
    → lit_holds model (opposite lit) ≡ not (lit_holds model lit)

abbrev pub XorIsRight : Type 0
XorIsRight = (model : List Bool) (n : ℕ) (a b : Lit) → n < length model → a.var < length model → b.var < length model
    → clauses_hold model (xor_clauses n a b) ≡ true
    → lit_holds model (literal n) ≡ xor (lit_holds model a) (lit_holds model b)

abbrev pub AllIsRight : Type 0
AllIsRight = (model : List Bool) (n : ℕ) (lits : List Lit) → n < length model → HasValues model lits
    → clauses_hold model (all_clauses n lits) ≡ true
    → lit_holds model (literal n) ≡ list_all (lit_holds model) lits

abbrev pub AnyIsRight : Type 0
AnyIsRight = (model : List Bool) (n : ℕ) (lits : List Lit) → n < length model → HasValues model lits
    → clauses_hold model (any_clauses n lits) ≡ true
    → lit_holds model (opposite (literal n)) ≡ list_any (lit_holds model) lits

abbrev pub AtMostConstIsRight : Type 0
AtMostConstIsRight = (model : List Bool) (n : ℕ) (row : List Lit) (bound : List Bool)
    → length row ≡ length bound → n < length model → HasValues model row
    → clauses_hold model (at_most_const_clauses n row bound) ≡ true
    → lit_holds model (literal n) ≡ int_le (signed_number (lit_values model row)) (signed_number bound)

abbrev pub LimitIsRight : Type 0
LimitIsRight = (model : List Bool) (row : List Lit) (bound : List Bool)
    → length row ≡ length bound → HasValues model row
    → clauses_hold model (limit_clauses row bound) ≡ nat_le (binary_number (lit_values model row)) (binary_number bound)

abbrev pub LeIsRight : Type 0
LeIsRight = (model : List Bool) (n : ℕ) (a b : List Lit)
    → 0 < length a → length a ≡ length b → n + length a ≤ length model → HasValues model a → HasValues model b
    → clauses_hold model (le_clauses n a b) ≡ true
    → lit_holds model (le_literal n a)
    ≡ int_le (signed_number (lit_values model a)) (signed_number (lit_values model b))

abbrev pub SumIsRight : Type 0
SumIsRight = (model : List Bool) (n : ℕ) (a b : List Lit)
    → 0 < length a → length a ≡ length b → n + 3 * length a ≤ length model → HasValues model a → HasValues model b
    → clauses_hold model (sum_clauses n a b) ≡ true
    → signed_number (lit_values model (sum_bits n a))
    ≡ signed_number (lit_values model a) +ℤ signed_number (lit_values model b)

abbrev pub ConstantIsRight : Type 0
ConstantIsRight = (places : ℕ) (z : ℤ) → has_places places z ≡ true → signed_number (constant_bits places z) ≡ z

-- all of these
pub record GatesAreRight : Type 0 where
  pub opposites : OppositesDiffer
  pub xor : XorIsRight
  pub all : AllIsRight
  pub any : AnyIsRight
  pub at_most_const : AtMostConstIsRight
  pub limit : LimitIsRight
  pub le : LeIsRight
  pub sum : SumIsRight
  pub constant : ConstantIsRight

-- conservative extensions follow one another, and adding nothing is one
abbrev pub ExtensionsCompose : Type 0
ExtensionsCompose = (n m k : ℕ) (xs ys zs : List (List Lit))
    → IsConservative n xs m ys → IsConservative m ys k zs → IsConservative n xs k zs

abbrev pub NothingExtends : Type 0
NothingExtends = (n : ℕ) (clauses : List (List Lit)) → IsConservative n clauses n clauses
