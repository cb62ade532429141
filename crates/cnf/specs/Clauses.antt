-- What it means that literals, clauses and lists of clauses hold in a model.
--
-- This is the satisfaction relation of propositional logic in conjunctive normal form, as in
-- A. Biere, M. Heule, H. van Maaren, T. Walsh (eds.), Handbook of Satisfiability, chapter 2.

use Rattle.std.specs.Prelude.{◌≡◌, ◌≤◌, ℕ, Bool, true, false, not, List, ◌++◌, length, map, slice_index_or}
use Rattle.std.specs.Prelude.{if◌then◌else◌}
use Rattle.std.specs.List.{list_any, list_all}
use Rattle.cnf.specs.declared.lit.Lit.{Lit}

-- the other literal of the same variable
abbrev pub opposite : Lit → Lit
opposite lit = record { var = lit.var; positive = not lit.positive }

-- whether a literal holds in a model, a list of truth values by variable: a positive one where its
-- variable is true, a negative one where it is false. A variable past the end has no value, and
-- neither of its literals holds.
abbrev pub lit_holds : List Bool → Lit → Bool
lit_holds model lit =
    if lit.positive then slice_index_or model lit.var false else not (slice_index_or model lit.var true)

-- a clause holds where one of its literals does
abbrev pub clause_holds : List Bool → List Lit → Bool
clause_holds model clause = list_any (lit_holds model) clause

-- a list of clauses holds where each of them does
abbrev pub clauses_hold : List Bool → List (List Lit) → Bool
clauses_hold model clauses = list_all (clause_holds model) clauses

-- a model of clauses over n variables: n truth values in which all of the clauses hold
pub record IsModel (n : ℕ) (clauses : List (List Lit)) (model : List Bool) : Type 0 where
  pub vars : length model ≡ n
  pub holds : clauses_hold model clauses ≡ true

-- each model of the older clauses over n variables is the front of a model of the newer over m
abbrev pub EveryModelExtends : ℕ → List (List Lit) → ℕ → List (List Lit) → Type 0
EveryModelExtends n older m newer =
    (model : List Bool) → IsModel n older model → (more : List Bool) × IsModel m newer (model ++ more)

-- no list of n truth values is a model
abbrev pub HasNoModel : ℕ → List (List Lit) → Type 0
HasNoModel n clauses = (model : List Bool) → IsModel n clauses model → ⊥

-- a number of variables and a list of clauses over them
pub record Problem : Type 0 where
  pub vars : ℕ
  pub clauses : List (List Lit)

-- the truth values that a model gives to a row of literals
abbrev pub lit_values : List Bool → List Lit → List Bool
lit_values model row = map (lit_holds model) row

-- in every model of the clauses over n variables the literal has the truth value of the function
abbrev pub Represents : ℕ → List (List Lit) → Lit → (List Bool → Bool) → Type 0
Represents n clauses lit function =
    (model : List Bool) → IsModel n clauses model → lit_holds model lit ≡ function model

-- the newer clauses are the older ones and more, over at least as many variables, and lose no model
pub record IsConservative (n : ℕ) (older : List (List Lit)) (m : ℕ) (newer : List (List Lit)) : Type 0 where
  pub vars : n ≤ m
  pub clauses : (added : List (List Lit)) × (newer ≡ older ++ added)
  pub extends : EveryModelExtends n older m newer
