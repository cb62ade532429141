-- What a search does where no clause forces a literal, and what it answers.
use Rattle.std.specs.Prelude.{◌≡◌, ◌<◌, ◌++◌, ℕ, List, [], length, map, take, slice_get, slice_index_or, Option, Some}
use Rattle.std.specs.Prelude.{None}
use Rattle.cnf.specs.declared.lit.Lit.{Lit}
use Rattle.cnf.specs.Clauses.{IsModel, opposite}
use Rattle.sat_core.specs.declared.trail.Step.{Step}
use Rattle.sat_core.specs.declared.chain.Derivation.{Derivation}
use Rattle.sat_core.specs.declared.decide.Pending.{Pending}
use Rattle.sat_core.specs.declared.decide.Pending.TheVariants.{Wrong, Free}
use Rattle.sat_core.specs.declared.search.Answer.{Answer}
use Rattle.sat_core.specs.declared.search.Answer.TheVariants.{Sat, Unsat}
use Rattle.sat_core.specs.Search.{clause_lists, unit_clause, IsDerivation, MadeTrue, AllFalse}

-- every variable has a value
abbrev pub AllAssigned : List (Option ℕ) → Type 0
AllAssigned places = (var : ℕ) → var < length places → slice_index_or places var None ≡ None → ⊥

-- each of the first n literals of the list was made true
abbrev pub AreTrueTo : List Step → List Lit → ℕ → Type 0
AreTrueTo steps lits n = (i : ℕ) (lit : Lit) → i < n → slice_get lits i ≡ Some lit → MadeTrue steps (length steps) lit

-- a literal of the list is false, or has no value
abbrev pub IsPending : List Step → List (Option ℕ) → List Lit → Pending → Type 0
IsPending steps places lits (Wrong index) = (lit : Lit) × (slice_get lits index ≡ Some lit) × MadeTrue steps
    (length steps) (opposite lit)
IsPending steps places lits (Free index) = (lit : Lit) × (slice_get lits index ≡ Some lit) ×
    (slice_index_or places lit.var None ≡ None)

-- no clause of the list has all its literals false
abbrev pub NoneFalse : List (List Lit) → List Step → Type 0
NoneFalse clauses steps = (n : ℕ) → n < length clauses → AllFalse steps (length steps) (slice_index_or clauses n []) → ⊥

-- each learnt clause is derived from the clauses added and the clauses learnt before it
pub record AreDerivations (added learnt : List (List Lit)) (derivations : List Derivation) : Type 0 where
  pub same : length derivations ≡ length learnt
  pub each :
      (place : ℕ) (none : Derivation) → place < length learnt
      → IsDerivation (clause_lists added (take place learnt) []) (slice_index_or derivations place none).first
      (slice_index_or derivations place none).rest.items (slice_index_or learnt place [])

-- an answer is a model of the clauses and the assumptions, or derives the empty clause from them
abbrev pub IsAnswer : ℕ → List (List Lit) → List (List Lit) → List Lit → Answer → Type 0
IsAnswer n added learnt assumed (Sat model) = IsModel n (added ++ map unit_clause assumed) model
IsAnswer n added learnt assumed (Unsat derivation) = IsDerivation
    (clause_lists added learnt assumed) derivation.first derivation.rest.items []
