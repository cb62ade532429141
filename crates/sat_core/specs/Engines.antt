-- What a solver keeps between calls, and what a search keeps while it runs. This file serves proofs only.

use Rattle.std.specs.Prelude.{◌≡◌, ◌<◌, ◌-◌, ◌++◌, ℕ, false, List, [], ◌∷◌, length, map, take, Contains, Option, Some}
use Rattle.std.specs.Prelude.{None, slice_get, slice_index_or}
use Rattle.cnf.specs.declared.lit.Lit.{Lit}
use Rattle.cnf.specs.Clauses.{opposite}
use Rattle.clause_log.specs.Derivations.{SameLits}
use Rattle.sat_core.specs.declared.clause_ref.ClauseRef.{ClauseRef}
use Rattle.sat_core.specs.declared.clause_ref.ClauseRef.TheVariants.{Assumed}
use Rattle.sat_core.specs.declared.trail.Step.{Step}
use Rattle.sat_core.specs.declared.chain.Derivation.{Derivation}
use Rattle.sat_core.specs.declared.decide.Choice.{Choice}
use Rattle.sat_core.specs.declared.decide.Choice.TheVariants.{Refuted, Falsified, Next, Done}
use Rattle.sat_core.specs.declared.search.Found.{Found}
use Rattle.sat_core.specs.declared.search.Found.TheVariants.{Next as NextStep, Answered}
use Rattle.sat_core.specs.declared.engine.Engine.{Engine}
use Rattle.sat_core.specs.Search.{ClauseLists, clause_lists, unit_clause, HasClause, clause_of, opens_level, AllFalse}
use Rattle.sat_core.specs.Search.{AllWithin, Justifies, Justified, AssumptionsTrue, level_marks, weight}
use Rattle.sat_core.specs.Learning.{IsFalseClause}
use Rattle.sat_core.specs.Decisions.{AreDerivations, AreTrueTo, AllAssigned, IsAnswer}
use Rattle.sat_core.specs.Watching.{IsPropagator, NoConflict, AllSettled}

-- a reference stands for an added or learnt clause with these literals
pub record RefersTo (k : ClauseLists) (reason : ClauseRef) (lits : List Lit) : Type 0 where
  pub named : HasClause k reason
  pub kept : opens_level (Some reason) ≡ false
  pub same : SameLits lits (clause_of k reason)

-- each kept clause has the literals of the clause that its reference stands for
abbrev pub AreKept : ClauseLists → List (List Lit) → List ClauseRef → Type 0
AreKept k clauses references =
    (n : ℕ) (reason : ClauseRef) → slice_get references n ≡ Some reason
    → RefersTo k reason (slice_index_or clauses n [])

-- each unit has the one literal of the clause that its reference stands for
pub record AreUnits (k : ClauseLists) (lits : List Lit) (reasons : List ClauseRef) : Type 0 where
  pub same : length reasons ≡ length lits
  pub each :
      (n : ℕ) (lit : Lit) (reason : ClauseRef) → slice_get lits n ≡ Some lit → slice_get reasons n ≡ Some reason
      → RefersTo k reason (unit_clause lit)

-- an added clause is among the kept ones, a unit, always true, or empty
pub data IsCovered (clauses : List (List Lit)) (units : List Lit) (clause : List Lit) : Type 0 where
  Kept : (n : ℕ) → n < length clauses → SameLits (slice_index_or clauses n []) clause → IsCovered clauses units clause
  InUnits : (lit : Lit) → Contains units lit → SameLits (unit_clause lit) clause → IsCovered clauses units clause
  Tautology : (lit : Lit) → Contains clause lit → Contains clause (opposite lit) → IsCovered clauses units clause
  Empty : clause ≡ [] → IsCovered clauses units clause

abbrev pub AllCovered : List (List Lit) → List (List Lit) → List Lit → Type 0
AllCovered added clauses units = (n : ℕ) → n < length added → IsCovered clauses units (slice_index_or added n [])

-- the kept clauses with their references, the units, and the learnt clauses with their derivations, over n variables
-- and the clauses that were added
pub record AreOver (n : ℕ) (added clauses : List (List Lit)) (references : List ClauseRef) (lits : List Lit)
    (reasons : List ClauseRef) (learnt : List (List Lit)) (derivations : List Derivation) : Type 0 where
  pub kept : AreKept (clause_lists added learnt []) clauses references
  pub units : AreUnits (clause_lists added learnt []) lits reasons
  pub covered : AllCovered added clauses lits
  pub derived : AreDerivations added learnt derivations
  pub added_within : AllWithin n added
  pub learnt_within : AllWithin n learnt

abbrev pub Keeps : List (List Lit) → Engine → Type 0
Keeps added e =
    AreOver e.propagator.links.vars added e.propagator.links.clauses e.propagator.references.items e.units.lits.items
    e.units.reasons.items e.learnt.clauses.items e.learnt.derivations.items

-- the propagator of an engine, where the first `upto` places of the trail are settled
abbrev pub Propagated : Engine → ℕ → Type 0
Propagated e upto =
    IsPropagator e.propagator.links e.propagator.references.items e.propagator.trail.steps.items
    e.propagator.trail.places.items e.propagator.waiting.steps.items e.propagator.waiting.places.items upto

-- what an engine keeps between calls over the clauses that were added
pub record IsEngine (added : List (List Lit)) (e : Engine) : Type 0 where
  pub propagator : Propagated e (length e.propagator.trail.steps.items - 1)
  pub settled :
      NoConflict e.propagator.links e.propagator.trail.steps.items
      → AllSettled e.propagator.links e.propagator.trail.steps.items (length e.propagator.trail.steps.items)
  pub keeps : Keeps added e
  pub phases : length e.phases.items ≡ e.propagator.links.vars

-- nothing was made true, and nothing waits
abbrev pub IsEngineAtRest : Engine → Type 0
IsEngineAtRest e = (e.propagator.trail.steps.items ≡ []) × (e.propagator.waiting.steps.items ≡ [])

-- an engine in a search: each literal was made true with a reason, and before the last one no clause was in conflict
pub record IsSearching (added : List (List Lit)) (assumed : List Lit) (e : Engine) : Type 0 where
  pub engine : IsEngine added e
  pub justified : Justified (clause_lists added e.learnt.clauses.items assumed) e.propagator.trail.steps.items
  pub assumed_within : AllWithin e.propagator.links.vars (map unit_clause assumed)
  pub before :
      NoConflict e.propagator.links (take (length e.propagator.trail.steps.items - 1) e.propagator.trail.steps.items)

-- a literal that can be made true next, with its reason
pub record CanFollow (k : ClauseLists) (e : Engine) (step : Step) : Type 0 where
  pub within : step.lit.var < e.propagator.links.vars
  pub free : slice_index_or e.propagator.trail.places.items step.lit.var None ≡ None
  pub justifies :
      Justifies k e.propagator.trail.steps.items (length e.propagator.trail.steps.items) step.lit step.reason

-- an assumption is false, a unit is, a literal is made true next, or each assumption and each unit is true and each
-- variable has a value
abbrev pub Chooses : ClauseLists → Engine → Choice → Type 0
Chooses k e (Refuted index) =
    HasClause k (Assumed index)
    × AllFalse e.propagator.trail.steps.items (length e.propagator.trail.steps.items) (clause_of k (Assumed index))
Chooses k e (Falsified reason) = IsFalseClause k e.propagator.trail.steps.items reason
Chooses k e (Next step) = CanFollow k e step
Chooses k e Done =
    AssumptionsTrue k e.propagator.trail.steps.items (length e.propagator.trail.steps.items)
    × AllAssigned e.propagator.trail.places.items
    × AreTrueTo e.propagator.trail.steps.items e.units.lits.items (length e.units.lits.items)

-- a search goes on with a literal
pub record TakesStep (added : List (List Lit)) (assumed : List Lit) (e : Engine) (step : Step) : Type 0 where
  pub search : IsSearching added assumed e
  pub quiet : NoConflict e.propagator.links e.propagator.trail.steps.items
  pub next : CanFollow (clause_lists added e.learnt.clauses.items assumed) e step

abbrev pub IsFound : List (List Lit) → List Lit → Engine → Found → Type 0
IsFound added assumed e (NextStep step) = TakesStep added assumed e step
IsFound added assumed e (Answered answer) = IsAnswer e.propagator.links.vars added e.learnt.clauses.items assumed answer

-- the weight of the trail with one step more
abbrev pub step_weight : Engine → Step → ℕ
step_weight e step =
    weight (length e.propagator.trail.places.items) (level_marks (e.propagator.trail.steps.items ++ step ∷ []))

abbrev pub found_weight : Engine → Found → ℕ
found_weight e (NextStep step) = step_weight e step
found_weight e (Answered answer) = 0

-- the variables are the same, and kept clauses were only added
pub record IsLonger (old new : Engine) : Type 0 where
  pub vars : new.propagator.links.vars ≡ old.propagator.links.vars
  pub kept : (more : List (List Lit)) × (new.propagator.links.clauses ≡ old.propagator.links.clauses ++ more)

-- what a solver keeps: the number of an empty clause, if one was added, and an engine that covers the clauses
pub record IsSolver (added : List (List Lit)) (empty : Option ℕ) (e : Engine) : Type 0 where
  pub found : (index : ℕ) → empty ≡ Some index → slice_get added index ≡ Some []
  pub none_empty : empty ≡ None → Contains added [] → ⊥
  pub engine : IsEngine added e
