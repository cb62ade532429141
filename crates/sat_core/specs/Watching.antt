-- What watched literals keep through a search, and how a propagation ends. This file serves proofs only.
--
-- A clause is looked at where a literal that it watches becomes false: M. W. Moskewicz, C. F. Madigan, Y. Zhao,
-- L. Zhang and S. Malik, Chaff: engineering an efficient SAT solver, Design Automation Conference (2001).

use Rattle.std.specs.Prelude.{◌≡◌, ◌≢◌, ◌<◌, ◌≤◌, ◌+◌, ◌++◌, ◌⊎◌, ℕ, List, [], ◌∷◌, length, Contains, Option, Some}
use Rattle.std.specs.Prelude.{None, slice_get, slice_index_or, nat_eq, if◌then◌else◌}
use Rattle.cnf.specs.declared.lit.Lit.{Lit}
use Rattle.cnf.specs.Clauses.{opposite}
use Rattle.clause_links.specs.WatchLists.{WatchLists, WatchesBoth, watchers, clause_lits, last_member}
use Rattle.sat_core.specs.declared.clause_ref.ClauseRef.{ClauseRef}
use Rattle.sat_core.specs.declared.trail.Step.{Step}
use Rattle.sat_core.specs.declared.propagator.Examined.{Examined}
use Rattle.sat_core.specs.declared.propagator.Examined.TheVariants.{Satisfied, Movable, Forcing, Falsified}
use Rattle.sat_core.specs.declared.propagator.Propagation.{Propagation}
use Rattle.sat_core.specs.declared.propagator.Propagation.TheVariants.{Quiet, Conflict}
use Rattle.sat_core.specs.Search.{lit_at, step_at, MadeTrue, AllFalse, Forces, IsTrail}
use Rattle.sat_core.specs.Learning.{OthersFalse}

-- where a literal that the clause watches was made false at the place, the other one that it watches was true by
-- then, or all the clause's literals but the other one are false from then on
abbrev pub IsSettledAt : WatchLists → List Step → ℕ → ℕ → Type 0
IsSettledAt lists steps clause place =
    (watch other : Lit) → WatchesBoth lists clause watch other → lit_at steps place ≡ opposite watch
    → MadeTrue steps (place + 1) other ⊎ OthersFalse steps (place + 1) (clause_lits lists clause) other

-- each clause is settled at each of the first places
abbrev pub AllSettled : WatchLists → List Step → ℕ → Type 0
AllSettled lists steps n = (clause place : ℕ) → place < n → IsSettledAt lists steps clause place

-- the literals of a clause are all false
abbrev pub IsConflicting : WatchLists → List Step → ℕ → Type 0
IsConflicting lists steps clause = AllFalse steps (length steps) (clause_lits lists clause)

-- no clause has all its literals false
abbrev pub NoConflict : WatchLists → List Step → Type 0
NoConflict lists steps = (clause : ℕ) → clause < length lists.clauses → IsConflicting lists steps clause → ⊥

-- a clause of the lists forces the literal that waits, and its reference is the reason
pub record IsForcedBy (lists : WatchLists) (references : List ClauseRef) (steps : List Step)
    (step : Step) : Type 0 where
  pub clause : ℕ
  pub within : clause < length lists.clauses
  pub reason : step.reason ≡ slice_get references clause
  pub forces : Forces steps (length steps) (clause_lits lists clause) step.lit

abbrev pub AreForced : WatchLists → List ClauseRef → List Step → List Step → Type 0
AreForced lists references steps waiting =
    (p : ℕ) → p < length waiting → IsForcedBy lists references steps (step_at waiting p)

-- the state between two propagations, where the first `upto` places of the trail are settled
pub record IsPropagator (lists : WatchLists) (references : List ClauseRef) (steps : List Step)
    (places : List (Option ℕ))
    (waiting : List Step) (queue_places : List (Option ℕ)) (upto : ℕ) : Type 0 where
  pub trail : IsTrail steps places
  pub vars : length places ≡ lists.vars
  pub queue : IsTrail waiting queue_places
  pub queue_vars : length queue_places ≡ lists.vars
  pub referred : length references ≡ length lists.clauses
  pub settled : AllSettled lists steps upto
  pub forced : AreForced lists references steps waiting

-- what a look at a clause finds that watches a literal that is now false
abbrev pub Examines : WatchLists → List Step → List (Option ℕ) → ℕ → Lit → Examined → Type 0
Examines lists steps places clause watch Satisfied =
    (other : Lit) × WatchesBoth lists clause watch other × MadeTrue steps (length steps) other
Examines lists steps places clause watch (Movable lit) =
    Contains (clause_lits lists clause) lit × (MadeTrue steps (length steps) (opposite lit) → ⊥)
    × ((other : Lit) × WatchesBoth lists clause watch other × (lit ≢ other))
Examines lists steps places clause watch (Forcing lit) =
    WatchesBoth lists clause watch lit × OthersFalse steps (length steps) (clause_lits lists clause) lit
    × (slice_index_or places lit.var None ≡ None)
Examines lists steps places clause watch Falsified = IsConflicting lists steps clause

-- the members of a list from one on; none from nothing on
abbrev pub rest_from : List ℕ → Option ℕ → List ℕ
rest_from xs None = []
rest_from [] (Some at) = []
rest_from (x ∷ xs) (Some at) = if nat_eq x at then x ∷ xs else rest_from xs (Some at)

-- the literal was made false by the last step
pub record IsWrong (steps : List Step) (watch : Lit) : Type 0 where
  pub last : ℕ
  pub long : length steps ≡ last + 1
  pub made : lit_at steps last ≡ opposite watch

-- a walk along the list of a literal that is now false has come to `at`, behind `before`; the clauses that it has
-- passed are settled at the last place and not conflicting
pub record IsVisiting (lists : WatchLists) (steps : List Step) (watch : Lit) (before at : Option ℕ) : Type 0 where
  pub front : List ℕ
  pub rest : List ℕ
  pub whole : watchers lists watch ≡ front ++ rest
  pub behind : before ≡ last_member front
  pub next : at ≡ slice_get rest 0
  pub each :
      (clause last : ℕ) → clause < length lists.clauses → length steps ≡ last + 1
      → Contains rest clause ⊎ (IsSettledAt lists steps clause last × (IsConflicting lists steps clause → ⊥))

-- how many clauses a walk has still to look at
abbrev pub left_from : WatchLists → Lit → Option ℕ → ℕ
left_from lists watch at = length (rest_from (watchers lists watch) at)

-- how the propagation of a literal ends
abbrev pub Propagates : WatchLists → List Step → Propagation → Type 0
Propagates lists steps Quiet = NoConflict lists steps × AllSettled lists steps (length steps)
Propagates lists steps (Conflict clause) = (clause < length lists.clauses) × IsConflicting lists steps clause

-- a clause can come to the watch lists: its first two literals differ, the first isn't false, and where the second
-- was made false, all but the first were by then
pub record CanWatch (steps : List Step) (lits : List Lit) : Type 0 where
  pub two : 2 ≤ length lits
  pub apart : slice_get lits 0 ≢ slice_get lits 1
  pub free : (a : Lit) → slice_get lits 0 ≡ Some a → MadeTrue steps (length steps) (opposite a) → ⊥
  pub others :
      (a b : Lit) (p : ℕ) → slice_get lits 0 ≡ Some a → slice_get lits 1 ≡ Some b → p < length steps
      → lit_at steps p ≡ opposite b → OthersFalse steps (p + 1) lits a
