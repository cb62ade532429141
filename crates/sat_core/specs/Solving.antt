-- What contracts see of a solver.
--
-- A solver that keeps what it learns between calls under assumptions is that of N. Een and N. Sorensson, Temporal
-- induction by incremental SAT solving, Electronic Notes in Theoretical Computer Science 89 (2003).

use Rattle.std.specs.Prelude.{◌≡◌, ◌≢◌, ◌<◌, ◌++◌, ℕ, Bool, true, List, [], ◌∷◌, length, Contains, slice_index_or}
use Rattle.cnf.specs.declared.lit.Lit.{Lit}
use Rattle.cnf.specs.Clauses.{opposite, clause_holds, IsModel}
use Rattle.clause_log.specs.Derivations.{SameLits}
use Rattle.clause_links.specs.WatchLists.{WatchLists, clause_lits}
use Rattle.sat_core.specs.declared.propagator.Propagation.{Propagation}
use Rattle.sat_core.specs.declared.propagator.Propagation.TheVariants.{Quiet, Conflict}
use Rattle.sat_core.specs.Outcomes.{HasOpposites}

-- a number of variables, the clauses that were added, the kept clauses with their watch lists, and the literals that
-- were made true, in order
pub record Solving : Type 0 where
  pub vars : ℕ
  pub clauses : List (List Lit)
  pub kept : WatchLists
  pub true_lits : List Lit

-- all literals of the clause are false: the opposite of each was made true
abbrev pub IsAllFalse : List Lit → List Lit → Type 0
IsAllFalse true_lits clause = (lit : Lit) → Contains clause lit → Contains true_lits (opposite lit)

-- a kept clause has all its literals false
abbrev pub HasConflict : WatchLists → List Lit → Type 0
HasConflict kept true_lits =
    (clause : ℕ) × (clause < length kept.clauses) × IsAllFalse true_lits (clause_lits kept clause)

-- a propagation is quiet exactly where no kept clause has all its literals false, and else names such a clause
abbrev pub EndsPropagation : WatchLists → List Lit → Propagation → Type 0
EndsPropagation kept true_lits Quiet = HasConflict kept true_lits → ⊥
EndsPropagation kept true_lits (Conflict clause) =
    (clause < length kept.clauses) × IsAllFalse true_lits (clause_lits kept clause)

-- the kept clauses are the old ones and more, and each of these holds in each model of the added clauses
abbrev pub FollowFrom : ℕ → List (List Lit) → WatchLists → WatchLists → Type 0
FollowFrom vars added old new =
    (more : List (List Lit)) × (new.clauses ≡ old.clauses ++ more)
    × ((clause : List Lit) → Contains more clause → (model : List Bool) → IsModel vars added model
    → clause_holds model clause ≡ true)

-- no literal stands twice in the list
abbrev pub AreOnce : List Lit → Type 0
AreOnce lits =
    (p q : ℕ) (none : Lit) → p < length lits → q < length lits
    → slice_index_or lits p none ≡ slice_index_or lits q none → p ≡ q

-- a clause that is kept: it has two different literals, and no two opposite ones
pub record IsKept (clause : List Lit) : Type 0 where
  pub two : (a : Lit) × (b : Lit) × Contains clause a × Contains clause b × (a ≢ b)
  pub none_opposite : HasOpposites clause → ⊥

-- with a clause that is added, the kept ones grow by its literals without repeats, or not at all
pub record IsKeptWith (old new : List (List Lit)) (clause : List Lit) : Type 0 where
  pub kept : IsKept clause → (own : List Lit) × SameLits own clause × AreOnce own × (new ≡ old ++ own ∷ [])
  pub stays : (IsKept clause → ⊥) → new ≡ old
