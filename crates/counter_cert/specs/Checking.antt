-- What it is that a certificate checks, and what its two lists of clauses say.

use Rattle.std.specs.Prelude.{ℕ, Bool, List, All}
use Rattle.core_ltl.specs.declared.question.SignedNode.{SignedNode}
use Rattle.cnf.specs.Clauses.{Problem, IsModel}
use Rattle.clause_log.specs.Derivations.{Derives}
use Rattle.tableau.specs.TableauStates.{ClosureOverPorts, TableauState, IsTableauState, IsTableauStep}
use Rattle.counter_cert.specs.declared.bounds.GuardedBound.{GuardedBound}
use Rattle.counter_cert.specs.declared.bounds.CertLogs.{CertLogs}
use Rattle.counter_cert.specs.Progress.{progress_after}
use Rattle.counter_cert.specs.Certificates.{GuardHolds, MeetsAll, IsGuardedBound, HasUnguarded}
use Rattle.counter_cert.specs.StartClauses.{start_coding}
use Rattle.counter_cert.specs.StepClauses.{step_coding}

-- The entries are guarded bounds for a depth k and a width w, some has no guard, and each log derives the empty clause
-- from its list of clauses.
pub record Checks (t : ClosureOverPorts) (question : List SignedNode) (k w : ℕ) (entries : List GuardedBound)
    (logs : CertLogs) : Type 0 where
  pub bounds : All (IsGuardedBound t k w) entries
  pub unguarded : HasUnguarded entries
  pub start : Derives (start_coding t question entries).clauses logs.start
  pub step : Derives (step_coding t k entries).clauses logs.step

pub record HasModel (problem : Problem) : Type 0 where
  pub model : List Bool
  pub is : IsModel problem.vars problem.clauses model

-- a state of the tableau that has the question and does not meet all entries at progress 0
pub record BreaksStart (t : ClosureOverPorts) (question : List SignedNode) (entries : List GuardedBound) : Type 0 where
  pub state : TableauState
  pub is : IsTableauState t state
  pub asked : GuardHolds state question
  pub unmet : MeetsAll state 0 entries → ⊥

-- a state and a progress that meet all entries, and a state that it steps to, which with the progress after does not
pub record BreaksStep (t : ClosureOverPorts) (k : ℕ) (entries : List GuardedBound) : Type 0 where
  pub from : TableauState
  pub to : TableauState
  pub progress : ℕ
  pub from_is : IsTableauState t from
  pub to_is : IsTableauState t to
  pub step : IsTableauStep t from to
  pub met : MeetsAll from progress entries
  pub unmet : MeetsAll to (progress_after t k from progress) entries → ⊥
