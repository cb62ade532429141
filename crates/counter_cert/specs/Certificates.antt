-- Counter certificates: bounds on progress under guards, which hold at the start of every run of tableau states that
-- breaks a question, are kept by every step, and of which one has no guard. Progress passes every bound on a fair run
-- (K. Claessen and N. Sörensson, A Liveness Checking Algorithm that Counts, 2012), so no trace breaks the question. The
-- guards make them inductive, as lemmas do for invariants (A. R. Bradley, SAT-Based Model Checking without Unrolling,
-- 2011).

use Rattle.std.specs.Prelude.{◌≡◌, ℕ, ◌<◌, ◌≤◌, ℤ, pos, negsuc, List, [], All, Some, length, slice_get}
use Rattle.core_ltl.specs.declared.question.SignedNode.{SignedNode}
use Rattle.tableau.specs.TableauStates.{ClosureOverPorts, TableauState, IsTableauState, IsTableauStep}
use Rattle.tableau.specs.Questions.{IsSignedIn}
use Rattle.counter_cert.specs.declared.bounds.GuardedBound.{GuardedBound}
use Rattle.counter_cert.specs.Progress.{most_progress, progress_after}

-- each signed member of the guard is so in the state
abbrev pub GuardHolds : TableauState → List SignedNode → Type 0
GuardHolds s guard = All (IsSignedIn s) guard

-- progress is at most the bound, a whole number
abbrev pub IsUpTo : ℕ → ℤ → Type 0
IsUpTo p (pos b) = p ≤ b
IsUpTo p (negsuc n) = ⊥

-- A state with a progress meets a guarded bound: where its guard holds in the state, progress is at most the bound.
abbrev pub MeetsBound : TableauState → ℕ → GuardedBound → Type 0
MeetsBound s p entry = GuardHolds s entry.guard → IsUpTo p entry.bound

abbrev pub MeetsAll : TableauState → ℕ → List GuardedBound → Type 0
MeetsAll s p entries = All (MeetsBound s p) entries

-- no member stands twice, with whatever sign
abbrev pub NamesOnce : List SignedNode → Type 0
NamesOnce guard = (i j : ℕ) (x y : SignedNode) → slice_get guard i ≡ Some x → slice_get guard j ≡ Some y
    → x.node.0 ≡ y.node.0 → i ≡ j

-- a guard of at most w signed members of the closure, none of them twice
pub record IsGuard (t : ClosureOverPorts) (w : ℕ) (guard : List SignedNode) : Type 0 where
  pub few : length guard ≤ w
  pub known : All (λ x. x.node.0 < length t.closure.nodes) guard
  pub once : NamesOnce guard

-- from -1 to the most progress that is counted
abbrev pub IsProgressBound : ℕ → ℤ → Type 0
IsProgressBound most (pos b) = b ≤ most
IsProgressBound most (negsuc n) = n ≡ 0

pub record IsGuardedBound (t : ClosureOverPorts) (k w : ℕ) (entry : GuardedBound) : Type 0 where
  pub guard : IsGuard t w entry.guard
  pub bound : IsProgressBound (most_progress t k) entry.bound

-- some entry has no guard, so that its bound is one on all states
pub record HasUnguarded (entries : List GuardedBound) : Type 0 where
  pub place : ℕ
  pub entry : GuardedBound
  pub listed : slice_get entries place ≡ Some entry
  pub unguarded : entry.guard ≡ []

-- Every state of the tableau that has the question meets all entries at progress 0.
abbrev pub MetAtStart : ClosureOverPorts → List SignedNode → List GuardedBound → Type 0
MetAtStart t question entries = (s : TableauState) → IsTableauState t s → GuardHolds s question
    → MeetsAll s 0 entries

-- Where a state and a progress meet all entries, so does each state that it steps to, with the progress after it.
abbrev pub KeptBySteps : ClosureOverPorts → ℕ → List GuardedBound → Type 0
KeptBySteps t k entries = (s next : TableauState) (p : ℕ) → IsTableauState t s → IsTableauState t next
    → IsTableauStep t s next → MeetsAll s p entries → MeetsAll next (progress_after t k s p) entries

-- A certificate of a question, for a depth k and a width w.
pub record IsCertificate (t : ClosureOverPorts) (question : List SignedNode) (k w : ℕ)
    (entries : List GuardedBound) : Type 0 where
  pub bounds : All (IsGuardedBound t k w) entries
  pub unguarded : HasUnguarded entries
  pub start : MetAtStart t question entries
  pub step : KeptBySteps t k entries
