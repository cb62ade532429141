-- Progress counts the fairness conditions that a run of tableau states meets, one after the other and round and round:
-- on a fair run it passes every number (K. Claessen and N. Sörensson, A Liveness Checking Algorithm that Counts, 2012).

use Rattle.std.specs.Prelude.{ℕ, ◌+◌, ◌*◌, ◌%◌, Bool, ◌&&◌, None, length, nat_le, slice_index_or, if◌then◌else◌}
use Rattle.tableau.specs.TableauStates.{ClosureOverPorts, TableauState, fairness, meets_condition}

-- up to here progress is counted: k rounds
abbrev pub most_progress : ClosureOverPorts → ℕ → ℕ
most_progress t k = k * length (fairness t)

-- the state meets the fairness condition whose turn it is at this progress
abbrev pub meets_turn : ClosureOverPorts → TableauState → ℕ → Bool
meets_turn t s p = meets_condition s (slice_index_or (fairness t) (p % length (fairness t)) None)

-- The progress after a state that has this progress: one more where the condition whose turn it is is met, and else
-- the same.
abbrev pub progress_after : ClosureOverPorts → ℕ → TableauState → ℕ → ℕ
progress_after t k s p = if nat_le p (most_progress t k) && meets_turn t s p then p + 1 else p
