use Rattle.std.proofs.Common.{◌≡◌, ◌<◌, ℕ, None}
use Rattle.replay.specs.Reading.{slot_at}
use Rattle.replay.proofs.states.are_all_given.Given as goal

abbrev pub invariant-loop-slot : goal.invariant-loop-slot
invariant-loop-slot l = (place : ℕ) → place < l.slot-index → slot_at l.slots place ≡ None → ⊥
