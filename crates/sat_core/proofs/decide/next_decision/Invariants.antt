use Rattle.std.proofs.Common.{◌≡◌, ◌<◌, ◌≤◌, ◌-◌, ℕ, None, length, get_or}
use Rattle.sat_core.proofs.decide.next_decision.Given as goal

-- the variables looked at have values
abbrev pub invariant-loop-from : goal.invariant-loop-from
invariant-loop-from l = (var : ℕ) → l.fn.from ≤ var → var < l.from → get_or l.trail.places.items var None ≡ None → ⊥

abbrev pub decreases-loop-from : goal.decreases-loop-from
decreases-loop-from l = length l.phases - l.from
