use Rattle.std.proofs.Common.{◌≡◌, take}
use Rattle.sat_core.specs.Meeting.{reached}
use Rattle.sat_core.proofs.meet.reached.Given as goal

abbrev pub invariant-loop-place : goal.invariant-loop-place
invariant-loop-place l = l.lits.items ≡ reached l.trail.places.items l.at (take l.place l.set.steps.items)
