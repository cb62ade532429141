use Rattle.std.proofs.Common.{◌≤◌, length}
use Rattle.sat_core.proofs.trail.Trail.last_opening.Given as goal

abbrev pub invariant-loop-place : goal.invariant-loop-place
invariant-loop-place l = l.place ≤ length l.self.steps.items

abbrev pub decreases-loop-place : goal.decreases-loop-place
decreases-loop-place l = l.place
