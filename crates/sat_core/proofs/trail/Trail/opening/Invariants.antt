use Rattle.std.proofs.Common.{◌≡◌, ◌<◌, ◌≤◌, ℕ, false}
use Rattle.sat_core.specs.Search.{opens_level, step_at}
use Rattle.sat_core.proofs.trail.Trail.opening.Given as goal

abbrev pub invariant-loop-place : goal.invariant-loop-place
invariant-loop-place l = (p : ℕ) → l.from ≤ p → p < l.place → opens_level (step_at l.self.steps.items p).reason ≡ false
