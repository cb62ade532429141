use Rattle.std.proofs.Common.{◌≡◌, take, length}
use Rattle.sat_core.specs.Search.{IsTrail}
use Rattle.sat_core.proofs.trail.Trail.backtrack.Given as goal

abbrev pub invariant-loop-self : goal.invariant-loop-self
invariant-loop-self l = record {
  trail : IsTrail l.self.steps.items l.self.places.items;
  vars : length l.self.places.items ≡ length l.fn.self.places.items;
  steps : take l.keep l.self.steps.items ≡ take l.keep l.fn.self.steps.items;
}

abbrev pub decreases-loop-self : goal.decreases-loop-self
decreases-loop-self l = length l.self.steps.items
