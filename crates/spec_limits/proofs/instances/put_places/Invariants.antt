use Rattle.std.proofs.Common.{◌≡◌, ◌++◌, drop}
use Rattle.spec_limits.specs.Counting.{places_among}
use Rattle.spec_limits.proofs.instances.put_places.Given as goal

abbrev pub invariant-loop-component : goal.invariant-loop-component
invariant-loop-component l = l.waiting.items ++ places_among (drop l.component-index l.components) ≡ l.fn.waiting.items ++ places_among l.components
