use Rattle.std.proofs.Common.{◌≡◌, map, take}
use Rattle.std.specs.List.{flat_map}
use Rattle.spec_names.specs.Refinements.{uses_of_source}
use Rattle.spec_names.specs.Uses.{use_at}
use Rattle.spec_names.proofs.connections.uses_of.Given as goal

abbrev pub invariant-loop-item : goal.invariant-loop-item
invariant-loop-item l = map use_at l.uses.items ≡ flat_map uses_of_source (take l.item-index l.items)
