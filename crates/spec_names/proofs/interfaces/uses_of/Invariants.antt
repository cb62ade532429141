use Rattle.std.proofs.Common.{◌≡◌, map, take}
use Rattle.std.specs.List.{flat_map}
use Rattle.spec_names.specs.Interfaces.{uses_of_item}
use Rattle.spec_names.specs.Uses.{use_at}
use Rattle.spec_names.proofs.interfaces.uses_of.Given as goal

abbrev pub invariant-loop-item : goal.invariant-loop-item
invariant-loop-item l = map use_at l.uses.items ≡ flat_map uses_of_item (take l.item-index l.items)
