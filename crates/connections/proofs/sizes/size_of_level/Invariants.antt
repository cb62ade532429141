use Rattle.std.proofs.Common.{◌≡◌, ◌+◌, min, take, None}
use Rattle.std.specs.List.{sum_by}
use Rattle.connections.specs.Sizes.{contract_size, part_size, largest_level}
use Rattle.connections.proofs.sizes.size_of_level.Given as goal

abbrev pub invariant-loop-part : goal.invariant-loop-part
invariant-loop-part l = l.size
    ≡ min (contract_size l.spec l.item.component None l.item.contract
    + sum_by (part_size l.spec l.item.component) (take l.part-index l.part-items)) (largest_level + 1)
