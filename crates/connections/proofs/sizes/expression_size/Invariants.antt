use Rattle.std.proofs.Common.{◌≡◌, ◌+◌, min, take}
use Rattle.std.specs.List.{sum_by}
use Rattle.connections.specs.PortTables.{port_table, table_wire}
use Rattle.connections.specs.Sizes.{growth_of_use, largest_level}
use Rattle.connections.proofs.sizes.expression_size.Given as goal

abbrev pub invariant-loop-count : goal.invariant-loop-count
invariant-loop-count l = l.size
    ≡ min (l.uses.size + sum_by (growth_of_use (table_wire (port_table l.row))) (take l.count-index l.count-items)) (largest_level + 1)
