use Rattle.std.proofs.Common.{◌≡◌, ◌+◌, take}
use Rattle.connections.specs.Tables.{drivers_of_row, vacant}
use Rattle.connections.proofs.driving.number_row.Given as goal

abbrev pub invariant-loop-cell : goal.invariant-loop-cell
invariant-loop-cell l = record {
  drivers : l.drivers.items ≡ drivers_of_row l.first (take l.cell-index l.row);
  next : l.next ≡ l.first + vacant (take l.cell-index l.row);
}
