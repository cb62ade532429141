use Rattle.std.proofs.Common.{◌≡◌, take}
use Rattle.connections.specs.Tables.{drivers_of_rows, vacant_rows}
use Rattle.connections.proofs.driving.number_rows.Given as goal

abbrev pub invariant-loop-row : goal.invariant-loop-row
invariant-loop-row l = record {
  numbered : l.numbered.items ≡ drivers_of_rows 0 (take l.row-index l.rows);
  next : l.next ≡ vacant_rows (take l.row-index l.rows);
}
