use Rattle.std.proofs.Common.{◌≡◌, take}
use Rattle.connections.specs.Tables.{rows_with_wires}
use Rattle.connections.proofs.driving.note_wires.Given as goal

abbrev pub invariant-loop-i : goal.invariant-loop-i
invariant-loop-i l = l.rows.items ≡ rows_with_wires l.fn.rows.items 0 (take l.i l.wires)
