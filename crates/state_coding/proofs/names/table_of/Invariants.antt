use Rattle.std.proofs.Common.{◌≡◌, take}
use Rattle.std.specs.Prelude.{map, string_bytes}
use Rattle.state_coding.proofs.names.table_of.Given as goal

-- the table has the names so far
abbrev pub invariant-loop-i : goal.invariant-loop-i
invariant-loop-i l = map string_bytes l.table.keys ≡ take l.i l.names
