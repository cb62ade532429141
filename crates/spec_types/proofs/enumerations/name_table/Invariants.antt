use Rattle.std.specs.Prelude.{take}
use Rattle.spec_types.specs.NameTables as specs
use Rattle.spec_types.proofs.enumerations.name_table.Given as goal

abbrev pub invariant-loop-name : goal.invariant-loop-name
invariant-loop-name l = specs.IsNameTable (take l.name-index l.names) l.table
