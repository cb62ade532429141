use Rattle.std.specs.Prelude.{take}
use Rattle.spec_model.proofs.FreeRows.{IsTable}
use Rattle.spec_model.proofs.undriven.table_of.Given as goal

abbrev pub invariant-loop-target : goal.invariant-loop-target
invariant-loop-target l = IsTable l.table (take l.target-index l.targets)
