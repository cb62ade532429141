use Rattle.std.specs.Prelude.{◌≡◌, ◌++◌, filter}
use Rattle.spec_model.specs.FreeRows as rows
use Rattle.spec_model.specs.TargetKeys.{lacks_key}
use Rattle.spec_model.proofs.undriven.put_row.Given as goal

abbrev pub invariant-loop-place : goal.invariant-loop-place
invariant-loop-place l = l.free.items ≡ l.fn.free.items ++ filter (lacks_key l.connected) (rows.row l.sub l.place)
