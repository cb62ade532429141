use Rattle.std.specs.Prelude.{◌≡◌, ◌++◌, filter, take}
use Rattle.spec_model.specs.FreeRows as rows
use Rattle.spec_model.specs.TargetKeys.{lacks_key}
use Rattle.spec_model.proofs.undriven.put_rows.Given as goal

abbrev pub invariant-loop-place : goal.invariant-loop-place
invariant-loop-place l = l.free.items ≡ l.fn.free.items ++ filter (lacks_key l.connected) (rows.rows 0 (take l.place l.counts))
