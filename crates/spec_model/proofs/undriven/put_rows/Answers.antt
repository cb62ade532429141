use Rattle.std.proofs.Common.{rules}
use Rattle.spec_model.proofs.FreeRows.{rows_more}
use Rattle.spec_model.proofs.undriven.put_rows.Goals as goal

pub loop-place-preserved : goal.loop-place-preserved
loop-place-preserved c =
    rows_more c.args.connected.now c.args.free.now.items c.loop-place.free.items c.put_row.new.free.items c.args.counts.now c.loop-place.place _
    (record { 0 = c.in_ok-number.field-0 })
    c.loop-place-test.true (search rules) c.in_ok-number.ensures c.loop-place.invariant c.in_ok-put_row.ensures
