use Rattle.spec_model.proofs.FreeRows.{row_more}
use Rattle.spec_model.proofs.undriven.put_row.Goals as goal

pub loop-place-preserved : goal.loop-place-preserved
loop-place-preserved c =
    row_more c.args.connected.now c.args.free.now.items c.loop-place.free.items c.put.new.free.items c.args.sub c.loop-place.place c.in_ok-target.target
    c.in_ok-target.ensures c.in_ok-put.ensures c.loop-place.invariant
