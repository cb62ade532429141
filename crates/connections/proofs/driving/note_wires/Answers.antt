use Rattle.connections.proofs.Rows.{noted_wires_more}
use Rattle.connections.proofs.driving.note_wires.Goals as goal

pub loop-i-preserved : goal.loop-i-preserved
loop-i-preserved c =
    let m = noted_wires_more c.args.rows.now.items c.args.wires.now c.loop-i.i c.index-wires-i.result c.loop-i-test.true c.index-wires-i.is in
    cc (m, c.note_in.ensures, c.row_of.ensures, c.loop-i.invariant)
