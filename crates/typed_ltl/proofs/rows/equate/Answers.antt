use Rattle.std.proofs.Common.{arith}
use Rattle.typed_ltl.proofs.RowLoops.{equate_more, equate_end}
use Rattle.typed_ltl.proofs.rows.equate.Goals as goal

pub loop-i-preserved : goal.loop-i-preserved
loop-i-preserved c =
    equate_more c.args.cells.now c.args.others.now c.loop-i.cells c.loop-i.i c.requires c.loop-i-test.true c.loop-i.invariant

pub returns : goal.returns
returns c = equate_end c.args.cells.now c.args.others.now c.loop-i.cells c.loop-i.i c.requires (omega arith) c.loop-i.invariant
