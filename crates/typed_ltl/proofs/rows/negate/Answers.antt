use Rattle.std.proofs.Common.{arith}
use Rattle.typed_ltl.proofs.RowLoops.{negate_more, negate_end}
use Rattle.typed_ltl.proofs.rows.negate.Goals as goal

pub loop-cell-preserved : goal.loop-cell-preserved
loop-cell-preserved c = negate_more c.args.cells.now c.loop-cell.cells c.loop-cell.cell-index c.loop-cell-test.true c.loop-cell.invariant

pub returns : goal.returns
returns c = negate_end c.args.cells.now c.loop-cell.cells c.loop-cell.cell-index (omega arith) c.loop-cell.invariant
