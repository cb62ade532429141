use Rattle.std.proofs.Common.{arith}
use Rattle.typed_ltl.proofs.RowLoops.{shift_more, shift_later, shift_end}
use Rattle.typed_ltl.proofs.rows.shift.Goals as goal

pub loop-i-preserved : goal.loop-i-preserved
loop-i-preserved c =
    let inv = c.loop-i.invariant in
    record {
      within = omega arith;
      cells = shift_more c.args.loop_at c.args.cells.now c.loop-i.cells c.loop-i.i c.loop-i.later c.loop-i-test.true inv.within inv.cells inv.later;
      later = shift_later c.args.loop_at c.args.cells.now c.loop-i.cells c.loop-i.i c.loop-i-test.true inv.within inv.cells;
    }

pub returns : goal.returns
returns c = shift_end c.args.loop_at c.args.cells.now c.loop-i.cells c.loop-i.i c.loop-i-test.false c.loop-i.invariant.cells
