use Rattle.std.proofs.Common.{arith}
use Rattle.typed_ltl.specs.Rows.{until_back}
use Rattle.typed_ltl.proofs.RowSteps.{Settled-start}
use Rattle.typed_ltl.proofs.RowLoops.{until_start, until_holds, until_more, until_end}
use Rattle.typed_ltl.proofs.rows.until_backwards.Goals as goal

pub loop-i-init : goal.loop-i-init
loop-i-init c = record {
  within = omega arith;
  cells = Settled-start (until_back c.args.after c.args.cells.now c.args.rights.now) c.args.cells.now;
  holds = until_start c.args.after c.args.cells.now c.args.rights.now c.requires;
}

pub loop-i-preserved : goal.loop-i-preserved
loop-i-preserved c =
    let inv = c.loop-i.invariant in
    record {
      within = omega arith;
      cells = until_more c.args.after c.args.cells.now c.args.rights.now c.loop-i.cells c.loop-i.i c.loop-i.holds
          c.requires c.loop-i-test.true inv.within inv.cells inv.holds;
      holds = until_holds c.args.after c.args.cells.now c.args.rights.now c.loop-i.cells c.loop-i.i c.loop-i.holds
          c.requires c.loop-i-test.true inv.within inv.cells inv.holds;
    }

pub returns : goal.returns
returns c = until_end c.args.after c.args.cells.now c.args.rights.now c.loop-i.cells c.loop-i.i c.requires c.loop-i-test.false c.loop-i.invariant.cells
