use Rattle.std.proofs.Common.{false, arith}
use Rattle.typed_ltl.proofs.RowLoops.{until_start, until_step}
use Rattle.typed_ltl.proofs.rows.until_in_loop.Goals as goal

pub loop-i-init : goal.loop-i-init
loop-i-init c = record {
  within = omega arith;
  above = omega (arith, c.requires.loop_at);
  holds = until_start false c.args.lefts.now c.args.rights.now c.requires.same;
}

pub loop-i-preserved : goal.loop-i-preserved
loop-i-preserved c =
    let inv = c.loop-i.invariant in
    record {
      within = omega arith;
      above = omega arith;
      holds = until_step false c.args.lefts.now c.args.rights.now c.loop-i.i c.loop-i.holds c.requires.same (omega arith) inv.within inv.holds;
    }
