use Rattle.std.proofs.Common.{◌-◌, true, false, arith, ◌∙◌}
use Rattle.std.proofs.lemmas.List.{get_or_default}
use Rattle.sat_core.proofs.Logs.{all_needed_more, needed_step, needed_skip}
use Rattle.sat_core.proofs.log.close.Goals as goal

pub loop-at-preserved-then-needed-at : goal.loop-at-preserved-then-needed-at
loop-at-preserved-then-needed-at c =
    let old = c.loop-at.needed in
    let new = c.mark-then-needed-at.new.needed in
    let m = c.mark-then-needed-at.ensures in
    record {
      within = omega (arith, c.loop-at.invariant.within);
      last = all_needed_more old new c.args.last.now.first c.args.last.now.rest.items m.more c.loop-at.invariant.last;
      each = needed_step old new c.args.derivations.now c.loop-at.at (c.loop-at.at - 1) c.index-derivations-at.result (omega arith)
          (omega (arith, c.loop-at.invariant.within)) c.index-derivations-at.is c.requires.before m c.loop-at.invariant.each;
    }

pub loop-at-preserved : goal.loop-at-preserved
loop-at-preserved c =
    let needed = c.loop-at.needed in
    let at = c.loop-at.at - 1 in
    record {
      within = omega (arith, c.loop-at.invariant.within);
      last = c.loop-at.invariant.last;
      each = needed_skip needed c.args.derivations.now c.loop-at.at at (omega arith)
          (get_or_default needed at true false (omega arith) ∙ c.if-needed-at.false) c.loop-at.invariant.each;
    }
