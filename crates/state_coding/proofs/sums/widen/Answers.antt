use Rattle.std.proofs.Common.{◌+◌, ◌-◌, arith}
use Rattle.state_coding.proofs.SumSteps.{widened, top_goes_on}
use Rattle.state_coding.proofs.sums.widen.Goals as goal

pub loop-init : goal.loop-init
loop-init c = rw c.in_ok-wide.ensures (widened c.args.row.now c.args.places _ _ (omega (arith, c.if-row-eq0.false)) (omega arith))

pub loop-preserved : goal.loop-preserved
loop-preserved c =
    top_goes_on (c.args.places - c.loop.counter) (c.args.places - (c.loop.counter + 1)) c.loop.wide _ _ _ (omega (arith, c.loop-test.true))
    c.in_ok-push.ensures.ok c.loop.invariant
