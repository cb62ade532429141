use Rattle.spec_limits.proofs.LimitLemmas.{put_step, put_all}
use Rattle.spec_limits.proofs.instances.put_places.Goals as goal

pub loop-component-preserved : goal.loop-component-preserved
loop-component-preserved c =
    put_step c.args.components.now c.loop-component.component-index _ c.loop-component.waiting.items c.put_place.new.waiting.items _
    c.loop-component-test.true c.in_ok-put_place.ensures c.loop-component.invariant

pub returns : goal.returns
returns c =
    put_all c.args.components.now c.loop-component.component-index c.loop-component.waiting.items _ c.loop-component-test.false c.loop-component.invariant
