use Rattle.replay.proofs.Noting.{given_push_some, given_push_none}
use Rattle.replay.proofs.states.given_values.Goals as goal

pub loop-slot-preserved-in-Continue-1 : goal.loop-slot-preserved-in-Continue-1
loop-slot-preserved-in-Continue-1 c =
    given_push_some c.loop-slot.yielded c.in-Some.slot c.in-Some-slot.value c.loop-slot.values c.push.new.self c.in_ok-push.ensures.ok c.loop-slot.invariant
    c.in-Some-slot.is

pub loop-slot-preserved : goal.loop-slot-preserved
loop-slot-preserved c = given_push_none c.loop-slot.yielded c.in-Some.slot c.loop-slot.values c.loop-slot.invariant c.in_default.is
