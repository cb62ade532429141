use Rattle.oss_io.proofs.Said.{says_first, says_two}
use Rattle.oss_io.proofs.saying.say_two.Goals as goal

pub returns-in-Ok : goal.returns-in-Ok
returns-in-Ok g c = says_two _ _ _ _ _ _ _ _ c.in-Ok.ensures.whole c.in-Ok.ensures.cause.later c.say.ensures

pub returns-in-Err : goal.returns-in-Err
returns-in-Err g c = says_first _ _ _ _ _ _ c.in-Err.ensures.front c.in-Err.ensures.cause.failed c.in-Err.ensures.cause.later
