use Rattle.oss_io.proofs.Said.{says_one}
use Rattle.oss_io.proofs.saying.say.Goals as goal

pub returns : goal.returns
returns g c = says_one c.write_all.result _ _ _ _ _ c.write_all.ensures.whole c.write_all.ensures.front c.write_all.ensures.cause
