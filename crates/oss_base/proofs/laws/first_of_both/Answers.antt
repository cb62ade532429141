use Rattle.oss_base.proofs.SiteLaws.{first_of-append}
use Rattle.oss_base.proofs.laws.first_of_both.Goals as goal

pub returns : goal.returns
returns c = first_of-append
