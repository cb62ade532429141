use Rattle.std.proofs.Common.{◌≡◌, List, []}
use Rattle.std.proofs.Common.{ap}
use Rattle.oss_base.specs.Sites.{first_of}
use Rattle.oss_base.proofs.SiteLaws.{first_is_least, least_is_first, none_is_empty, same_members_same_first}
use Rattle.oss_base.proofs.laws.first_is_least.Goals as goal

pub returns-clause-member : goal.returns-clause-member
returns-clause-member c = λ a s. (first_is_least a s, least_is_first a s)

pub returns-clause-none : goal.returns-clause-none
returns-clause-none c = λ a. (none_is_empty a, λ e. ap first_of e)

pub returns-clause-order : goal.returns-clause-order
returns-clause-order c = same_members_same_first
