use Rattle.oss_syntax.proofs.Distinct.{distinct}
use Rattle.oss_syntax.proofs.laws.trees_are_distinct.Goals as goal

-- src/laws.rt:5:1
pub returns : goal.returns
returns c = distinct
