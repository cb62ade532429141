use Rattle.level_verdicts.proofs.Unique.{verdicts_are_unique}
use Rattle.level_verdicts.proofs.laws.verdicts_are_unique.Goals as goal

pub returns : goal.returns
returns c = verdicts_are_unique
