use Rattle.report.proofs.Unique.{answers_unique}
use Rattle.report.proofs.laws.answers_are_unique.Goals as goal

pub returns : goal.returns
returns c = answers_unique c.verdicts_are_unique.ensures
