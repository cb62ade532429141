use Rattle.report.proofs.AllAnswers as all
use Rattle.report.proofs.laws.success_is_safe.Goals as goal

pub returns : goal.returns
returns c = all.success_is_safe c.proved_systems_are_safe.ensures
