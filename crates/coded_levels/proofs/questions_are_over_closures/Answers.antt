use Rattle.coded_levels.proofs.Clear.{questions_are_over_closures}
use Rattle.coded_levels.proofs.questions_are_over_closures.Goals as goal

pub returns : goal.returns
returns c = questions_are_over_closures
