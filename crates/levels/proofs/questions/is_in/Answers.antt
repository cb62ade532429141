use Rattle.levels.proofs.Stepwise.{past_set}
use Rattle.levels.proofs.questions.is_in.Goals as goal

pub returns-else-place-lt24 : goal.returns-else-place-lt24
returns-else-place-lt24 c = past_set c.args.set c.args.place c.if-place-lt24.false
