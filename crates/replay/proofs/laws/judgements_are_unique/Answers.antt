use Rattle.replay.proofs.OneJudgement.{judgements_are_unique}
use Rattle.replay.proofs.laws.judgements_are_unique.Goals as goal

pub returns : goal.returns
returns c = judgements_are_unique
