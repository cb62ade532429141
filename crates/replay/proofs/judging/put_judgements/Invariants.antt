use Rattle.replay.specs.Judgements.{first_contracts}
use Rattle.replay.specs.Judging.{AreJudged}
use Rattle.replay.proofs.judging.put_judgements.Given as goal

abbrev pub invariant-loop-place : goal.invariant-loop-place
invariant-loop-place l = AreJudged l.spec l.named (first_contracts l.sub l.place) l.fn.judgements l.judgements
