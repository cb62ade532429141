use Rattle.std.specs.Prelude.{[]}
use Rattle.replay.specs.Judging.{AreJudged}
use Rattle.replay.proofs.Judged.{contracts_to}
use Rattle.replay.proofs.judging.judge.Given as goal

abbrev pub invariant-loop-place : goal.invariant-loop-place
invariant-loop-place l = AreJudged l.spec l.named (contracts_to l.spec l.named.component l.place) [] l.judgements
