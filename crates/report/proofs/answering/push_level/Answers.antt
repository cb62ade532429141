use Rattle.report.proofs.AllAnswers.{level_step}
use Rattle.report.proofs.answering.push_level.Goals as goal

pub loop-place-preserved : goal.loop-place-preserved
loop-place-preserved c =
    level_step c.args.item c.args.verdicts.now c.loop-place.place c.index-verdicts-place.result c.in_ok-name.name c.args.answers.now
    c.loop-place.answers c.push_answer.new.answers
    c.loop-place-test.true c.index-verdicts-place.is c.in_ok-name.ensures c.loop-place.invariant c.in_ok-push_answer.ensures
