use Rattle.std.proofs.Common.{take}
use Rattle.report.specs.AllAnswers.{AreAnswersFrom}
use Rattle.report.proofs.answering.answer_levels.Given as goal

abbrev pub invariant-loop-place : goal.invariant-loop-place
invariant-loop-place l = AreAnswersFrom l.spec l.depth 0 (take l.place l.spec.items) l.answers
