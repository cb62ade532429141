use Rattle.std.proofs.Common.{◌≡◌, ◌++◌, take}
use Rattle.report.specs.AllAnswers.{answers_from}
use Rattle.report.proofs.answering.push_level.Given as goal

abbrev pub invariant-loop-place : goal.invariant-loop-place
invariant-loop-place l = l.answers ≡ l.fn.answers ++ answers_from l.item 0 (take l.place l.verdicts)
