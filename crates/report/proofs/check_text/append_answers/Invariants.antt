use Rattle.std.proofs.Common.{◌≡◌, ◌++◌, take}
use Rattle.std.specs.List.{flat_map}
use Rattle.report.specs.CheckTexts.{answer_text}
use Rattle.report.proofs.check_text.append_answers.Given as goal

abbrev pub invariant-loop-answer : goal.invariant-loop-answer
invariant-loop-answer l = l.text ≡ l.fn.text ++ flat_map (answer_text l.spec) (take l.answer-index l.answers)
