use Rattle.std.proofs.Common.{◌≡◌, take}
use Rattle.std.specs.List.{count_by}
use Rattle.report.specs.Answers.{is_proved, is_refuted, is_undecided}
use Rattle.report.proofs.check_text.count.Given as goal

abbrev pub invariant-loop-answer : goal.invariant-loop-answer
invariant-loop-answer l = record {
  proved : l.totals.proved ≡ count_by is_proved (take l.answer-index l.answers);
  refuted : l.totals.refuted ≡ count_by is_refuted (take l.answer-index l.answers);
  undecided : l.totals.undecided ≡ count_by is_undecided (take l.answer-index l.answers);
}
