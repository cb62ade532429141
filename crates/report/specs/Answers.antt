-- Which verdict an answer has, and the exit status of all answers together.
use Rattle.std.specs.Prelude.{ℕ, Bool, true, false, List, if◌then◌else◌}
use Rattle.std.specs.List.{list_any}
use Rattle.typed_ltl.specs.declared.lasso.Verdict.TheVariants as verdict
use Rattle.typed_ltl.specs.declared.lasso.Verdict.{Verdict}
use Rattle.report.specs.declared.answers.Answer.{Answer}

abbrev pub says_proved : Verdict → Bool
says_proved verdict.Proved = true
says_proved verdict.Undecided = false
says_proved (verdict.Refuted lasso) = false

abbrev pub says_refuted : Verdict → Bool
says_refuted verdict.Proved = false
says_refuted verdict.Undecided = false
says_refuted (verdict.Refuted lasso) = true

abbrev pub says_undecided : Verdict → Bool
says_undecided verdict.Proved = false
says_undecided verdict.Undecided = true
says_undecided (verdict.Refuted lasso) = false

abbrev pub is_proved : Answer → Bool
is_proved answer = says_proved answer.verdict

abbrev pub is_refuted : Answer → Bool
is_refuted answer = says_refuted answer.verdict

abbrev pub is_undecided : Answer → Bool
is_undecided answer = says_undecided answer.verdict

-- 1 where something is refuted, else 2 where something is undecided, else 0
abbrev pub status : List Answer → ℕ
status answers = if list_any is_refuted answers then 1 else (if list_any is_undecided answers then 2 else 0)
