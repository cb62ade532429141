-- Serves private contracts only: what is reported of a specification.
use Rattle.std.specs.Prelude.{◌≡◌, ℕ, List}
use Rattle.spec_model.specs.declared.spec.Spec.{Spec}
use Rattle.report.specs.declared.answers.Answer.{Answer}
use Rattle.report.specs.AllAnswers.{AreAnswers}
use Rattle.report.specs.Answers.{status}
use Rattle.report.specs.CheckTexts.{check_text}
use Rattle.ocra_tool.specs.declared.outcome.Report.{Report}

-- the verdicts of its obligations, their text and status
abbrev pub Reports : Spec → ℕ → Report → Type 0
Reports spec depth report = (answers : List Answer) × AreAnswers spec depth answers
    × (report.text ≡ check_text spec answers) × (report.status ≡ status answers)
