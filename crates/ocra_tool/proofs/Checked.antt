-- What is answered on a specification.
use Rattle.std.specs.Prelude.{if◌then◌else◌}
use Rattle.std.specs.List.{list_any}
use Rattle.std.proofs.Common.{Bool, true, false, ◌≡◌, ℕ, ◌≤◌, List, Result, Ok, Err, IfOk, refl, subst, sym, ap, ◌∙◌}
use Rattle.std.proofs.Math.Logic.{inl, inr}
use Rattle.port_types.specs.declared.memory.NoMemory.{NoMemory}
use Rattle.spec_model.specs.declared.spec.Spec.{Spec}
use Rattle.level_verdicts.specs.Verdicts.{CanBeDecided}
use Rattle.level_verdicts.specs.Laws.{ProvedIsValid}
use Rattle.report.specs.declared.answers.Answer.{Answer}
use Rattle.report.specs.Answers.{status, is_refuted, is_undecided}
use Rattle.report.specs.AllAnswers.{AreAnswers, AnswersAreUnique, SuccessIsSafe}
use Rattle.report.specs.CheckTexts.{check_text}
use Rattle.ocra_tool.specs.declared.outcome.Report.{Report}
use Rattle.ocra_tool.specs.Decided.{IsReportOf, IsChecked}
use Rattle.ocra_tool.specs.Files.{IsSoleSpecification}
use Rattle.ocra_tool.specs.Reporting.{Reports}
use Rattle.ocra_tool.specs.Statuses.{IsDone}
use Rattle.ocra_tool.proofs.Valid.{all_valid}

done_of : (refuted undecided : Bool) → IsDone (if refuted then 1 else (if undecided then 2 else 0))
done_of true undecided = inr (inl refl)
done_of false true = inr (inr refl)
done_of false false = inl refl

-- what is known of answers
pub record Deciding : Type 0 where
  pub valid : ProvedIsValid
  pub safe : SuccessIsSafe
  pub answers : AnswersAreUnique

only_report : (depth width : ℕ) (bytes : List ℕ) (s : Spec) (answers : List Answer) → AnswersAreUnique → IsSoleSpecification width bytes s
    → AreAnswers s depth answers → (other : List ℕ) → IsReportOf depth width bytes other → other ≡ check_text s answers
only_report depth width bytes s answers unique sole are other report =
    let specs : report.spec ≡ s = sole.only report.spec report.described in
    let same : report.answers ≡ answers = unique s depth report.answers answers
    (subst (λ (x : Spec). AreAnswers x depth report.answers) specs report.decided) are in
    report.is ∙ ap (λ (x : Spec). check_text x report.answers) specs ∙ ap (check_text s) same

is_checked : (depth width : ℕ) (bytes : List ℕ) (s : Spec) (report : Report) → Deciding → CanBeDecided s → 1 ≤ depth
    → IsSoleSpecification width bytes s → Reports s depth report
    → IsDone report.status × IsChecked depth width bytes report.text report.status
is_checked depth width bytes s report by can deep sole told = (
  subst IsDone (sym told.3) (done_of (list_any is_refuted told.0) (list_any is_undecided told.0)),
  record {
    report = record { spec = s; described = sole.is; answers = told.0; decided = told.1; is = told.2 };
    only = λ other is. only_report depth width bytes s told.0 by.answers sole told.1 other is ∙ sym told.2;
    status = told.3;
    valid = all_valid s depth told.0 (record { law = by.valid; can = can; deep = deep }) told.1;
    safe = λ ended. by.safe s depth can deep told.0 told.1 (sym told.3 ∙ ended);
  },
)

pub checked_if : (depth width : ℕ) (bytes : List ℕ) (s : Spec) (r : Result Report NoMemory) → Deciding → CanBeDecided s → 1 ≤ depth
    → IsSoleSpecification width bytes s → IfOk r (Reports s depth)
    → IfOk r (λ report. IsDone report.status × IsChecked depth width bytes report.text report.status)
checked_if depth width bytes s (Ok report) by can deep sole told = is_checked depth width bytes s report by can deep sole told
checked_if depth width bytes s (Err none) by can deep sole told = tt
