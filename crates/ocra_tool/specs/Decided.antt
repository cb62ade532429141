-- What `check` answers on a specification: the verdict of each obligation, the report and the status; what is proved
-- holds on all infinite traces, and where all is proved the whole system is safe (Cimatti and Tonetta,
-- Contracts-refinement proof system for component-based embedded systems, 2015).
use Rattle.std.specs.Prelude.{◌≡◌, ℕ, List, Some, slice_get}
use Rattle.oss_base.specs.declared.ids.SubId.{SubId}
use Rattle.typed_ltl.specs.Formulas.{Ltl}
use Rattle.typed_ltl.specs.declared.lasso.Verdict.TheVariants.{Proved}
use Rattle.spec_model.specs.declared.spec.Spec.{Spec}
use Rattle.spec_model.specs.declared.item.Item.{Item}
use Rattle.levels.specs.Levels.{level_meaning}
use Rattle.levels.specs.LevelQuestions.{entailment, met_assumption}
use Rattle.obligations.specs.declared.name.ObligationName.{ObligationName}
use Rattle.obligations.specs.declared.name.ObligationName.TheVariants.{Entails, Assumes}
use Rattle.obligations.specs.Systems.{IsSafe}
use Rattle.obligations.specs.Validity.{IsValid}
use Rattle.report.specs.declared.answers.Answer.{Answer}
use Rattle.report.specs.Answers.{status}
use Rattle.report.specs.CheckTexts.{check_text}
use Rattle.report.specs.AllAnswers.{AreAnswers}
use Rattle.ocra_tool.specs.Files.{IsSpecification}

-- The text is the report on the obligations of the specification that the bytes are: each is refuted by the first
-- lasso of at most `depth` states over the free ports that breaks its question; where there is none it is proved if no
-- formula of its level has a temporal operator or reads a next valuation, and else undecided.
pub record IsReportOf (depth width : ℕ) (bytes text : List ℕ) : Type 0 where
  pub spec : Spec
  pub described : IsSpecification width bytes spec
  pub answers : List Answer
  pub decided : AreAnswers spec depth answers
  pub is : text ≡ check_text spec answers

-- No infinite trace of the free ports breaks the question of the obligation.
abbrev pub IsValidObligation : Spec → ObligationName → Type 0
IsValidObligation spec (Entails n) = (item : Item) → slice_get spec.items n.0 ≡ Some item
    → IsValid spec item.component (entailment (level_meaning spec item))
IsValidObligation spec (Assumes n place) = (item : Item) (part : SubId × Ltl × Ltl)
    → slice_get spec.items n.0 ≡ Some item → slice_get (level_meaning spec item).parts place ≡ Some part
    → IsValid spec item.component (met_assumption (level_meaning spec item) part)

-- The text is the only report on the bytes, and the status is that of the report. What is proved is valid. Where the
-- status is 0 the system is safe.
pub record IsChecked (depth width : ℕ) (bytes text : List ℕ) (ended : ℕ) : Type 0 where
  pub report : IsReportOf depth width bytes text
  pub only : (other : List ℕ) → IsReportOf depth width bytes other → other ≡ text
  pub status : ended ≡ status report.answers
  pub valid : (n : ℕ) (answer : Answer) → slice_get report.answers n ≡ Some answer → answer.verdict ≡ Proved
      → IsValidObligation report.spec answer.name
  pub safe : ended ≡ 0 → IsSafe report.spec
