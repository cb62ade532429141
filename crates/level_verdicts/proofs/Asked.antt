-- The verdict on a question of nodes is that on the question of formulas that the nodes ask.
use Rattle.std.proofs.Common.{◌≡◌, ◌↔◌, ℕ, ◌<◌, Bool, true, List, All, Some, length, slice_get, sym, subst}
use Rattle.oss_base.specs.declared.ids.SubId.{SubId}
use Rattle.typed_ltl.specs.Formulas.{Ltl}
use Rattle.typed_ltl.specs.declared.lasso.Verdict.{Verdict}
use Rattle.spec_model.specs.declared.spec.Spec.{Spec}
use Rattle.spec_model.specs.declared.item.Item.{Item}
use Rattle.spec_model.specs.FreeTypes.{free_types}
use Rattle.core_ltl.specs.declared.question.SignedNode.{SignedNode}
use Rattle.core_ltl.specs.Nodes.{Listing}
use Rattle.first_lasso.specs.UsedPorts.{HasValue}
use Rattle.levels.specs.declared.level.Level.{Level}
use Rattle.levels.specs.Levels.{level_meaning, IsLevel}
use Rattle.levels.specs.LevelQuestions.{entailment, met_assumption, Asks}
use Rattle.narrowed_questions.specs.NarrowedQuestions.{ReadsFreePorts, IsNarrowedQuestion, EntailmentsAreNarrowed, AssumptionsAreNarrowed}
use Rattle.narrowed_questions.specs.NarrowedQuestions.{NarrowedQuestionsAreKnown}
use Rattle.tableau.specs.Questions.{IsQuestionOver}
use Rattle.level_verdicts.specs.declared.deciding.LevelSearch.{LevelSearch}
use Rattle.level_verdicts.specs.Steps.{IsSearchOf, IsVerdictByNodes}
use Rattle.level_verdicts.specs.Verdicts.{IsStateLevel, IsVerdict}

pub record AskingLaws : Type 0 where
  pub entailments : EntailmentsAreNarrowed
  pub assumptions : AssumptionsAreNarrowed
  pub known : NarrowedQuestionsAreKnown

-- the level of an item whose formulas read free ports with values, and whether it is one of state formulas
pub record IsKnownLevel (spec : Spec) (item : Item) (level : Level) (is_state : Bool) : Type 0 where
  pub reads : ReadsFreePorts spec
  pub some : All HasValue (free_types spec item.component)
  pub is : IsLevel spec item level
  pub state : (is_state ≡ true) ↔ IsStateLevel spec item

-- a question that is narrowed, with the verdict on its nodes
pub record HasVerdictByNodes (spec : Spec) (item : Item) (level : Level) (is_state : Bool) (k : ℕ) (v : Verdict) : Type 0 where
  pub question : List SignedNode
  pub told : IsVerdictByNodes spec level question k is_state v

verdict_on : AskingLaws → (spec : Spec) (item : Item) (level : Level) (is_state : Bool) (k : ℕ) (v : Verdict) (formulas : List (Ltl × Bool))
    → IsKnownLevel spec item level is_state → (h : HasVerdictByNodes spec item level is_state k v)
    → IsNarrowedQuestion spec item level h.question formulas → IsVerdict spec item k formulas v
verdict_on laws spec item level is_state k v formulas of h narrowed =
    h.told item formulas (of.is).component (laws.known spec item level h.question formulas narrowed of.some) of.state

pub entailment_verdict : AskingLaws → (spec : Spec) (item : Item) (level : Level) (is_state : Bool) (k : ℕ) (v : Verdict)
    → IsKnownLevel spec item level is_state → (h : HasVerdictByNodes spec item level is_state k v)
    → Asks level h.question (entailment (level_meaning spec item)) → IsVerdict spec item k (entailment (level_meaning spec item)) v
entailment_verdict laws spec item level is_state k v of h asks =
    verdict_on laws spec item level is_state k v (entailment (level_meaning spec item)) of h
    (laws.entailments spec item level h.question of.reads of.is asks)

pub assumption_verdict : AskingLaws → (spec : Spec) (item : Item) (level : Level) (is_state : Bool) (k : ℕ) (v : Verdict)
    (j : ℕ) (part : SubId × Ltl × Ltl) → IsKnownLevel spec item level is_state → (h : HasVerdictByNodes spec item level is_state k v)
    → slice_get (level_meaning spec item).parts j ≡ Some part → Asks level h.question (met_assumption (level_meaning spec item) part)
    → IsVerdict spec item k (met_assumption (level_meaning spec item) part) v
assumption_verdict laws spec item level is_state k v j part of h at asks =
    verdict_on laws spec item level is_state k v (met_assumption (level_meaning spec item) part) of h
    (laws.assumptions spec item level h.question part j of.reads of.is at asks)

pub question_over : (level : Level) (search : LevelSearch) (question : List SignedNode) → IsSearchOf level search
    → All (λ x. x.node.0 < length level.closure.nodes) question → IsQuestionOver search.tableau question
question_over level search question is h =
    subst (λ (closure : Listing). All (λ x. x.node.0 < length closure.nodes) question) (sym is.closure) h
