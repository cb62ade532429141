-- The questions of a level over the ports that occur in it, as nodes of its closure, and the same questions over all
-- free ports, as formulas: ports on which a question does not depend change nothing (Clarke, Grumberg and Peled, Model
-- Checking, 1999: the cone of influence reduction).
use Rattle.std.specs.Prelude.{◌≡◌, ℕ, ◌<◌, Bool, true, false, List, [], ◌∷◌, length, Some, slice_get, All, ◌↔◌}
use Rattle.oss_base.specs.declared.ids.ComponentId.{ComponentId}
use Rattle.oss_base.specs.declared.ids.SubId.{SubId}
use Rattle.port_types.specs.declared.sets.Set24.{Set24}
use Rattle.typed_ltl.specs.Formulas.{Ltl}
use Rattle.typed_ltl.specs.Traces.{Trace}
use Rattle.typed_ltl.specs.Truth.{Holds}
use Rattle.spec_model.specs.declared.spec.Spec.{Spec}
use Rattle.spec_model.specs.declared.item.Item.{Item}
use Rattle.spec_model.specs.declared.wire.Wire.{Wire}
use Rattle.spec_model.specs.declared.wire.Target.{Target}
use Rattle.spec_model.specs.Expressions.{ReadsBelow, NumberReadsBelow, ChoiceReadsBelow}
use Rattle.spec_model.specs.Architecture.{connection, free_targets, IsWellFormed}
use Rattle.connections.specs.Substitution.{Reading, source_reading}
use Rattle.connections.specs.Substitution as by
use Rattle.core_ltl.specs.declared.question.SignedNode.{SignedNode}
use Rattle.core_ltl.specs.Nodes.{members}
use Rattle.core_ltl.specs.Questions.{Breaks}
use Rattle.typed_ltl.specs.declared.lasso.Lasso.{Lasso}
use Rattle.first_lasso.specs.Lassos.{WordHas, HasTraceOver}
use Rattle.first_lasso.specs.FirstLassos.{IsFirstLasso, HasNoneUpTo}
use Rattle.first_lasso.specs.UsedPorts.{AreUsed, types_at, HasValue, IsWidened, IsNarrowed}
use Rattle.levels.specs.declared.level.Level.{Level}
use Rattle.spec_model.specs.FreeTypes.{free_types}
use Rattle.levels.specs.Levels.{level_meaning, IsLevel}
use Rattle.levels.specs.LevelQuestions.{entailment, met_assumption, entailment_without, Asks}

-- the formula has this truth at position 0 of the trace
abbrev pub HasTruth : Trace → Ltl → Bool → Type 0
HasTruth w f true = Holds w f 0
HasTruth w f false = Holds w f 0 → ⊥

-- each formula has the truth that its sign says
abbrev pub HaveTruths : List (Ltl × Bool) → Trace → Type 0
HaveTruths [] w = Unit {0}
HaveTruths (e ∷ formulas) w = HasTruth w e.0 e.1 × HaveTruths formulas w

-- what a port stands for reads ports below n
abbrev pub ReadingBelow : ℕ → Reading → Type 0
ReadingBelow n (by.Free k) = k < n
ReadingBelow n (by.OfTruth f) = ReadsBelow n f
ReadingBelow n (by.OfNumber m) = NumberReadsBelow n m
ReadingBelow n (by.OfChoice m) = ChoiceReadsBelow n m

-- A specification whose contracts read ports of their component and whose connections read free ports.
pub record ReadsFreePorts (spec : Spec) : Type 0 where
  pub well_formed : IsWellFormed spec
  pub sources : (c : ComponentId) (t : Target) (w : Wire) → connection spec c t ≡ Some w
      → ReadingBelow (length (free_targets spec c)) (source_reading w.source)

-- A question of nodes is that of the formulas, over the used ones of the free ports.
pub record IsNarrowedQuestion (spec : Spec) (item : Item) (level : Level) (question : List SignedNode)
    (formulas : List (Ltl × Bool)) : Type 0 where
  pub used_ports : AreUsed (free_types spec item.component) level.places
  pub types : level.ports ≡ types_at (free_types spec item.component) level.places
  pub narrowed : IsNarrowed level.places (HaveTruths formulas) (λ w. Breaks (members level.closure) w question)

-- So it is for each question of a level.
abbrev pub EntailmentsAreNarrowed : Type 0
EntailmentsAreNarrowed = (spec : Spec) (item : Item) (level : Level) (question : List SignedNode) → ReadsFreePorts spec
    → IsLevel spec item level → Asks level question (entailment (level_meaning spec item))
    → IsNarrowedQuestion spec item level question (entailment (level_meaning spec item))

abbrev pub AssumptionsAreNarrowed : Type 0
AssumptionsAreNarrowed = (spec : Spec) (item : Item) (level : Level) (question : List SignedNode)
    (part : SubId × Ltl × Ltl) (j : ℕ) → ReadsFreePorts spec → IsLevel spec item level
    → slice_get (level_meaning spec item).parts j ≡ Some part
    → Asks level question (met_assumption (level_meaning spec item) part)
    → IsNarrowedQuestion spec item level question (met_assumption (level_meaning spec item) part)

abbrev pub DropsAreNarrowed : Type 0
DropsAreNarrowed = (spec : Spec) (item : Item) (level : Level) (question : List SignedNode) (set : Set24)
    → ReadsFreePorts spec → IsLevel spec item level
    → Asks level question (entailment_without set (level_meaning spec item))
    → IsNarrowedQuestion spec item level question (entailment_without set (level_meaning spec item))

-- What is known of a question of nodes over the ports of a level is known of the question of formulas over all free
-- ports: a lasso breaks the one exactly where it breaks the other when it is widened; a first lasso, widened, is the
-- first one; no lasso of at most k states breaks the one exactly where none breaks the other; and so with traces.
pub record IsKnownOverFree (spec : Spec) (item : Item) (level : Level) (question : List SignedNode)
    (formulas : List (Ltl × Bool)) : Type 0 where
  pub lassos : (lasso wide : Lasso) → IsWidened (free_types spec item.component) level.places lasso wide
      → WordHas (λ w. Breaks (members level.closure) w question) lasso ↔ WordHas (HaveTruths formulas) wide
  pub first : (k : ℕ) (lasso wide : Lasso) → IsWidened (free_types spec item.component) level.places lasso wide
      → IsFirstLasso level.ports (WordHas (λ w. Breaks (members level.closure) w question)) k lasso
      → IsFirstLasso (free_types spec item.component) (WordHas (HaveTruths formulas)) k wide
  pub none : (k : ℕ) → HasNoneUpTo level.ports (WordHas (λ w. Breaks (members level.closure) w question)) k
      ↔ HasNoneUpTo (free_types spec item.component) (WordHas (HaveTruths formulas)) k
  pub traces : HasTraceOver level.ports (λ w. Breaks (members level.closure) w question)
      ↔ HasTraceOver (free_types spec item.component) (HaveTruths formulas)

-- So it is where each free port has a type with a value.
abbrev pub NarrowedQuestionsAreKnown : Type 0
NarrowedQuestionsAreKnown = (spec : Spec) (item : Item) (level : Level) (question : List SignedNode)
    (formulas : List (Ltl × Bool)) → IsNarrowedQuestion spec item level question formulas
    → All HasValue (free_types spec item.component) → IsKnownOverFree spec item level question formulas
