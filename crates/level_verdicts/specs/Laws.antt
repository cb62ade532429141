-- Laws of verdicts: a level has one list of them, and what is proved by lassos of a few states holds on every infinite
-- trace, since one position decides state formulas (Manna and Pnueli, The Temporal Logic of Reactive and Concurrent
-- Systems, 1992).
use Rattle.std.specs.Prelude.{◌≡◌, ◌⊎◌, ℕ, ◌≤◌, Bool, List, Some, slice_get}
use Rattle.oss_base.specs.declared.ids.SubId.{SubId}
use Rattle.typed_ltl.specs.Formulas.{Ltl}
use Rattle.typed_ltl.specs.declared.lasso.Verdict.{Verdict}
use Rattle.typed_ltl.specs.declared.lasso.Verdict.TheVariants as verdict
use Rattle.spec_model.specs.declared.spec.Spec.{Spec}
use Rattle.spec_model.specs.declared.item.Item.{Item}
use Rattle.levels.specs.Levels.{LevelMeaning, level_meaning}
use Rattle.levels.specs.LevelQuestions.{entailment, met_assumption}
use Rattle.obligations.specs.Validity.{IsValid}
use Rattle.level_verdicts.specs.Verdicts.{CanBeDecided, IsVerdict, AreVerdicts}

-- Two lists of verdicts of one level are equal.
abbrev pub VerdictsAreUnique : Type 0
VerdictsAreUnique = (spec : Spec) (item : Item) (k : ℕ) (vs ws : List Verdict) → AreVerdicts spec item k vs
    → AreVerdicts spec item k ws → vs ≡ ws

-- a question of a level: its entailment, or that the assumption of one of its listed contracts is met
abbrev pub IsLevelQuestion : LevelMeaning → List (Ltl × Bool) → Type 0
IsLevelQuestion level formulas = (formulas ≡ entailment level)
    ⊎ ((j : ℕ) × (part : SubId × Ltl × Ltl) × (slice_get level.parts j ≡ Some part)
    × (formulas ≡ met_assumption level part))

-- A question of a level that is proved has no trace over the free ports that breaks it.
abbrev pub ProvedIsValid : Type 0
ProvedIsValid = (spec : Spec) (item : Item) (k : ℕ) (formulas : List (Ltl × Bool)) → 1 ≤ k → CanBeDecided spec
    → IsLevelQuestion (level_meaning spec item) formulas → IsVerdict spec item k formulas verdict.Proved
    → IsValid spec item.component formulas
