-- The verdicts of the questions of a level. A question is refuted by the first of its shortest lassos (Schuppan and
-- Biere, Shortest Counterexamples for Symbolic Model Checking of LTL with Past, 2005) and, where there is none, proved
-- if one position decides each formula of the level (the state formulas of Manna and Pnueli, The Temporal Logic of
-- Reactive and Concurrent Systems, 1992).
use Rattle.std.specs.Prelude.{ℕ, Bool, List, [], ◌∷◌, All}
use Rattle.oss_base.specs.declared.ids.SubId.{SubId}
use Rattle.typed_ltl.specs.Formulas.{Ltl}
use Rattle.typed_ltl.specs.declared.lasso.Verdict.{Verdict}
use Rattle.typed_ltl.specs.declared.lasso.Verdict.TheVariants as verdict
use Rattle.spec_model.specs.declared.spec.Spec.{Spec}
use Rattle.spec_model.specs.declared.item.Item.{Item}
use Rattle.spec_model.specs.Expressions.{IsState}
use Rattle.spec_model.specs.FreeTypes.{free_types}
use Rattle.first_lasso.specs.Lassos.{WordHas}
use Rattle.first_lasso.specs.FirstLassos.{IsFirstLasso, HasNoneUpTo}
use Rattle.levels.specs.Levels.{level_meaning}
use Rattle.levels.specs.LevelQuestions.{entailment, met_assumption}
use Rattle.narrowed_questions.specs.NarrowedQuestions.{HaveTruths, ReadsFreePorts}
use Rattle.coded_levels.specs.CodableTypes.{HasCodableTypes}

-- A specification whose levels can be decided: its formulas read ports that are there and of the kinds that they want.
pub record CanBeDecided (spec : Spec) : Type 0 where
  pub reads : ReadsFreePorts spec
  pub types : HasCodableTypes spec

-- No formula of the level, over the free ports, has a temporal operator or reads a next valuation.
pub record IsStateLevel (spec : Spec) (item : Item) : Type 0 where
  pub asks : IsState (level_meaning spec item).asks
  pub gives : IsState (level_meaning spec item).gives
  pub parts : All (λ (part : SubId × Ltl × Ltl). IsState part.1 × IsState part.2) (level_meaning spec item).parts

-- A question is refuted by the first lasso of at most k states over the free ports that breaks it. Where none does, it
-- is proved if the level is one of state formulas, and else undecided.
abbrev pub IsVerdict : Spec → Item → ℕ → List (Ltl × Bool) → Verdict → Type 0
IsVerdict spec item k formulas (verdict.Refuted lasso) =
    IsFirstLasso (free_types spec item.component) (WordHas (HaveTruths formulas)) k lasso
IsVerdict spec item k formulas verdict.Proved =
    HasNoneUpTo (free_types spec item.component) (WordHas (HaveTruths formulas)) k × IsStateLevel spec item
IsVerdict spec item k formulas verdict.Undecided =
    HasNoneUpTo (free_types spec item.component) (WordHas (HaveTruths formulas)) k × (IsStateLevel spec item → ⊥)

-- one after the other, the verdicts on the assumptions of these listed contracts
abbrev pub AreAssumesVerdicts : Spec → Item → ℕ → List (SubId × Ltl × Ltl) → List Verdict → Type 0
AreAssumesVerdicts spec item k [] [] = Unit {0}
AreAssumesVerdicts spec item k (part ∷ parts) (v ∷ vs) =
    IsVerdict spec item k (met_assumption (level_meaning spec item) part) v × AreAssumesVerdicts spec item k parts vs
AreAssumesVerdicts spec item k _ _ = ⊥

-- The verdicts of a level: on its entailment, then on the assumptions of the listed contracts in the order of the list.
abbrev pub AreVerdicts : Spec → Item → ℕ → List Verdict → Type 0
AreVerdicts spec item k [] = ⊥
AreVerdicts spec item k (v ∷ vs) = IsVerdict spec item k (entailment (level_meaning spec item)) v
    × AreAssumesVerdicts spec item k (level_meaning spec item).parts vs
