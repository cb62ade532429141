-- A level has one list of verdicts.
use Rattle.std.proofs.Common.{◌≡◌, ℕ, ◌<◌, ◌≤◌, Bool, List, [], ◌∷◌, length, refl, ap, arith}
use Rattle.oss_base.specs.declared.ids.SubId.{SubId}
use Rattle.typed_ltl.specs.Formulas.{Ltl}
use Rattle.typed_ltl.specs.declared.lasso.Lasso.{Lasso}
use Rattle.typed_ltl.specs.declared.lasso.Verdict.{Verdict}
use Rattle.typed_ltl.specs.declared.lasso.Verdict.TheVariants as verdict
use Rattle.spec_model.specs.declared.spec.Spec.{Spec}
use Rattle.spec_model.specs.declared.item.Item.{Item}
use Rattle.spec_model.specs.FreeTypes.{free_types}
use Rattle.port_types.specs.declared.types.PortType.{PortType}
use Rattle.first_lasso.specs.Lassos.{WordHas}
use Rattle.first_lasso.specs.FirstLassos.{IsFirstLasso, HasNoneUpTo}
use Rattle.first_lasso.proofs.FirstLassos.{first_lasso_unique}
use Rattle.levels.specs.Levels.{level_meaning}
use Rattle.levels.specs.LevelQuestions.{entailment, met_assumption}
use Rattle.narrowed_questions.specs.NarrowedQuestions.{HaveTruths}
use Rattle.level_verdicts.specs.Verdicts.{IsVerdict, AreAssumesVerdicts}
use Rattle.level_verdicts.specs.Laws.{VerdictsAreUnique}

-- a first lasso is one that breaks the question
not_none : (ports : List PortType) (has : Lasso → Type 0) (k : ℕ) (lasso : Lasso) → IsFirstLasso ports has k lasso
    → HasNoneUpTo ports has k → ⊥
not_none ports has k lasso first none =
    let more : k < length lasso.states = none lasso first.witness in
    let few : length lasso.states ≤ k = first.short in
    absurd (omega (arith, more, few))

verdict_unique : (spec : Spec) (item : Item) (k : ℕ) (formulas : List (Ltl × Bool)) (v w : Verdict)
    → IsVerdict spec item k formulas v → IsVerdict spec item k formulas w → v ≡ w
verdict_unique spec item k formulas (verdict.Refuted a) (verdict.Refuted b) h g =
    ap verdict.Refuted (first_lasso_unique (free_types spec item.component) (WordHas (HaveTruths formulas)) k a b h g)
verdict_unique spec item k formulas (verdict.Refuted a) verdict.Proved h g =
    absurd (not_none (free_types spec item.component) (WordHas (HaveTruths formulas)) k a h g.0)
verdict_unique spec item k formulas (verdict.Refuted a) verdict.Undecided h g =
    absurd (not_none (free_types spec item.component) (WordHas (HaveTruths formulas)) k a h g.0)
verdict_unique spec item k formulas verdict.Proved (verdict.Refuted b) h g =
    absurd (not_none (free_types spec item.component) (WordHas (HaveTruths formulas)) k b g h.0)
verdict_unique spec item k formulas verdict.Proved verdict.Proved h g = refl
verdict_unique spec item k formulas verdict.Proved verdict.Undecided h g = absurd (g.1 h.1)
verdict_unique spec item k formulas verdict.Undecided (verdict.Refuted b) h g =
    absurd (not_none (free_types spec item.component) (WordHas (HaveTruths formulas)) k b g h.0)
verdict_unique spec item k formulas verdict.Undecided verdict.Proved h g = absurd (h.1 g.1)
verdict_unique spec item k formulas verdict.Undecided verdict.Undecided h g = refl

same_row : (v w : Verdict) (vs ws : List Verdict) → v ≡ w → vs ≡ ws → v ∷ vs ≡ w ∷ ws
same_row v w vs ws e f = cc

assumes_unique : (spec : Spec) (item : Item) (k : ℕ) (parts : List (SubId × Ltl × Ltl)) (vs ws : List Verdict)
    → AreAssumesVerdicts spec item k parts vs → AreAssumesVerdicts spec item k parts ws → vs ≡ ws
assumes_unique spec item k [] [] [] h g = refl
assumes_unique spec item k [] [] (w ∷ ws) h g = absurd g
assumes_unique spec item k [] (v ∷ vs) ws h g = absurd h
assumes_unique spec item k (part ∷ parts) [] ws h g = absurd h
assumes_unique spec item k (part ∷ parts) (v ∷ vs) [] h g = absurd g
assumes_unique spec item k (part ∷ parts) (v ∷ vs) (w ∷ ws) h g =
    same_row v w vs ws (verdict_unique spec item k (met_assumption (level_meaning spec item) part) v w h.0 g.0)
    (assumes_unique spec item k parts vs ws h.1 g.1)

pub verdicts_are_unique : VerdictsAreUnique
verdicts_are_unique spec item k [] ws h g = absurd h
verdicts_are_unique spec item k (v ∷ vs) [] h g = absurd g
verdicts_are_unique spec item k (v ∷ vs) (w ∷ ws) h g =
    same_row v w vs ws (verdict_unique spec item k (entailment (level_meaning spec item)) v w h.0 g.0)
    (assumes_unique spec item k (level_meaning spec item).parts vs ws h.1 g.1)
