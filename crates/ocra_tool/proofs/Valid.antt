-- What is printed as proved is valid.
use Rattle.std.proofs.Common.{◌≡◌, ℕ, zero, suc, ◌+◌, ◌≤◌, List, [], ◌∷◌, ◌++◌, Some, slice_get, refl, sym, ap, subst, ◌∙◌, arith, add-one}
use Rattle.std.proofs.Math.Logic.{inl, inr}
use Rattle.oss_base.specs.declared.ids.SubId.{SubId}
use Rattle.typed_ltl.specs.Formulas.{Ltl}
use Rattle.typed_ltl.specs.declared.lasso.Verdict.{Verdict}
use Rattle.typed_ltl.specs.declared.lasso.Verdict.TheVariants.{Proved}
use Rattle.spec_model.specs.declared.spec.Spec.{Spec}
use Rattle.spec_model.specs.declared.item.Item.{Item}
use Rattle.levels.specs.Levels.{level_meaning}
use Rattle.levels.specs.LevelQuestions.{entailment, met_assumption}
use Rattle.obligations.specs.declared.name.ObligationName.TheVariants.{Entails, Assumes}
use Rattle.obligations.specs.Validity.{IsValid}
use Rattle.level_verdicts.specs.Verdicts.{CanBeDecided, IsVerdict, AreVerdicts, AreAssumesVerdicts}
use Rattle.level_verdicts.specs.Laws.{ProvedIsValid}
use Rattle.report.specs.declared.answers.Answer.{Answer}
use Rattle.report.specs.AllAnswers.{obligation_of, answers_from, level_answers, AreAnswersFrom}
use Rattle.ocra_tool.specs.Decided.{IsValidObligation}

-- what is known of a specification whose levels are decided
pub record Decides (spec : Spec) (depth : ℕ) : Type 0 where
  pub law : ProvedIsValid
  pub can : CanBeDecided spec
  pub deep : 1 ≤ depth

abbrev EachValid : Spec → List Answer → Type 0
EachValid spec [] = Unit {0}
EachValid spec (a ∷ answers) = (a.verdict ≡ Proved → IsValidObligation spec a.name) × EachValid spec answers

pub each_at : (spec : Spec) (answers : List Answer) → EachValid spec answers → (n : ℕ) (a : Answer) → slice_get answers n ≡ Some a
    → a.verdict ≡ Proved → IsValidObligation spec a.name
each_at spec [] each n a at = cc
each_at spec (x ∷ answers) each zero a at =
    let same : x ≡ a = cc in subst (λ (y : Answer). y.verdict ≡ Proved → IsValidObligation spec y.name) same each.0
each_at spec (x ∷ answers) each (suc n) a at = each_at spec answers each.1 n a at

each_joined : (spec : Spec) (xs ys : List Answer) → EachValid spec xs → EachValid spec ys → EachValid spec (xs ++ ys)
each_joined spec [] ys left right = right
each_joined spec (x ∷ xs) ys left right = (left.0, each_joined spec xs ys left.1 right)

same_item : (x y : Item) → Some x ≡ Some y → x ≡ y
same_item x y e = cc

same_part : (x y : SubId × Ltl × Ltl) → Some x ≡ Some y → x ≡ y
same_part x y e = cc

entails_valid : (spec : Spec) (depth n : ℕ) (item : Item) → Decides spec depth → slice_get spec.items n ≡ Some item
    → IsVerdict spec item depth (entailment (level_meaning spec item)) Proved
    → IsValidObligation spec (Entails (record { 0 = n }))
entails_valid spec depth n item by at verdict = λ other found.
    subst (λ (i : Item). IsValid spec i.component (entailment (level_meaning spec i))) (same_item item other (sym at ∙ found))
    (by.law spec item depth (entailment (level_meaning spec item)) by.deep by.can (inl refl) verdict)

assumes_valid : (spec : Spec) (depth n place : ℕ) (item : Item) (part : SubId × Ltl × Ltl) → Decides spec depth
    → slice_get spec.items n ≡ Some item → slice_get (level_meaning spec item).parts place ≡ Some part
    → IsVerdict spec item depth (met_assumption (level_meaning spec item) part) Proved
    → IsValidObligation spec (Assumes (record { 0 = n }) place)
assumes_valid spec depth n place item part by at listed verdict = λ other told found given.
    let same : item ≡ other = same_item item other (sym at ∙ found) in
    let parts : part ≡ told = same_part part told (sym listed ∙ (ap (λ (i : Item). slice_get (level_meaning spec i).parts place) same ∙ given)) in
    subst (λ (i : Item). IsValid spec i.component (met_assumption (level_meaning spec i) told)) same
    (subst (λ (p : SubId × Ltl × Ltl). IsValid spec item.component (met_assumption (level_meaning spec item) p)) parts
    (by.law spec item depth (met_assumption (level_meaning spec item) part) by.deep by.can (inr (place, part, listed, refl)) verdict))

-- a list seen from a place on
here : {X : Type 0} (ys : List X) (x : X) (xs : List X) (k : ℕ) → ((j : ℕ) → slice_get ys (k + j) ≡ slice_get (x ∷ xs) j)
    → slice_get ys k ≡ Some x
here ys x xs k same = let e : k + 0 ≡ k = omega arith in (ap (slice_get ys) (sym e) ∙ same 0)

later : {X : Type 0} (ys : List X) (x : X) (xs : List X) (k j : ℕ) → ((j : ℕ) → slice_get ys (k + j) ≡ slice_get (x ∷ xs) j)
    → slice_get ys (k + 1 + j) ≡ slice_get xs j
later ys x xs k j same = let e : k + 1 + j ≡ k + suc j = omega arith in (ap (slice_get ys) e ∙ same (suc j))

-- the verdicts on the listed contracts from one on
parts_valid : (spec : Spec) (depth n place : ℕ) (item : Item) (parts : List (SubId × Ltl × Ltl)) (vs : List Verdict) → Decides spec depth
    → slice_get spec.items n ≡ Some item
    → ((j : ℕ) → slice_get (level_meaning spec item).parts (place + j) ≡ slice_get parts j)
    → AreAssumesVerdicts spec item depth parts vs → EachValid spec (answers_from (record { 0 = n }) (place + 1) vs)
parts_valid spec depth n place item [] [] by at listed are = tt
parts_valid spec depth n place item [] (v ∷ vs) by at listed are = absurd are
parts_valid spec depth n place item (part ∷ parts) [] by at listed are = absurd are
parts_valid spec depth n place item (part ∷ parts) (v ∷ vs) by at listed are = (
  λ proved. subst (λ (k : ℕ). IsValidObligation spec (obligation_of (record { 0 = n }) k)) (sym (add-one place))
      (assumes_valid spec depth n place item part by at (here (level_meaning spec item).parts part parts place listed)
      (subst (IsVerdict spec item depth (met_assumption (level_meaning spec item) part)) proved are.0)),
  parts_valid spec depth n (place + 1) item parts vs by at (λ j. later (level_meaning spec item).parts part parts place j listed) are.1,
)

level_valid : (spec : Spec) (depth n : ℕ) (item : Item) (vs : List Verdict) → Decides spec depth → slice_get spec.items n ≡ Some item
    → AreVerdicts spec item depth vs → EachValid spec (level_answers n vs)
level_valid spec depth n item [] by at are = absurd are
level_valid spec depth n item (v ∷ vs) by at are = (
  λ proved. entails_valid spec depth n item by at
      (subst (IsVerdict spec item depth (entailment (level_meaning spec item))) proved are.0),
  parts_valid spec depth n 0 item (level_meaning spec item).parts vs by at
      (λ j. let e : 0 + j ≡ j = omega arith in ap (slice_get (level_meaning spec item).parts) e) are.1,
)

levels_valid : (spec : Spec) (depth n : ℕ) (items : List Item) (answers : List Answer) → Decides spec depth
    → ((j : ℕ) → slice_get spec.items (n + j) ≡ slice_get items j) → AreAnswersFrom spec depth n items answers → EachValid spec answers
levels_valid spec depth n [] answers by at are = subst (EachValid spec) (sym are) tt
levels_valid spec depth n (item ∷ items) answers by at are =
    subst (EachValid spec) (sym are.3)
    (each_joined spec (level_answers n are.0) are.1 (level_valid spec depth n item are.0 by (here spec.items item items n at) are.2)
    (levels_valid spec depth (n + 1) items are.1 by (λ j. later spec.items item items n j at) are.4))

pub all_valid : (spec : Spec) (depth : ℕ) (answers : List Answer) → Decides spec depth → AreAnswersFrom spec depth 0 spec.items answers
    → (n : ℕ) (a : Answer) → slice_get answers n ≡ Some a → a.verdict ≡ Proved → IsValidObligation spec a.name
all_valid spec depth answers by are =
    each_at spec answers
    (levels_valid spec depth 0 spec.items answers by (λ j. let e : 0 + j ≡ j = omega arith in ap (slice_get spec.items) e) are)
