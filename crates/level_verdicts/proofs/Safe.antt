-- Proved questions are valid, and valid levels compose.
use Rattle.std.proofs.Common.{◌≡◌, inl, inr, ℕ, zero, suc, ◌≤◌, List, [], ◌∷◌, Some, slice_get, subst, refl}
use Rattle.oss_base.specs.declared.ids.SubId.{SubId}
use Rattle.typed_ltl.specs.Formulas.{Ltl}
use Rattle.typed_ltl.specs.declared.lasso.Verdict.{Verdict}
use Rattle.typed_ltl.specs.declared.lasso.Verdict.TheVariants as verdict
use Rattle.spec_model.specs.declared.spec.Spec.{Spec}
use Rattle.spec_model.specs.declared.item.Item.{Item}
use Rattle.levels.specs.Levels.{level_meaning}
use Rattle.levels.specs.LevelQuestions.{entailment, met_assumption}
use Rattle.obligations.specs.Laws.{IsValidLevel, ContractsCompose}
use Rattle.level_verdicts.specs.Verdicts.{CanBeDecided, IsVerdict, AreAssumesVerdicts, AreVerdicts}
use Rattle.level_verdicts.specs.Laws.{ProvedIsValid}
use Rattle.level_verdicts.specs.Safety.{AreProved, ProvedSystemsAreSafe}

assumption_proved : (spec : Spec) (item : Item) (k : ℕ) (parts : List (SubId × Ltl × Ltl)) (vs : List Verdict)
    → AreAssumesVerdicts spec item k parts vs → AreProved vs → (j : ℕ) (part : SubId × Ltl × Ltl)
    → slice_get parts j ≡ Some part
    → IsVerdict spec item k (met_assumption (level_meaning spec item) part) verdict.Proved
assumption_proved spec item k [] vs h p j part e = cc
assumption_proved spec item k (x ∷ parts) [] h p j part e = absurd h
assumption_proved spec item k (x ∷ parts) (verdict.Proved ∷ vs) h p zero part e =
    let same : x ≡ part = cc in
    subst (λ (q : SubId × Ltl × Ltl). IsVerdict spec item k (met_assumption (level_meaning spec item) q) verdict.Proved) same h.0
assumption_proved spec item k (x ∷ parts) (verdict.Proved ∷ vs) h p (suc j) part e =
    assumption_proved spec item k parts vs h.1 p j part e
assumption_proved spec item k (x ∷ parts) (verdict.Undecided ∷ vs) h p j part e = absurd p
assumption_proved spec item k (x ∷ parts) (verdict.Refuted lasso ∷ vs) h p j part e = absurd p

level_valid : ProvedIsValid → (spec : Spec) (item : Item) (k : ℕ) → CanBeDecided spec → 1 ≤ k → (vs : List Verdict)
    → AreVerdicts spec item k vs → AreProved vs → IsValidLevel spec item
level_valid valid spec item k ok some [] h p = absurd h
level_valid valid spec item k ok some (verdict.Proved ∷ vs) h p =
    record {
      entailed = valid spec item k (entailment (level_meaning spec item)) some ok (inl refl) h.0;
      assumed = λ j part e.
          valid spec item k (met_assumption (level_meaning spec item) part) some ok (inr (j, part, e, refl))
          (assumption_proved spec item k (level_meaning spec item).parts vs h.1 p j part e);
    }
level_valid valid spec item k ok some (verdict.Undecided ∷ vs) h p = absurd p
level_valid valid spec item k ok some (verdict.Refuted lasso ∷ vs) h p = absurd p

pub proved_systems_are_safe : ProvedIsValid → ContractsCompose → ProvedSystemsAreSafe
proved_systems_are_safe valid compose spec k ok some proved d w trace leaves x =
    compose spec d ok.reads.well_formed
    (λ p c e r item by.
    (let v = proved by.stands.0 item by.stands.1 in
    level_valid valid spec item k ok some v.0 v.1 v.2))
    w trace leaves x
