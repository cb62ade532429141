-- The questions of a level of state formulas are of state formulas, which read the free ports.
use Rattle.std.proofs.Common.{◌≡◌, inl, inr, ℕ, Bool, true, false, List, [], ◌∷◌, ◌++◌, filter, length}
use Rattle.std.proofs.Common.{Some, None, get_or, slice_get, All}
use Rattle.std.proofs.Common.{sym, subst}
use Rattle.std.proofs.lemmas.List.{length-map}
use Rattle.std.proofs.lemmas.List.Elements.{All-nil, All-cons, All-append, All-map, All-filter, All-weaker}
use Rattle.std.proofs.lemmas.Option.{get_or_from_slice_get, slice_get_within}
use Rattle.oss_base.specs.declared.ids.SubId.{SubId}
use Rattle.typed_ltl.specs.Formulas.{Ltl}
use Rattle.spec_model.specs.declared.spec.Spec.{Spec}
use Rattle.spec_model.specs.declared.item.Item.{Item}
use Rattle.spec_model.specs.Architecture.{free_targets}
use Rattle.spec_model.specs.Expressions.{IsState, ReadsBelow}
use Rattle.spec_model.specs.FreeTypes.{type_of_target, free_types}
use Rattle.connections.specs.LevelFormulas.{part_over_free}
use Rattle.levels.specs.Levels.{LevelMeaning, level_meaning, part_normal_form}
use Rattle.levels.specs.LevelQuestions.{with_normal_forms, broken_contract, entailment, is_of_other_sub, met_assumption}
use Rattle.narrowed_questions.specs.NarrowedQuestions.{ReadsFreePorts}
use Rattle.narrowed_questions.specs.StateQuestions.{AreStateFormulas}
use Rattle.narrowed_questions.proofs.FreeReads.{asked_reads, given_reads}
use Rattle.level_verdicts.specs.Verdicts.{IsStateLevel}
use Rattle.level_verdicts.specs.Laws.{IsLevelQuestion}

-- a state formula over the first n ports
abbrev IsDecided : ℕ → Ltl → Type 0
IsDecided n f = IsState f × ReadsBelow n f

abbrev IsDecidedPart : ℕ → SubId × Ltl × Ltl → Type 0
IsDecidedPart n part = IsDecided n part.1 × IsDecided n part.2

record IsDecidedMeaning (n : ℕ) (level : LevelMeaning) : Type 0 where
  pub asks : IsDecided n level.asks
  pub gives : IsDecided n level.gives
  pub parts : All (IsDecidedPart n) level.parts

abbrev PartReads : ℕ → SubId × Ltl × Ltl → Type 0
PartReads n part = ReadsBelow n part.1 × ReadsBelow n part.2

is_decided : (spec : Spec) (item : Item) → ReadsFreePorts spec → IsStateLevel spec item
    → IsDecidedMeaning (length (free_targets spec item.component)) (level_meaning spec item)
is_decided spec item reads state =
    let c = item.component in
    let n : ℕ = length (free_targets spec item.component) in
    let parts : All (PartReads n) (level_meaning spec item).parts =
    All-map (PartReads n) (part_over_free spec c) item.parts
    (λ k d lt.
    (let part = get_or item.parts k d in
    (asked_reads spec reads c (Some part.0) part.1, given_reads spec reads c (Some part.0) part.1))) in
    record {
      asks = (state.asks, asked_reads spec reads c None item.contract);
      gives = (state.gives, given_reads spec reads c None item.contract);
      parts = λ k d lt. (
        ((state.parts k d lt).0, (parts k d lt).0),
        ((state.parts k d lt).1, (parts k d lt).1),
      );
    }

abbrev IsDecidedSign : ℕ → Ltl × Bool → Type 0
IsDecidedSign n e = IsDecided n e.0

forms_decided : (n : ℕ) (parts : List (SubId × Ltl × Ltl)) → All (IsDecidedPart n) parts
    → All (IsDecidedSign n) (with_normal_forms parts)
forms_decided n parts h =
    All-map (IsDecidedSign n) (λ (part : SubId × Ltl × Ltl). (part_normal_form part, true)) parts
    (All-weaker (IsDecidedPart n) (λ part. IsDecidedSign n (part_normal_form part, true))
    (λ part g. ((g.0.0, g.1.0), (g.0.1, g.1.1))) parts h)

entailment_decided : (n : ℕ) (level : LevelMeaning) → IsDecidedMeaning n level → All (IsDecidedSign n) (entailment level)
entailment_decided n level h =
    let P = IsDecidedSign n in
    All-append (IsDecidedSign n) (with_normal_forms level.parts) (broken_contract level) (forms_decided n level.parts h.parts)
    (All-cons P (level.asks, true) ((level.gives, false) ∷ []) h.asks (All-cons P (level.gives, false) [] h.gives (All-nil P)))

assumption_decided : (n : ℕ) (level : LevelMeaning) (part : SubId × Ltl × Ltl) → IsDecidedMeaning n level → IsDecidedPart n part
    → All (IsDecidedSign n) (met_assumption level part)
assumption_decided n level part h g =
    let P = IsDecidedSign n in
    let others = filter (is_of_other_sub part.0) level.parts in
    All-cons P (level.asks, true) (with_normal_forms others ++ (part.1, false) ∷ []) h.asks
    (All-append P (with_normal_forms others) ((part.1, false) ∷ [])
    (forms_decided n others (All-filter (is_of_other_sub part.0) (IsDecidedPart n) level.parts h.parts))
    (All-cons P (part.1, false) [] g.0 (All-nil P)))

part_at : (n : ℕ) (parts : List (SubId × Ltl × Ltl)) → All (IsDecidedPart n) parts → (j : ℕ) (part : SubId × Ltl × Ltl)
    → slice_get parts j ≡ Some part → IsDecidedPart n part
part_at n parts h j part e =
    subst (IsDecidedPart n) (get_or_from_slice_get parts j part part e) (h j part (slice_get_within parts j part e))

question_decided : (n : ℕ) (level : LevelMeaning) (formulas : List (Ltl × Bool)) → IsDecidedMeaning n level
    → IsLevelQuestion level formulas → All (IsDecidedSign n) formulas
question_decided n level formulas h (inl e) = subst (All (IsDecidedSign n)) (sym e) (entailment_decided n level h)
question_decided n level formulas h (inr q) =
    subst (All (IsDecidedSign n)) (sym q.3) (assumption_decided n level q.1 h (part_at n level.parts h.parts q.0 q.1 q.2))

pub are_state_formulas : (spec : Spec) (item : Item) (formulas : List (Ltl × Bool)) → ReadsFreePorts spec
    → IsStateLevel spec item → IsLevelQuestion (level_meaning spec item) formulas
    → AreStateFormulas (length (free_types spec item.component)) formulas
are_state_formulas spec item formulas reads state asked =
    let size : length (free_targets spec item.component) ≡ length (free_types spec item.component) =
    sym (length-map (free_targets spec item.component) (type_of_target spec item.component)) in
    subst (λ (n : ℕ). AreStateFormulas n formulas) size
    (question_decided (length (free_targets spec item.component)) (level_meaning spec item) formulas
    (is_decided spec item reads state) asked)
