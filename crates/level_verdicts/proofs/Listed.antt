-- The verdicts of a level, one after the other.
use Rattle.std.proofs.Common.{◌≡◌, ℕ, zero, suc, ◌+◌, ◌<◌, ◌≤◌, List, [], ◌∷◌, ◌++◌, length, drop, Some, slice_get}
use Rattle.std.proofs.Common.{refl, sym, ap, ◌∙◌, subst, arith}
use Rattle.std.proofs.Common.{append-nil, append_assoc}
use Rattle.oss_base.specs.declared.ids.SubId.{SubId}
use Rattle.typed_ltl.specs.Formulas.{Ltl}
use Rattle.typed_ltl.specs.declared.lasso.Verdict.{Verdict}
use Rattle.spec_model.specs.declared.spec.Spec.{Spec}
use Rattle.spec_model.specs.declared.item.Item.{Item}
use Rattle.core_ltl.specs.Nodes.{Members}
use Rattle.levels.specs.declared.level.PartNodes.{PartNodes}
use Rattle.levels.specs.Levels.{level_meaning, AreAllPartNodes}
use Rattle.levels.specs.LevelQuestions.{entailment, met_assumption}
use Rattle.level_verdicts.specs.Verdicts.{IsVerdict, AreAssumesVerdicts, AreVerdicts}

-- with the verdicts on the assumptions that are left these are all
abbrev pub AreVerdictsBut : Spec → Item → ℕ → List (SubId × Ltl × Ltl) → List Verdict → Type 0
AreVerdictsBut spec item k left vs = (rest : List Verdict) → AreAssumesVerdicts spec item k left rest
    → AreVerdicts spec item k (vs ++ rest)

pub verdicts_begin : (spec : Spec) (item : Item) (k : ℕ) (vs : List Verdict) (v : Verdict) → vs ≡ v ∷ []
    → IsVerdict spec item k (entailment (level_meaning spec item)) v
    → AreVerdictsBut spec item k (drop 0 (level_meaning spec item).parts) vs
verdicts_begin spec item k vs v e h =
    subst (AreVerdictsBut spec item k (level_meaning spec item).parts) (sym e) (λ rest g. (h, g))

drop_at : {X : Type 0} (xs : List X) (j : ℕ) (x : X) → slice_get xs j ≡ Some x → drop j xs ≡ x ∷ drop (suc j) xs
drop_at [] j x e = cc
drop_at (y ∷ xs) zero x e = cc
drop_at (y ∷ xs) (suc j) x e = drop_at xs j x e

pub verdicts_more : (spec : Spec) (item : Item) (k : ℕ) (vs : List Verdict) (v : Verdict) (j : ℕ) (part : SubId × Ltl × Ltl)
    → slice_get (level_meaning spec item).parts j ≡ Some part
    → IsVerdict spec item k (met_assumption (level_meaning spec item) part) v
    → AreVerdictsBut spec item k (drop j (level_meaning spec item).parts) vs
    → AreVerdictsBut spec item k (drop (j + 1) (level_meaning spec item).parts) (vs ++ v ∷ [])
verdicts_more spec item k vs v j part at h before rest g =
    let parts = (level_meaning spec item).parts in
    let next : suc j ≡ j + 1 = omega arith in
    let left : AreVerdictsBut spec item k (part ∷ drop (j + 1) (level_meaning spec item).parts) vs =
    subst (λ (ps : List (SubId × Ltl × Ltl)). AreVerdictsBut spec item k ps vs)
    (drop_at parts j part at ∙ ap (λ (n : ℕ). part ∷ drop n parts) next) before in
    subst (AreVerdicts spec item k) (sym (append_assoc vs (v ∷ []) rest)) (left (v ∷ rest) (h, g))

drop_all : {X : Type 0} (xs : List X) (n : ℕ) → length xs ≤ n → drop n xs ≡ []
drop_all [] zero le = refl
drop_all [] (suc n) le = refl
drop_all (x ∷ xs) zero le = absurd (omega (arith, le))
drop_all (x ∷ xs) (suc n) le = drop_all xs n (omega (arith, le))

pub verdicts_end : (spec : Spec) (item : Item) (k : ℕ) (vs : List Verdict) (n : ℕ) → length (level_meaning spec item).parts ≤ n
    → AreVerdictsBut spec item k (drop n (level_meaning spec item).parts) vs → AreVerdicts spec item k vs
verdicts_end spec item k vs n le h =
    let left : AreVerdictsBut spec item k [] vs =
    subst (λ (ps : List (SubId × Ltl × Ltl)). AreVerdictsBut spec item k ps vs) (drop_all (level_meaning spec item).parts n le) h in
    subst (AreVerdicts spec item k) (append-nil vs) (left [] tt)

pub as_many_parts : (m : Members) (places : List ℕ) (nodes : List PartNodes) (parts : List (SubId × Ltl × Ltl))
    → AreAllPartNodes m places nodes parts → length nodes ≡ length parts
as_many_parts m places [] [] h = refl
as_many_parts m places [] (part ∷ parts) h = absurd h
as_many_parts m places (n ∷ nodes) [] h = absurd h
as_many_parts m places (n ∷ nodes) (part ∷ parts) h = ap suc (as_many_parts m places nodes parts h.1)

pub part_there : (m : Members) (places : List ℕ) (nodes : List PartNodes) (parts : List (SubId × Ltl × Ltl)) (j : ℕ)
    → AreAllPartNodes m places nodes parts → j < length nodes → (part : SubId × Ltl × Ltl) × (slice_get parts j ≡ Some part)
part_there m places [] [] j h lt = absurd (omega (arith, lt))
part_there m places [] (part ∷ parts) j h lt = absurd h
part_there m places (n ∷ nodes) [] j h lt = absurd h
part_there m places (n ∷ nodes) (part ∷ parts) zero h lt = (part, refl)
part_there m places (n ∷ nodes) (part ∷ parts) (suc j) h lt = part_there m places nodes parts j h.1 (omega (arith, lt))
