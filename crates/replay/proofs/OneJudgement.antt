-- A lasso has one list of judgements.
use Rattle.std.proofs.Common.{◌≡◌, ◌↔◌, ℕ, zero, suc, ◌+◌, ◌<◌, Bool, true, false, IsTrue, List, [], ◌∷◌, ◌++◌, map, length}
use Rattle.std.proofs.Common.{Option, Some, None, slice_get, refl, sym, ◌∙◌, arith}
use Rattle.std.specs.List.{range_with_len, flat_map, AllZip}
use Rattle.oss_base.specs.declared.ids.ComponentId.{ComponentId}
use Rattle.oss_base.specs.declared.ids.ContractId.{ContractId}
use Rattle.oss_base.specs.declared.ids.SubId.{SubId}
use Rattle.spec_model.specs.Architecture.{subs_of}
use Rattle.spec_model.specs.declared.contract.Contract.{Contract}
use Rattle.spec_model.specs.declared.spec.Spec.{Spec}
use Rattle.connections.specs.LevelFormulas.{contracts_at}
use Rattle.replay.specs.declared.judgement.Judgement.{Judgement}
use Rattle.replay.specs.declared.named.NamedLasso.{NamedLasso}
use Rattle.replay.specs.Judgements.{all_contracts_at, judged_contracts, IsJudgement, AreJudgements}
use Rattle.replay.specs.Laws.{JudgementsAreUnique}
use Rattle.replay.proofs.Spelling.{Each, each_append}

-- the contract at the place is there
abbrev HasContract : Spec → ComponentId → Option SubId × ContractId → Type 0
HasContract spec c at = (k : Contract) × (slice_get (contracts_at spec c at.0) at.1.0 ≡ Some k)

there : {X : Type 0} (xs : List X) (k : ℕ) → k < length xs → (x : X) × (slice_get xs k ≡ Some x)
there [] k l = absurd (omega arith)
there (x ∷ xs) zero l = (x, refl)
there (x ∷ xs) (suc k) l = there xs k (omega arith)

-- a fact of what stands for each number of a row of numbers
each_in_range : {X : Type 0} (P : X → Type 0) (f : ℕ → X) (a n : ℕ) → ((k : ℕ) → k < a + n → P (f k)) → Each P (map f (range_with_len a n))
each_in_range P f a zero so = tt
each_in_range P f a (suc n) so = (so a (omega arith), each_in_range P f (a + 1) n (λ k l. so k (omega arith)))

each_joined : {X A : Type 0} (P : A → Type 0) (f : X → List A) → ((x : X) → Each P (f x)) → (xs : List X) → Each P (flat_map f xs)
each_joined P f so [] = tt
each_joined P f so (x ∷ xs) = each_append P (f x) (flat_map f xs) (so x) (each_joined P f so xs)

contracts_there : (spec : Spec) (c : ComponentId) (s : Option SubId) → Each (HasContract spec c) (all_contracts_at spec c s)
contracts_there spec c s =
    each_in_range (HasContract spec c) (λ k. (s, record { 0 = k })) 0 (length (contracts_at spec c s)) (λ k l. there (contracts_at spec c s) k (omega arith))

all_there : (spec : Spec) (c : ComponentId) → Each (HasContract spec c) (judged_contracts spec c)
all_there spec c =
    let of_sub : ℕ → List (Option SubId × ContractId) = λ k. all_contracts_at spec c (Some (record { 0 = k })) in
    let subs : List ℕ = range_with_len 0 (length (subs_of spec c)) in
    each_append (HasContract spec c) (all_contracts_at spec c None) (flat_map of_sub subs) (contracts_there spec c None)
    (each_joined (HasContract spec c) of_sub (λ k. contracts_there spec c (Some (record { 0 = k }))) subs)

truth_once : (a b : Bool) (P : Type 0) → (IsTrue a ↔ P) → (IsTrue b ↔ P) → a ≡ b
truth_once true true P h g = refl
truth_once false false P h g = refl
truth_once true false P h g = absurd (differ (g.1 (h.0 refl)))
  where
    differ : false ≡ true → ⊥
    differ e = cc e
truth_once false true P h g = absurd (differ (h.1 (g.0 refl)))
  where
    differ : false ≡ true → ⊥
    differ e = cc e

record SameParts (a b : Judgement) : Type 0 where
  pub component : a.component ≡ b.component
  pub sub : a.sub ≡ b.sub
  pub contract : a.contract ≡ b.contract
  pub assume : a.assume ≡ b.assume
  pub guarantee : a.guarantee ≡ b.guarantee

same_judgement : (a b : Judgement) → SameParts a b → a ≡ b
same_judgement a b h = λ j. record {
  component = h.component j;
  sub = h.sub j;
  contract = h.contract j;
  assume = h.assume j;
  guarantee = h.guarantee j;
}

judgement_once : (spec : Spec) (named : NamedLasso) (at : Option SubId × ContractId) (a b : Judgement)
    → HasContract spec named.component at → IsJudgement spec named at a → IsJudgement spec named at b → a ≡ b
judgement_once spec named at a b (k, is) h g =
    let left = h.truths k is in
    let right = g.truths k is in
    same_judgement a b (record {
      component = h.component ∙ sym g.component;
      sub = h.sub ∙ sym g.sub;
      contract = h.contract ∙ sym g.contract;
      assume = truth_once a.assume b.assume _ left.assume right.assume;
      guarantee = truth_once a.guarantee b.guarantee _ left.guarantee right.guarantee;
    })

one_more : (a b : Judgement) (xs ys : List Judgement) → a ≡ b → xs ≡ ys → a ∷ xs ≡ b ∷ ys
one_more a b xs ys e f = cc (e, f)

judgements_once : (spec : Spec) (named : NamedLasso) (ats : List (Option SubId × ContractId)) (xs ys : List Judgement)
    → Each (HasContract spec named.component) ats → AllZip (IsJudgement spec named) ats xs → AllZip (IsJudgement spec named) ats ys → xs ≡ ys
judgements_once spec named [] [] [] so h g = refl
judgements_once spec named [] [] (b ∷ ys) so h g = absurd g
judgements_once spec named [] (a ∷ xs) ys so h g = absurd h
judgements_once spec named (at ∷ ats) [] ys so h g = absurd h
judgements_once spec named (at ∷ ats) (a ∷ xs) [] so h g = absurd g
judgements_once spec named (at ∷ ats) (a ∷ xs) (b ∷ ys) so h g =
    one_more a b xs ys (judgement_once spec named at a b so.0 h.0 g.0) (judgements_once spec named ats xs ys so.1 h.1 g.1)

pub judgements_are_unique : JudgementsAreUnique
judgements_are_unique spec named judgements others h g =
    judgements_once spec named (judged_contracts spec named.component) judgements others (all_there spec named.component) h g
