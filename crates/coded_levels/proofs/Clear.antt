-- Where no level has a fault, each is small; and the nodes of questions are members.
use Rattle.std.proofs.Common.{◌≡◌, ℕ, zero, suc, ◌<◌, ◌≤◌, Bool, true, false, ◌||◌, List, [], ◌∷◌, ◌++◌, length, nat_lt, Some, None, slice_get}
use Rattle.std.proofs.Common.{refl, sym, ap, ◌∙◌, All, flat_map}
use Rattle.std.proofs.lemmas.Bool.{or_parts, ltb-false}
use Rattle.std.proofs.lemmas.List.Elements.{All-nil, All-cons}
use Rattle.std.proofs.lemmas.Option.{same_Some}
use Rattle.oss_base.specs.Limits.{most_closure_members, most_level_size, most_value_bits, most_guards}
use Rattle.oss_base.specs.declared.fault.FaultKind.{FaultKind}
use Rattle.oss_base.specs.declared.fault.FaultKind.TheVariants as fault
use Rattle.typed_ltl.specs.Formulas.{Ltl}
use Rattle.core_ltl.specs.declared.question.SignedNode.{SignedNode}
use Rattle.core_ltl.specs.CoreFormulas.{core_form}
use Rattle.core_ltl.specs.Nodes.{Members}
use Rattle.core_ltl.proofs.NodeFormulas.{within_of}
use Rattle.spec_model.specs.declared.spec.Spec.{Spec}
use Rattle.spec_model.specs.declared.item.Item.{Item}
use Rattle.connections.specs.Sizes.{level_size}
use Rattle.levels.specs.Levels.{over_places}
use Rattle.levels.specs.LevelQuestions.{AreSignedNodes}
use Rattle.levels.specs.LevelFaults.{closure_size, is_large_level, fault_where, level_faults, faults_of_levels, level_bits, guard_count}
use Rattle.levels.proofs.Lists.{both_empty}
use Rattle.coded_levels.specs.Laws.{QuestionsAreOverClosures, ClearLevelsAreSmall, ClosuresAreCounted}

-- ---- questions

signed_within : (m : Members) (places : List ℕ) (question : List SignedNode) (formulas : List (Ltl × Bool))
    → AreSignedNodes m places question formulas → All (λ (x : SignedNode). x.node.0 < length m.nodes) question
signed_within m places [] formulas h = All-nil (λ (x : SignedNode). x.node.0 < length m.nodes)
signed_within m places (s ∷ question) [] h = absurd h
signed_within m places (s ∷ question) (e ∷ formulas) h =
    All-cons (λ (x : SignedNode). x.node.0 < length m.nodes) s question
    (within_of m s.node.0 (core_form (over_places places e.0)) h.0.node) (signed_within m places question formulas h.1)

pub questions_are_over_closures : QuestionsAreOverClosures
questions_are_over_closures level question formulas asks = signed_within _ level.places question formulas asks

-- ---- sizes

empty_from_first : {X : Type 0} (xs : List X) → slice_get xs 0 ≡ None → xs ≡ []
empty_from_first [] e = refl
empty_from_first (x ∷ xs) e = cc

-- where all lists together are empty, each is
each_is_empty : {X Y : Type 0} (F : X → List Y) (xs : List X) (n : ℕ) (x : X) → flat_map F xs ≡ [] → slice_get xs n ≡ Some x → F x ≡ []
each_is_empty F [] n x e s = cc
each_is_empty F (z ∷ xs) zero x e s = sym (ap F (same_Some z x s)) ∙ (both_empty (F z) (flat_map F xs) e).0
each_is_empty F (z ∷ xs) (suc n) x e s = each_is_empty F xs n x (both_empty (F z) (flat_map F xs) e).1 s

not_there : (b : Bool) (kind : FaultKind) (item : Item) → fault_where b kind item ≡ [] → b ≡ false
not_there true kind item e = cc
not_there false kind item e = refl

both_small : (a b m n : ℕ) → (nat_lt a m || nat_lt b n) ≡ false → (n ≤ b) × (m ≤ a)
both_small a b m n e =
    let parts = or_parts (nat_lt a m) (nat_lt b n) e in
    (ltb-false b n parts.1, ltb-false a m parts.0)

first_of_three : {X : Type 0} (xs ys zs : List X) → xs ++ ys ++ zs ≡ [] → xs ≡ []
first_of_three [] ys zs e = refl
first_of_three (x ∷ xs) ys zs e = cc

not_large : (width : ℕ) (spec : Spec) (item : Item) → level_faults width spec item ≡ [] → is_large_level spec item ≡ false
unfolding level_faults
not_large width spec item e =
    not_there (is_large_level spec item) fault.F28 item
    (first_of_three (fault_where (is_large_level spec item) fault.F28 item)
    (fault_where (nat_lt most_value_bits (level_bits spec item)) fault.F29 item)
    (fault_where (nat_lt most_guards (guard_count (closure_size spec item) width)) fault.F30 item) e)

both_within : (spec : Spec) (item : Item) → is_large_level spec item ≡ false
    → (closure_size spec item ≤ most_closure_members) × (level_size spec item ≤ most_level_size)
unfolding is_large_level
both_within spec item e =
    both_small most_level_size most_closure_members (level_size spec item) (closure_size spec item) e

pub clear_levels_are_small : ClearLevelsAreSmall
clear_levels_are_small width spec n item clear at =
    both_within spec item
    (not_large width spec item
    (each_is_empty (level_faults width spec) spec.items n item (empty_from_first (faults_of_levels width spec) clear) at))

pub closures_are_counted : ClosuresAreCounted
unfolding closure_size
closures_are_counted spec item level is = ap (λ (m : Members). length m.nodes) is.closure
