-- Questions of nodes and the formulas that they stand for.

use Rattle.std.proofs.Common.{◌≡◌, ℕ, suc, zero, ◌+◌, Bool, true, false, not, cond, nat_eq}
use Rattle.std.proofs.Common.{List, [], ◌∷◌, ◌++◌, map, filter, Some, slice_get, refl, sym, ap, subst}
use Rattle.std.proofs.lemmas.Bool.{false≢true}
use Rattle.std.proofs.lemmas.Option.{same_Some}
use Rattle.oss_base.specs.declared.ids.SubId.{SubId}
use Rattle.port_types.specs.declared.sets.Set24.{Set24}
use Rattle.port_types.specs.Sets.{has_place}
use Rattle.typed_ltl.specs.Formulas.{Ltl}
use Rattle.spec_model.specs.declared.spec.Spec.{Spec}
use Rattle.spec_model.specs.declared.item.Item.{Item}
use Rattle.core_ltl.specs.declared.question.SignedNode.{SignedNode}
use Rattle.core_ltl.specs.Nodes.{Members, members}
use Rattle.levels.specs.declared.level.Level.{Level}
use Rattle.levels.specs.declared.level.PartNodes.{PartNodes}
use Rattle.levels.specs.Levels.{IsLevel, level_meaning, ArePartNodes, AreAllPartNodes}
use Rattle.levels.specs.LevelQuestions.{AreSignedNodes, Asks, with_normal_forms, broken_contract, entailment, is_of_other_sub, met_assumption}
use Rattle.levels.specs.LevelQuestions.{outside_set, entailment_without}
use Rattle.levels.specs.Steps.{normal_form_node, has_other_sub, broken_nodes}

asks_forms : (m : Members) (places : List ℕ) (nodes : List PartNodes) (parts : List (SubId × Ltl × Ltl))
    → AreAllPartNodes m places nodes parts → AreSignedNodes m places (map normal_form_node nodes) (with_normal_forms parts)
asks_forms m places [] [] h = tt
asks_forms m places (n ∷ nodes) (p ∷ parts) h =
    (record { node = h.0.normal_form; sign = refl }, asks_forms m places nodes parts h.1)
asks_forms m places [] (p ∷ parts) h = absurd h
asks_forms m places (n ∷ nodes) [] h = absurd h

asks_both : (m : Members) (places : List ℕ) (q r : List SignedNode) (es fs : List (Ltl × Bool))
    → AreSignedNodes m places q es → AreSignedNodes m places r fs → AreSignedNodes m places (q ++ r) (es ++ fs)
asks_both m places [] r [] fs h k = k
asks_both m places (s ∷ q) r (e ∷ es) fs h k = (h.0, asks_both m places q r es fs h.1 k)
asks_both m places [] r (e ∷ es) fs h k = absurd h
asks_both m places (s ∷ q) r [] fs h k = absurd h

-- one more of both, where one is kept exactly where the other is
both_kept : (m : Members) (places : List ℕ) (n : PartNodes) (p : SubId × Ltl × Ltl) (nodes : List PartNodes) (parts : List (SubId × Ltl × Ltl))
    → ArePartNodes m places n p → AreAllPartNodes m places nodes parts → (a b : Bool) → a ≡ b
    → AreAllPartNodes m places (cond a (n ∷ nodes) nodes) (cond b (p ∷ parts) parts)
both_kept m places n p nodes parts h k true true e = (h, k)
both_kept m places n p nodes parts h k false false e = k
both_kept m places n p nodes parts h k true false e = absurd (false≢true (sym e))
both_kept m places n p nodes parts h k false true e = absurd (false≢true e)

-- the listed contracts of other subcomponents, and their nodes
other_parts : (m : Members) (places : List ℕ) (sub : SubId) (nodes : List PartNodes) (parts : List (SubId × Ltl × Ltl))
    → AreAllPartNodes m places nodes parts
    → AreAllPartNodes m places (filter (has_other_sub sub) nodes) (filter (is_of_other_sub sub) parts)
other_parts m places sub [] [] h = tt
other_parts m places sub (n ∷ nodes) (p ∷ parts) h =
    both_kept m places n p (filter (has_other_sub sub) nodes) (filter (is_of_other_sub sub) parts) h.0
    (other_parts m places sub nodes parts h.1) (has_other_sub sub n) (is_of_other_sub sub p)
    (ap (λ (s : SubId). not (nat_eq s.0 sub.0)) h.0.sub)
other_parts m places sub [] (p ∷ parts) h = absurd h
other_parts m places sub (n ∷ nodes) [] h = absurd h

both_dropped : (m : Members) (places : List ℕ) (n : PartNodes) (p : SubId × Ltl × Ltl) (nodes : List PartNodes) (parts : List (SubId × Ltl × Ltl))
    → ArePartNodes m places n p → AreAllPartNodes m places nodes parts → (b : Bool)
    → AreAllPartNodes m places (cond b nodes (n ∷ nodes)) (cond b parts (p ∷ parts))
both_dropped m places n p nodes parts h k true = k
both_dropped m places n p nodes parts h k false = (h, k)

-- the listed contracts outside of a set, and their nodes
kept_parts : (m : Members) (places : List ℕ) (set : Set24) (k : ℕ) (nodes : List PartNodes) (parts : List (SubId × Ltl × Ltl))
    → AreAllPartNodes m places nodes parts → AreAllPartNodes m places (outside_set set k nodes) (outside_set set k parts)
kept_parts m places set k [] [] h = tt
kept_parts m places set k (n ∷ nodes) (p ∷ parts) h =
    both_dropped m places n p (outside_set set (k + 1) nodes) (outside_set set (k + 1) parts) h.0
    (kept_parts m places set (k + 1) nodes parts h.1) (has_place set k)
kept_parts m places set k [] (p ∷ parts) h = absurd h
kept_parts m places set k (n ∷ nodes) [] h = absurd h

part_at : (m : Members) (places : List ℕ) (j : ℕ) (nodes : List PartNodes) (parts : List (SubId × Ltl × Ltl)) (n : PartNodes)
    (p : SubId × Ltl × Ltl) → AreAllPartNodes m places nodes parts → slice_get nodes j ≡ Some n → slice_get parts j ≡ Some p
    → ArePartNodes m places n p
part_at m places zero (x ∷ nodes) (q ∷ parts) n p h e f =
    subst (λ y. ArePartNodes m places y p) (same_Some x n e) (subst (λ y. ArePartNodes m places x y) (same_Some q p f) h.0)
part_at m places (suc j) (x ∷ nodes) (q ∷ parts) n p h e f = part_at m places j nodes parts n p h.1 e f
part_at m places j [] [] n p h e f = cc
part_at m places j [] (q ∷ parts) n p h e f = absurd h
part_at m places j (x ∷ nodes) [] n p h e f = absurd h

asks_broken : (spec : Spec) (item : Item) (level : Level) → IsLevel spec item level
    → Asks level (broken_nodes level) (broken_contract (level_meaning spec item))
asks_broken spec item level h = (record { node = h.assume; sign = refl }, (record { node = h.guarantee; sign = refl }, tt))

-- the normal forms of some listed contracts, then what breaks the refined one
forms_then_broken : (spec : Spec) (item : Item) (level : Level) (nodes : List PartNodes) (parts : List (SubId × Ltl × Ltl)) → IsLevel spec item level
    → AreAllPartNodes (members level.closure) level.places nodes parts
    → Asks level (map normal_form_node nodes ++ broken_nodes level) (with_normal_forms parts ++ broken_contract (level_meaning spec item))
forms_then_broken spec item level nodes parts h k =
    asks_both (members level.closure) level.places (map normal_form_node nodes) (broken_nodes level) (with_normal_forms parts)
    (broken_contract (level_meaning spec item)) (asks_forms (members level.closure) level.places nodes parts k) (asks_broken spec item level h)

pub entails_asks : (spec : Spec) (item : Item) (level : Level) (q : List SignedNode) → IsLevel spec item level
    → q ≡ map normal_form_node level.parts.items ++ broken_nodes level → Asks level q (entailment (level_meaning spec item))
entails_asks spec item level q h e =
    subst (λ (r : List SignedNode). Asks level r (entailment (level_meaning spec item))) (sym e)
    (forms_then_broken spec item level level.parts.items (level_meaning spec item).parts h h.parts)

pub dropping_asks : (spec : Spec) (item : Item) (level : Level) (set : Set24) (q : List SignedNode) → IsLevel spec item level
    → q ≡ map normal_form_node (outside_set set 0 level.parts.items) ++ broken_nodes level
    → Asks level q (entailment_without set (level_meaning spec item))
dropping_asks spec item level set q h e =
    let m = members level.closure in
    let parts = (level_meaning spec item).parts in
    subst (λ (r : List SignedNode). Asks level r (entailment_without set (level_meaning spec item))) (sym e)
    (forms_then_broken spec item level (outside_set set 0 level.parts.items) (outside_set set 0 parts) h
    (kept_parts m level.places set 0 level.parts.items parts h.parts))

pub assumes_asks : (spec : Spec) (item : Item) (level : Level) (j : ℕ) (n : PartNodes) (part : SubId × Ltl × Ltl) (q : List SignedNode)
    → IsLevel spec item level → slice_get level.parts.items j ≡ Some n → slice_get (level_meaning spec item).parts j ≡ Some part
    → q ≡ record { node = level.assume; positive = true }
    ∷ (map normal_form_node (filter (has_other_sub n.sub) level.parts.items) ++ record { node = n.assume; positive = false } ∷ [])
    → Asks level q (met_assumption (level_meaning spec item) part)
assumes_asks spec item level j n part q h at_n at_part e =
    let m = members level.closure in
    let parts = (level_meaning spec item).parts in
    let nodes = level.parts.items in
    let p : ArePartNodes m level.places n part = part_at m level.places j nodes parts n part h.parts at_n at_part in
    let others : AreAllPartNodes m level.places (filter (has_other_sub n.sub) nodes) (filter (is_of_other_sub part.0) parts) =
    subst (λ (s : SubId). AreAllPartNodes m level.places (filter (has_other_sub n.sub) nodes) (filter (is_of_other_sub s) parts)) p.sub
    (other_parts m level.places n.sub nodes parts h.parts) in
    subst (λ (r : List SignedNode). Asks level r (met_assumption (level_meaning spec item) part)) (sym e) (
      record { node = h.assume; sign = refl },
      asks_both m level.places (map normal_form_node (filter (has_other_sub n.sub) nodes)) (record { node = n.assume; positive = false } ∷ [])
          (with_normal_forms (filter (is_of_other_sub part.0) parts)) ((part.1, false) ∷ [])
          (asks_forms m level.places (filter (has_other_sub n.sub) nodes) (filter (is_of_other_sub part.0) parts) others)
          (record { node = p.assume; sign = refl }, tt),
    )
