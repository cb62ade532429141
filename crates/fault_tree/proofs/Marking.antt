-- Marks on the nodes that are reached.
use Rattle.std.proofs.Common.{◌≡◌, ℕ, suc, ◌+◌, ◌<◌, ◌≤◌, inl, inr, Bool, true, false, List, [], ◌∷◌, ◌++◌, length, get_or, take, drop, sym, ap, ◌∙◌, arith}
use Rattle.std.proofs.Common.{subst}
use Rattle.std.specs.Prelude.{All, Contains}
use Rattle.std.proofs.Math.ListN.{set, replicate}
use Rattle.std.proofs.Math.Seq.{take-append_seam}
use Rattle.fault_tree.proofs.Elements.{in_none, all_of}
use Rattle.std.proofs.lemmas.Bool.{cases_eq, cases_lt, false≢true}
use Rattle.std.proofs.lemmas.List.{take_more, get_or_default, get_or-set_same, get_or-set_other, length-set, get_or_past, get_or-replicate, length-replicate}
use Rattle.std.proofs.lemmas.List.Elements.{All-weaker, Contains-append_left, Contains-push, Contains-push_cases}
use Rattle.fault_tree.specs.declared.nodes.TreeNode.{TreeNode}
use Rattle.fault_tree.specs.declared.nodes.TreeNode.TheVariants.{Leaf, Cuts}
use Rattle.fault_tree.specs.Marks.{IsMarked, IsNamedIn, Marks, cuts_of, AreReached, IsReaching}
use Rattle.fault_tree.specs.Trees.{IsNode, IsMember, MembersStandFirst, DependsOn, here, step}

-- one list more is marked
pub marks_more : (old now new : List Bool) (lists : List (List ℕ)) (i : ℕ) (d list : List ℕ) → i < length lists
    → list ≡ get_or lists i d → Marks old now (IsNamedIn (take i lists)) → Marks now new (Contains list)
    → Marks old new (IsNamedIn (take (i + 1) lists))
marks_more old now new lists i d list low e first second =
    let more : take (i + 1) lists ≡ take i lists ++ list ∷ [] =
    take_more lists i d low ∙ ap (λ (l : List ℕ). take i lists ++ l ∷ []) (sym e) in
    subst (λ (l : List (List ℕ)). Marks old new (IsNamedIn l)) (sym more) (record {
      long = second.long ∙ first.long;
      each = λ p marked. elim (second.each p marked) [
        | inl before ↦ elim (first.each p before) [
          | inl older ↦ inl older
          | inr named ↦ inr (record {
            list = named.list;
            listed = Contains-append_left (take i lists) (list ∷ []) named.list named.listed;
            named = named.named;
          })
        ]
        | inr named ↦ inr (record { list = list; listed = Contains-push (take i lists) list; named = named })
      ];
      kept = λ p marked. second.kept p (first.kept p marked);
      every = λ p named. elim (Contains-push_cases (take i lists) list named.list named.listed) [
        | inl before ↦ second.kept p (first.every p (record { list = named.list; listed = before; named = named.named }))
        | inr same ↦ second.every p (subst (λ (l : List ℕ). Contains l p) (sym same) named.named)
      ];
    })

-- ---- the way from the top

-- the node at a place that the code reads
pub node_at : (nodes : List TreeNode) (k : ℕ) (node : TreeNode) → k < length nodes → node ≡ get_or nodes k node → IsNode nodes k node
node_at nodes k node low e = record { within = low; is = sym e }

pub node_is : (nodes : List TreeNode) (k : ℕ) (a b : TreeNode) → IsNode nodes k a → IsNode nodes k b → a ≡ b
node_is nodes k a b first second = sym first.is ∙ get_or_default nodes k a b first.within ∙ second.is

member_at : (nodes : List TreeNode) (k member : ℕ) (node : TreeNode) → IsNode nodes k node → IsNamedIn (cuts_of node) member
    → IsMember nodes k member
member_at nodes k member Leaf at named = absurd (in_none named.list named.listed)
member_at nodes k member (Cuts cuts) at named =
    record { cuts = cuts; cut = named.list; node = at; listed = named.listed; named = named.named }

pub named_at : (nodes : List TreeNode) (k member : ℕ) (node : TreeNode) → IsNode nodes k node → IsMember nodes k member
    → IsNamedIn (cuts_of node) member
named_at nodes k member node at is =
    subst (λ (n : TreeNode). IsNamedIn (cuts_of n) member) (node_is nodes k (Cuts is.cuts) node is.node at)
    (record { list = is.cut; listed = is.listed; named = is.named })

-- the members of a node stand before it
pub members_below : (nodes : List TreeNode) → MembersStandFirst nodes → (k : ℕ) (node : TreeNode) → IsNode nodes k node
    → All (All (λ member. member < k)) (cuts_of node)
members_below nodes first k node at =
    all_of (All (λ member. member < k)) (cuts_of node) (λ cut listed. all_of (λ member. member < k) cut
    (λ member named. first k member (member_at nodes k member node at
    (record { list = cut; listed = listed; named = named }))))

-- so their numbers are below any end that is past its own
pub members_within : (nodes : List TreeNode) → MembersStandFirst nodes → (k end : ℕ) (node : TreeNode) → IsNode nodes k node → k ≤ end
    → All (All (λ member. member < end)) (cuts_of node)
members_within nodes first k end node at upto =
    All-weaker (All (λ member. member < k)) (All (λ member. member < end))
    (λ cut. All-weaker (λ member. member < k) (λ member. member < end) (λ member low. omega (arith, low, upto)) cut)
    (cuts_of node) (members_below nodes first k node at)

-- a slice that was written as a whole
pub written : {X : Type 0} (old new : List X) (n : ℕ) → length new ≡ length old → n ≡ length old
    → take n (new ++ drop (length new) old) ≡ new
written old new n e f =
    ap (λ (m : ℕ). take m (new ++ drop (length new) old)) (f ∙ sym e) ∙ take-append_seam new (drop (length new) old)

-- marks that were made without any
pub none_marked : (marks : List Bool) (n : ℕ) → marks ≡ replicate n false → (k : ℕ) → IsMarked marks k → ⊥
none_marked marks n e k marked =
    let read : get_or (replicate n false) k false ≡ false = elim (cases_lt k n) [
      | inl low ↦ get_or-replicate n k false false low
      | inr past ↦ get_or_past (replicate n false) k false (omega (arith, past, length-replicate n false))
    ] in
    false≢true (sym (ap (λ (l : List Bool). get_or l k false) e ∙ read) ∙ marked)

pub reaching_start : (nodes : List TreeNode) (top : ℕ) (old marks : List Bool) → length old ≡ length nodes
    → ((k : ℕ) → IsMarked old k → ⊥) → marks ≡ set old top true → top < length old → IsReaching nodes top marks (top + 1)
reaching_start nodes top old marks long none e low =
    subst (λ (m : List Bool). IsReaching nodes top m (top + 1)) (sym e) (record {
      long = length-set old top true ∙ long;
      each = λ k marked. elim (cases_eq k top) [
        | inl same ↦ subst (DependsOn nodes top) (sym same) here
        | inr other ↦ absurd (none k (sym (get_or-set_other old top k true false other) ∙ marked))
      ];
      first = get_or-set_same old top true false low;
      closed = λ k past marked. elim (cases_eq k top) [
        | inl same ↦ absurd (omega (arith, past, same))
        | inr other ↦ absurd (none k (sym (get_or-set_other old top k true false other) ∙ marked))
      ];
    })

-- a node that is not marked
pub reaching_past : (nodes : List TreeNode) (top : ℕ) (marks : List Bool) (i j : ℕ) → suc i ≡ j → (IsMarked marks i → ⊥)
    → IsReaching nodes top marks j → IsReaching nodes top marks i
reaching_past nodes top marks i j after none is = record {
  long = is.long;
  each = is.each;
  first = is.first;
  closed = λ k from marked. elim (cases_eq k i) [
    | inl same ↦ absurd (none (subst (IsMarked marks) same marked))
    | inr other ↦ is.closed k (omega (arith, from, other, after)) marked
  ];
}

-- the members of a marked node are marked
pub reaching_more : (nodes : List TreeNode) (top : ℕ) (old new : List Bool) (i j : ℕ) (node : TreeNode) → suc i ≡ j
    → MembersStandFirst nodes → IsNode nodes i node → IsMarked old i → Marks old new (IsNamedIn (cuts_of node))
    → IsReaching nodes top old j → IsReaching nodes top new i
reaching_more nodes top old new i j node after first at marked marks is =
    let of_old : (k : ℕ) → i ≤ k → IsMarked new k → IsMarked old k = λ k from marked'.
    elim (marks.each k marked') [
      | inl before ↦ before
      | inr named ↦ absurd (omega (arith, from, first i k (member_at nodes i k node at named)))
    ] in
    record {
      long = marks.long ∙ is.long;
      each = λ k marked'. elim (marks.each k marked') [
        | inl before ↦ is.each k before
        | inr named ↦ step i k (is.each i marked) (member_at nodes i k node at named)
      ];
      first = marks.kept top is.first;
      closed = λ k from marked' member is'. elim (cases_eq k i) [
        | inl same ↦ marks.every member (named_at nodes i member node at (subst (λ (n : ℕ). IsMember nodes n member) same is'))
        | inr other ↦ marks.kept member
            (is.closed k (omega (arith, from, other, after)) (of_old k from marked') member is')
      ];
    }

path_marked : (nodes : List TreeNode) (top : ℕ) (marks : List Bool) → IsReaching nodes top marks 0 → {k : ℕ} → DependsOn nodes top k
    → IsMarked marks k
path_marked nodes top marks is here = is.first
path_marked nodes top marks is (step k member path at) = is.closed k (omega arith) (path_marked nodes top marks is path) member at

pub reaching_end : (nodes : List TreeNode) (top : ℕ) (marks : List Bool) (i : ℕ) → i ≤ 0 → IsReaching nodes top marks i
    → AreReached nodes top marks
reaching_end nodes top marks i none is =
    let is' : IsReaching nodes top marks 0 = subst (IsReaching nodes top marks) (omega arith) is in
    record { long = is'.long; each = is'.each; every = λ k path. path_marked nodes top marks is' path }
