-- In a closure a formula that has a node already adds nothing.
use Rattle.std.proofs.Common.{◌≡◌, true, Some, slice_get, ◌∙◌}
use Rattle.std.specs.List.{position_or_len}
use Rattle.indexmap.specs.IndexSet.{insert_key}
use Rattle.typed_ltl.specs.Formulas.{Proposition}
use Rattle.typed_ltl.specs.Equality.{proposition_eq}
use Rattle.typed_ltl.specs.EqualityLaws.{proposition_sound, proposition_refl}
use Rattle.core_ltl.specs.declared.node.NodeId.{NodeId}
use Rattle.core_ltl.specs.declared.node.AtomId.{AtomId}
use Rattle.core_ltl.specs.declared.node.Node.{Node}
use Rattle.core_ltl.specs.declared.node.Node.TheVariants as node
use Rattle.core_ltl.specs.CoreFormulas.{Core}
use Rattle.core_ltl.specs.CoreFormulas as core
use Rattle.core_ltl.specs.Nodes.{Members, IsClosure, node_eq, has_node}
use Rattle.core_ltl.specs.NodeHash.{node_sound, node_refl}
use Rattle.core_ltl.specs.Order.{after_node, after_until, after_formula}
use Rattle.core_ltl.specs.Laws.{FormulasAreAddedOnce}
use Rattle.core_ltl.proofs.Added.{listed, key_there, place_is}

once_node : (m : Members) → IsClosure m → (x : Node) (n : NodeId) → slice_get m.nodes n.0 ≡ Some x
    → after_node m x ≡ (m, n)
once_node m c x n h =
    let found = listed node_eq node_sound node_refl m.nodes n.0 x h in
    let keys : insert_key node_eq m.nodes x ≡ m.nodes = key_there node_eq node_sound node_refl m.nodes x found in
    let place : position_or_len (node_eq x) m.nodes ≡ n.0 =
    place_is node_eq node_sound node_refl m.nodes n.0 x h (λ k e. c.one_node k n.0 x e h) in
    λ j. (record m { nodes = keys j }, record { 0 = place j })

present : (m : Members) (x : Node) → has_node m x ≡ true → (after_node m x).0 ≡ m
present m x h =
    let keys : insert_key node_eq m.nodes x ≡ m.nodes = key_there node_eq node_sound node_refl m.nodes x h in
    λ j. record m { nodes = keys j }

once_atom : (m : Members) → IsClosure m → (p : Proposition) (a : AtomId) (n : NodeId)
    → slice_get m.nodes n.0 ≡ Some (node.Atom a)
    → slice_get m.atoms a.0 ≡ Some p → after_formula m (core.Atomic p) ≡ (m, n)
once_atom m c p a n e s =
    let found = listed proposition_eq proposition_sound proposition_refl m.atoms a.0 p s in
    let keys : insert_key proposition_eq m.atoms p ≡ m.atoms =
    key_there proposition_eq proposition_sound proposition_refl m.atoms p found in
    let place : position_or_len (proposition_eq p) m.atoms ≡ a.0 =
    place_is proposition_eq proposition_sound proposition_refl m.atoms a.0 p s (λ k d. c.one_atom k a.0 p d s) in
    (λ j. after_node (record m { atoms = keys j }) (node.Atom (record { 0 = place j }))) ∙ once_node m c (node.Atom a) n e

once_until : (m : Members) → IsClosure m → (k l n : NodeId) → slice_get m.nodes n.0 ≡ Some (node.Until k l)
    → after_until m k l ≡ (m, n)
once_until m c k l n h =
    let u : after_node m (node.Until k l) ≡ (m, n) = once_node m c (node.Until k l) n h in
    let last : (after_node m (node.Next n)).0 ≡ m = present m (node.Next n) (c.nexts n k l h) in
    (λ j. ((after_node (u j).0 (node.Next (u j).1)).0, (u j).1)) ∙ (λ j. (last j, n))

pub once : FormulasAreAddedOnce
once m c core.True n h = once_node m c node.True n h
once m c (core.Atomic p) n h = once_atom m c p h.0 n h.1 h.2
once m c (core.Not f) n h =
    let a : after_formula m f ≡ (m, h.0) = once m c f h.0 h.2 in
    (λ j. after_node (a j).0 (node.Not (a j).1)) ∙ once_node m c (node.Not h.0) n h.1
once m c (core.And f g) n h =
    let a : after_formula m f ≡ (m, h.0) = once m c f h.0 h.3 in
    let b : after_formula m g ≡ (m, h.1) = once m c g h.1 h.4 in
    (λ j. after_node (after_formula (a j).0 g).0 (node.And (a j).1 (after_formula (a j).0 g).1))
    ∙ ((λ j. after_node (b j).0 (node.And h.0 (b j).1)) ∙ once_node m c (node.And h.0 h.1) n h.2)
once m c (core.Next f) n h =
    let a : after_formula m f ≡ (m, h.0) = once m c f h.0 h.2 in
    (λ j. after_node (a j).0 (node.Next (a j).1)) ∙ once_node m c (node.Next h.0) n h.1
once m c (core.Until f g) n h =
    let a : after_formula m f ≡ (m, h.0) = once m c f h.0 h.3 in
    let b : after_formula m g ≡ (m, h.1) = once m c g h.1 h.4 in
    (λ j. after_until (after_formula (a j).0 g).0 (a j).1 (after_formula (a j).0 g).1)
    ∙ ((λ j. after_until (b j).0 h.0 (b j).1) ∙ once_until m c h.0 h.1 n h.2)
