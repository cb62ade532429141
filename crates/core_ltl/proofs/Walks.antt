-- The steps of each form lead to what the order of nodes says of its core form.
use Rattle.std.proofs.Common.{◌≡◌, refl, sym, ap, ◌∙◌}
use Rattle.core_ltl.specs.declared.node.NodeId.{NodeId}
use Rattle.core_ltl.specs.declared.node.Node.TheVariants as node
use Rattle.core_ltl.specs.declared.walk.Unary.{Unary}
use Rattle.core_ltl.specs.declared.walk.Unary.TheVariants as one
use Rattle.core_ltl.specs.declared.walk.Temporal.{Temporal}
use Rattle.core_ltl.specs.declared.walk.Temporal.TheVariants as temporal
use Rattle.core_ltl.specs.declared.walk.Binary.{Binary}
use Rattle.core_ltl.specs.declared.walk.Binary.TheVariants as two
use Rattle.core_ltl.specs.CoreFormulas.{Core, implication}
use Rattle.core_ltl.specs.Nodes.{Members, StandsFor, IsClosure}
use Rattle.core_ltl.specs.Order.{after_node, after_formula}
use Rattle.core_ltl.specs.Steps.{chain, after_implication, after_unary, unary_core, after_temporal, temporal_core, after_left, left_core, after_right}
use Rattle.core_ltl.specs.Steps.{binary_core}
use Rattle.core_ltl.proofs.Closed.{added, kept_node}
use Rattle.core_ltl.proofs.Fronts.{kept_trans, stands_still}
use Rattle.core_ltl.proofs.Once.{once}

pub unary_is : (u : Unary) (m : Members) (f : Core)
    → chain (after_formula m f) (after_unary u) ≡ after_formula m (unary_core u f)
unary_is one.Not m f = refl
unary_is one.Then m f = refl

pub temporal_is : (u : Temporal) (m : Members) (f : Core)
    → chain (after_node m node.True) (λ n t. chain (after_formula n f) (λ o k. after_temporal u o t k))
    ≡ after_formula m (temporal_core u f)
temporal_is temporal.Future m f = refl
temporal_is temporal.Always m f = refl
temporal_is temporal.Never m f = refl

pub left_is : (b : Binary) (m : Members) (f : Core)
    → chain (after_formula m f) (after_left b) ≡ after_formula m (left_core b f)
left_is two.And m f = refl
left_is two.Or m f = refl
left_is two.Implies m f = refl
left_is two.Iff m f = refl
left_is two.Until m f = refl
left_is two.Releases m f = refl

-- what the walk of both parts and the end make of the members
abbrev pub binary_steps : Binary → Members → Core → Core → Members × NodeId
binary_steps b m f g =
    chain (after_formula m (left_core b f)) (λ n k. chain (after_formula n g) (λ o l. after_right b o k l))

-- where both parts have nodes, an implication adds its own nodes alone
again : (n : Members) (k l : NodeId) (f g : Core) → after_formula n g ≡ (n, l) → after_formula n f ≡ (n, k)
    → after_formula n (implication g f) ≡ after_implication n l k
again n k l f g there too =
    (λ j. after_implication (after_formula (there j).0 f).0 (there j).1 (after_formula (there j).0 f).1)
    ∙ (λ j. after_implication (too j).0 l (too j).1)

-- after f implies g was added, the parts of g implies f are there
iff_is : (m : Members) → IsClosure m → (f g : Core)
    → binary_steps two.Iff m f g ≡ after_formula m (binary_core two.Iff f g)
iff_is m closed f g =
    let a = after_formula m f in
    let h = added m closed f in
    let b = after_formula a.0 g in
    let i = added a.0 h.closed g in
    let c = after_node b.0 (node.Not b.1) in
    let d = after_node c.0 (node.And a.1 c.1) in
    let e = after_node d.0 (node.Not d.1) in
    let whole = added m closed (implication f g) in
    let keep = kept_trans b.0 c.0 e.0 (kept_node b.0 (node.Not b.1))
    (kept_trans c.0 d.0 e.0 (kept_node c.0 (node.And a.1 c.1)) (kept_node d.0 (node.Not d.1))) in
    let right : StandsFor e.0 b.1.0 g = stands_still b.0 e.0 keep g b.1.0 i.stands in
    let left : StandsFor e.0 a.1.0 f = stands_still b.0 e.0 keep f a.1.0 (stands_still a.0 b.0 i.kept f a.1.0 h.stands) in
    let there = once e.0 whole.closed g b.1 right in
    let too = once e.0 whole.closed f a.1 left in
    ap (λ y. after_node y.0 (node.And e.1 y.1)) (sym (again e.0 a.1 b.1 f g there too))

pub binary_is : (b : Binary) (m : Members) → IsClosure m → (f g : Core)
    → binary_steps b m f g ≡ after_formula m (binary_core b f g)
binary_is two.And m c f g = refl
binary_is two.Or m c f g = refl
binary_is two.Implies m c f g = refl
binary_is two.Iff m c f g = iff_is m c f g
binary_is two.Until m c f g = refl
binary_is two.Releases m c f g = refl
