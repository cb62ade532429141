-- What nodes stand for: each node one formula at most, and in a closure each node one and each formula one node at most.
use Rattle.std.proofs.Common.{◌≡◌, ℕ, zero, suc, ◌+◌, ◌<◌, true, List, [], ◌∷◌, Option, Some, slice_get, length, unwrap_or, refl, sym, ap, subst, ◌∙◌, arith}
use Rattle.std.specs.Prelude.{nat_lt}
use Rattle.std.proofs.lemmas.Bool.{and_parts, ltb-true}
use Rattle.std.proofs.lemmas.Option.{slice_get_within}
use Rattle.core_ltl.specs.declared.node.NodeId.{NodeId}
use Rattle.core_ltl.specs.declared.node.AtomId.{AtomId}
use Rattle.core_ltl.specs.declared.node.Node.{Node}
use Rattle.core_ltl.specs.declared.node.Node.TheVariants as node
use Rattle.core_ltl.specs.CoreFormulas.{Core}
use Rattle.core_ltl.specs.CoreFormulas as core
use Rattle.core_ltl.specs.Nodes.{Members, StandsFor, IsClosure, operands_before}
use Rattle.core_ltl.specs.Laws.{NodesStandForFormulas, NodesStandForOneFormula, FormulasHaveOneNode}

pub some_one : {X : Type 0} (o : Option X) (x y : X) → o ≡ Some x → o ≡ Some y → x ≡ y
some_one o x y e f = ap (λ q. unwrap_or q x) (sym e ∙ f)

-- the forms by number, and the operands of a node
abbrev pub node_tag : Node → ℕ
node_tag node.True = 0
node_tag (node.Atom a) = 1
node_tag (node.Not k) = 2
node_tag (node.And k l) = 3
node_tag (node.Next k) = 4
node_tag (node.Until k l) = 5

abbrev pub core_tag : Core → ℕ
core_tag core.True = 0
core_tag (core.Atomic p) = 1
core_tag (core.Not f) = 2
core_tag (core.And f g) = 3
core_tag (core.Next f) = 4
core_tag (core.Until f g) = 5

abbrev pub atom_in : Node → AtomId
atom_in node.True = record { 0 = 0 }
atom_in (node.Atom a) = a
atom_in (node.Not k) = record { 0 = 0 }
atom_in (node.And k l) = record { 0 = 0 }
atom_in (node.Next k) = record { 0 = 0 }
atom_in (node.Until k l) = record { 0 = 0 }

abbrev left_in : Node → NodeId
left_in node.True = record { 0 = 0 }
left_in (node.Atom a) = record { 0 = 0 }
left_in (node.Not k) = k
left_in (node.And k l) = k
left_in (node.Next k) = k
left_in (node.Until k l) = k

abbrev right_in : Node → NodeId
right_in node.True = record { 0 = 0 }
right_in (node.Atom a) = record { 0 = 0 }
right_in (node.Not k) = k
right_in (node.And k l) = l
right_in (node.Next k) = k
right_in (node.Until k l) = l

-- the node that stands for a formula has its form
pub form_is : (m : Members) (n : ℕ) (f : Core) → StandsFor m n f
    → (x : Node) × (slice_get m.nodes n ≡ Some x) × (node_tag x ≡ core_tag f)
form_is m n core.True h = (node.True, h, refl)
form_is m n (core.Atomic p) h = (node.Atom h.0, h.1, refl)
form_is m n (core.Not f) h = (node.Not h.0, h.1, refl)
form_is m n (core.And f g) h = (node.And h.0 h.1, h.2, refl)
form_is m n (core.Next f) h = (node.Next h.0, h.1, refl)
form_is m n (core.Until f g) h = (node.Until h.0 h.1, h.2, refl)

tags : (m : Members) (n : ℕ) (f g : Core) → StandsFor m n f → StandsFor m n g → core_tag f ≡ core_tag g
tags m n f g h k =
    let a = form_is m n f h in
    let b = form_is m n g k in
    sym a.2 ∙ (ap node_tag (some_one (slice_get m.nodes n) a.0 b.0 a.1 b.1) ∙ b.2)

moved : (m : Members) (f : Core) (k l : NodeId) → l ≡ k → StandsFor m l.0 f → StandsFor m k.0 f
moved m f k l e h = subst (λ i. StandsFor m i.0 f) e h

pub one_formula : NodesStandForOneFormula
one_formula m n core.True core.True h k = refl
one_formula m n (core.Atomic p) (core.Atomic q) h k =
    let e = ap atom_in (some_one (slice_get m.nodes n) (node.Atom k.0) (node.Atom h.0) k.1 h.1) in
    ap core.Atomic (some_one (slice_get m.atoms h.0.0) p q h.2 (subst (λ a. slice_get m.atoms a.0 ≡ Some q) e k.2))
one_formula m n (core.Not f) (core.Not g) h k =
    let e = ap left_in (some_one (slice_get m.nodes n) (node.Not k.0) (node.Not h.0) k.1 h.1) in
    ap core.Not (one_formula m h.0.0 f g h.2 (moved m g h.0 k.0 e k.2))
one_formula m n (core.And f g) (core.And c d) h k =
    let e = some_one (slice_get m.nodes n) (node.And k.0 k.1) (node.And h.0 h.1) k.2 h.2 in
    let left = one_formula m h.0.0 f c h.3 (moved m c h.0 k.0 (ap left_in e) k.3) in
    let right = one_formula m h.1.0 g d h.4 (moved m d h.1 k.1 (ap right_in e) k.4) in
    λ j. core.And (left j) (right j)
one_formula m n (core.Next f) (core.Next g) h k =
    let e = ap left_in (some_one (slice_get m.nodes n) (node.Next k.0) (node.Next h.0) k.1 h.1) in
    ap core.Next (one_formula m h.0.0 f g h.2 (moved m g h.0 k.0 e k.2))
one_formula m n (core.Until f g) (core.Until c d) h k =
    let e = some_one (slice_get m.nodes n) (node.Until k.0 k.1) (node.Until h.0 h.1) k.2 h.2 in
    let left = one_formula m h.0.0 f c h.3 (moved m c h.0 k.0 (ap left_in e) k.3) in
    let right = one_formula m h.1.0 g d h.4 (moved m d h.1 k.1 (ap right_in e) k.4) in
    λ j. core.Until (left j) (right j)
one_formula m n f g h k = let e : core_tag f ≡ core_tag g = tags m n f g h k in absurd (omega arith)

same_id : (k l : NodeId) → k.0 ≡ l.0 → k ≡ l
same_id k l e = λ j. record { 0 = e j }

same_atom : (a b : AtomId) → a.0 ≡ b.0 → a ≡ b
same_atom a b e = λ j. record { 0 = e j }

pub one_node : FormulasHaveOneNode
one_node m closed core.True n k h i = closed.one_node n k node.True h i
one_node m closed (core.Atomic p) n k h i =
    let e = same_atom h.0 i.0 (closed.one_atom h.0.0 i.0.0 p h.2 i.2) in
    closed.one_node n k (node.Atom i.0) (h.1 ∙ ap (λ a. Some (node.Atom a)) e) i.1
one_node m closed (core.Not f) n k h i =
    let e = same_id h.0 i.0 (one_node m closed f h.0.0 i.0.0 h.2 i.2) in
    closed.one_node n k (node.Not i.0) (h.1 ∙ ap (λ a. Some (node.Not a)) e) i.1
one_node m closed (core.And f g) n k h i =
    let e = same_id h.0 i.0 (one_node m closed f h.0.0 i.0.0 h.3 i.3) in
    let d = same_id h.1 i.1 (one_node m closed g h.1.0 i.1.0 h.4 i.4) in
    closed.one_node n k (node.And i.0 i.1) (h.2 ∙ (λ j. Some (node.And (e j) (d j)))) i.2
one_node m closed (core.Next f) n k h i =
    let e = same_id h.0 i.0 (one_node m closed f h.0.0 i.0.0 h.2 i.2) in
    closed.one_node n k (node.Next i.0) (h.1 ∙ ap (λ a. Some (node.Next a)) e) i.1
one_node m closed (core.Until f g) n k h i =
    let e = same_id h.0 i.0 (one_node m closed f h.0.0 i.0.0 h.3 i.3) in
    let d = same_id h.1 i.1 (one_node m closed g h.1.0 i.1.0 h.4 i.4) in
    closed.one_node n k (node.Until i.0 i.1) (h.2 ∙ (λ j. Some (node.Until (e j) (d j)))) i.2

pub found_at : {X : Type 0} (xs : List X) (n : ℕ) → n < length xs → (x : X) × (slice_get xs n ≡ Some x)
found_at [] n h = absurd (omega arith)
found_at (x ∷ xs) zero h = (x, refl)
found_at (x ∷ xs) (suc n) h = found_at xs n (omega arith)

pub within_of : (m : Members) (n : ℕ) (f : Core) → StandsFor m n f → n < length m.nodes
within_of m n f h = let a = form_is m n f h in slice_get_within m.nodes n a.0 a.1

-- a node whose operands stand for formulas stands for one
of_node : (m : Members) → IsClosure m → (n : ℕ) → n < length m.nodes
    → ((k : ℕ) → k < n → (f : Core) × StandsFor m k f)
    → (x : Node) → slice_get m.nodes n ≡ Some x → operands_before n x ≡ true → (f : Core) × StandsFor m n f
of_node m closed n within before node.True e h = (core.True, e)
of_node m closed n within before (node.Atom a) e h =
    let p = found_at m.atoms a.0 (closed.named_atoms n a e) in
    (core.Atomic p.0, (a, e, p.1))
of_node m closed n within before (node.Not k) e h =
    let f = before k.0 (ltb-true k.0 n h) in
    (core.Not f.0, (k, e, f.1))
of_node m closed n within before (node.And k l) e h =
    let parts = and_parts (nat_lt k.0 n) (nat_lt l.0 n) h in
    let f = before k.0 (ltb-true k.0 n parts.0) in
    let g = before l.0 (ltb-true l.0 n parts.1) in
    (core.And f.0 g.0, (k, l, e, f.1, g.1))
of_node m closed n within before (node.Next k) e h =
    let f = before k.0 (ltb-true k.0 n h) in
    (core.Next f.0, (k, e, f.1))
of_node m closed n within before (node.Until k l) e h =
    let parts = and_parts (nat_lt k.0 n) (nat_lt l.0 n) h in
    let f = before k.0 (ltb-true k.0 n parts.0) in
    let g = before l.0 (ltb-true l.0 n parts.1) in
    (core.Until f.0 g.0, (k, l, e, f.1, g.1))

each_below : (m : Members) → IsClosure m → (b n : ℕ) → n < b → n < length m.nodes → (f : Core) × StandsFor m n f
each_below m closed zero n h within = absurd (omega arith)
each_below m closed (suc b) n h within =
    let x = found_at m.nodes n within in
    of_node m closed n within (λ k lt. each_below m closed b k (omega arith) (omega arith)) x.0 x.1
    (closed.operands n x.0 x.1)

pub each_node : NodesStandForFormulas
each_node m closed n within = each_below m closed (n + 1) n (omega arith) within
