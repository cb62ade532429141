-- Serves proofs only. The test of nodes decides equality, and what a hash is fed of a node: its form and its operands.
use Rattle.std.specs.Prelude.{◌≡◌, ◌==◌, ◌++◌, Bool, true, false, ◌&&◌, IsTrue, refl}
use Rattle.std.proofs.Common.{ap, subst, eq-eqb, eqb-true}
use Rattle.std.proofs.lemmas.Bool.{and_parts, false≢true}
use Rattle.std.specs.Bool.{Decides}
use Rattle.std.specs.Cmp.{IsEquivalence, decided}
use Rattle.std.specs.Hash.{HashWrites}
use Rattle.std.specs.Hash as fed
use Rattle.core_ltl.specs.declared.node.NodeId.{NodeId}
use Rattle.core_ltl.specs.declared.node.AtomId.{AtomId}
use Rattle.core_ltl.specs.declared.node.Node.{Node}
use Rattle.core_ltl.specs.declared.node.Node.TheVariants as node
use Rattle.core_ltl.specs.Nodes.{node_eq}

both_true : (b c : Bool) → b ≡ true → c ≡ true → (b && c) ≡ true
both_true true c e h = h
both_true false c e h = absurd (false≢true e)

same_node_id : (k l : NodeId) → (k.0 == l.0) ≡ true → k ≡ l
same_node_id k l h = let e = eqb-true k.0 l.0 h in λ j. record { 0 = e j }

same_atom_id : (a b : AtomId) → (a.0 == b.0) ≡ true → a ≡ b
same_atom_id a b h = let e = eqb-true a.0 b.0 h in λ j. record { 0 = e j }

-- nodes that pass the test are equal, and equal ones pass it
pub node_sound : (x y : Node) → node_eq x y ≡ true → x ≡ y
node_sound node.True node.True h = refl
node_sound (node.Atom a) (node.Atom b) h = ap node.Atom (same_atom_id a b h)
node_sound (node.Not k) (node.Not l) h = ap node.Not (same_node_id k l h)
node_sound (node.And k l) (node.And m n) h =
    let parts = and_parts (k.0 == m.0) (l.0 == n.0) h in
    λ j. node.And (same_node_id k m parts.0 j) (same_node_id l n parts.1 j)
node_sound (node.Next k) (node.Next l) h = ap node.Next (same_node_id k l h)
node_sound (node.Until k l) (node.Until m n) h =
    let parts = and_parts (k.0 == m.0) (l.0 == n.0) h in
    λ j. node.Until (same_node_id k m parts.0 j) (same_node_id l n parts.1 j)
node_sound x y h = absurd (false≢true h)

pub node_refl : (x : Node) → node_eq x x ≡ true
node_refl node.True = refl
node_refl (node.Atom a) = eq-eqb a.0 a.0 refl
node_refl (node.Not k) = eq-eqb k.0 k.0 refl
node_refl (node.And k l) = both_true (k.0 == k.0) (l.0 == l.0) (eq-eqb k.0 k.0 refl) (eq-eqb l.0 l.0 refl)
node_refl (node.Next k) = eq-eqb k.0 k.0 refl
node_refl (node.Until k l) = both_true (k.0 == k.0) (l.0 == l.0) (eq-eqb k.0 k.0 refl) (eq-eqb l.0 l.0 refl)

node_decides : (x y : Node) → Decides (node_eq x y) (x ≡ y)
node_decides x y =
    let P : Node → Type 0 = λ z. node_eq x z ≡ true in
    (node_sound x y, λ e. subst P e (node_refl x))

pub node_eq_equivalence : IsEquivalence node_eq
node_eq_equivalence = decided node_eq node_decides

abbrev pub node_writes : Node → HashWrites
node_writes node.True = fed.u8 0
node_writes (node.Atom a) = fed.u8 1 ++ fed.u32 a.0
node_writes (node.Not k) = fed.u8 2 ++ fed.u32 k.0
node_writes (node.And k l) = fed.u8 3 ++ fed.u32 k.0 ++ fed.u32 l.0
node_writes (node.Next k) = fed.u8 4 ++ fed.u32 k.0
node_writes (node.Until k l) = fed.u8 5 ++ fed.u32 k.0 ++ fed.u32 l.0

pub node_writes_alike : (x y : Node) → IsTrue (node_eq x y) → node_writes x ≡ node_writes y
node_writes_alike x y h = ap node_writes (node_sound x y h)
