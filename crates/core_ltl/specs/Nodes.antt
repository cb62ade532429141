-- Shared core formulas: each node names its operands by their places in one list of nodes, and a proposition by its
-- place in a list of atoms, so that equal formulas are one node (Filliâtre and Conchon, Type-Safe Modular Hash-Consing,
-- 2006).
use Rattle.std.specs.Prelude.{◌≡◌, ℕ, ◌<◌, ◌≤◌, ◌==◌, Bool, true, false, ◌&&◌, List, Some, length, map, slice_get}
use Rattle.std.specs.Prelude.{take, nat_lt}
use Rattle.std.specs.List.{list_any}
use Rattle.typed_ltl.specs.declared.atom.Atom.{Atom}
use Rattle.typed_ltl.specs.Formulas.{Proposition, proposition_of}
use Rattle.typed_ltl.specs.Traces.{Trace}
use Rattle.core_ltl.specs.declared.node.NodeId.{NodeId}
use Rattle.core_ltl.specs.declared.node.AtomId.{AtomId}
use Rattle.core_ltl.specs.declared.node.Node.{Node}
use Rattle.core_ltl.specs.declared.node.Node.TheVariants as node
use Rattle.core_ltl.specs.CoreFormulas.{Core, CoreHolds}
use Rattle.core_ltl.specs.CoreFormulas as core

-- two nodes have one form and the same operands
abbrev pub node_eq : Node → Node → Bool
node_eq node.True node.True = true
node_eq (node.Atom a) (node.Atom b) = a.0 == b.0
node_eq (node.Not k) (node.Not l) = k.0 == l.0
node_eq (node.And k l) (node.And m n) = (k.0 == m.0) && (l.0 == n.0)
node_eq (node.Next k) (node.Next l) = k.0 == l.0
node_eq (node.Until k l) (node.Until m n) = (k.0 == m.0) && (l.0 == n.0)
node_eq x y = false

-- What contracts see of a closure: its nodes and its atoms, each by its number.
pub record Listing : Type 0 where
  pub nodes : List Node
  pub atoms : List Atom

-- The same with the propositions that the atoms mean.
pub record Members : Type 0 where
  pub nodes : List Node
  pub atoms : List Proposition

abbrev pub members : Listing → Members
members c = record { nodes = c.nodes; atoms = map proposition_of c.atoms }

-- Node n stands for the core formula.
abbrev pub StandsFor : Members → ℕ → Core → Type 0
StandsFor m n core.True = slice_get m.nodes n ≡ Some node.True
StandsFor m n (core.Atomic p) =
    (a : AtomId) × (slice_get m.nodes n ≡ Some (node.Atom a)) × (slice_get m.atoms a.0 ≡ Some p)
StandsFor m n (core.Not f) = (k : NodeId) × (slice_get m.nodes n ≡ Some (node.Not k)) × StandsFor m k.0 f
StandsFor m n (core.And f g) =
    (k : NodeId) × (l : NodeId) × (slice_get m.nodes n ≡ Some (node.And k l)) × StandsFor m k.0 f × StandsFor m l.0 g
StandsFor m n (core.Next f) = (k : NodeId) × (slice_get m.nodes n ≡ Some (node.Next k)) × StandsFor m k.0 f
StandsFor m n (core.Until f g) =
    (k : NodeId) × (l : NodeId) × (slice_get m.nodes n ≡ Some (node.Until k l)) × StandsFor m k.0 f × StandsFor m l.0 g

-- Node n holds at a position of a trace: the formula that it stands for does.
abbrev pub NodeHolds : Members → Trace → ℕ → ℕ → Type 0
NodeHolds m w n i = (f : Core) × StandsFor m n f × CoreHolds w f i

-- the operands of a node stand before place n
abbrev pub operands_before : ℕ → Node → Bool
operands_before n node.True = true
operands_before n (node.Atom a) = true
operands_before n (node.Not k) = nat_lt k.0 n
operands_before n (node.And k l) = nat_lt k.0 n && nat_lt l.0 n
operands_before n (node.Next k) = nat_lt k.0 n
operands_before n (node.Until k l) = nat_lt k.0 n && nat_lt l.0 n

abbrev pub has_node : Members → Node → Bool
has_node m x = list_any (node_eq x) m.nodes

-- The old nodes and atoms keep their numbers: they are a front of the new ones.
pub record KeepsNumbers (old new : Listing) : Type 0 where
  pub nodes : take (length old.nodes) new.nodes ≡ old.nodes
  pub atoms : take (length old.atoms) new.atoms ≡ old.atoms

-- What every closure keeps: operands stand before their node, so each node stands for a formula; the Next of each Until
-- is there, as the expansion law of until wants it; no node and no proposition is there twice; each
-- atom has a node.
pub record IsClosure (m : Members) : Type 0 where
  pub operands : (n : ℕ) (x : Node) → slice_get m.nodes n ≡ Some x → operands_before n x ≡ true
  pub named_atoms : (n : ℕ) (a : AtomId) → slice_get m.nodes n ≡ Some (node.Atom a) → a.0 < length m.atoms
  pub atom_nodes : (a : AtomId) → a.0 < length m.atoms → has_node m (node.Atom a) ≡ true
  pub atom_count : length m.atoms ≤ length m.nodes
  pub nexts : (n k l : NodeId) → slice_get m.nodes n.0 ≡ Some (node.Until k l) → has_node m (node.Next n) ≡ true
  pub one_node : (n k : ℕ) (x : Node) → slice_get m.nodes n ≡ Some x → slice_get m.nodes k ≡ Some x → n ≡ k
  pub one_atom : (a b : ℕ) (p : Proposition) → slice_get m.atoms a ≡ Some p → slice_get m.atoms b ≡ Some p → a ≡ b
