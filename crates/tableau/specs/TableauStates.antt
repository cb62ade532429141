-- The tableau of a closure over ports: its states, its steps and its fairness conditions (E. M. Clarke, O. Grumberg
-- and K. Hamaguchi, Another Look at LTL Model Checking, 1994). A trace runs through the states whose members hold on
-- it, and a fair run of states is a trace on which their members hold.

use Rattle.std.specs.Prelude.{◌≡◌, ℕ, ◌+◌, ◌≤◌, Bool, true, false, not, ◌&&◌, ◌||◌, Option, Some, None}
use Rattle.std.specs.Prelude.{List, [], ◌∷◌, ◌++◌, All, length, map, slice_get, slice_index_or}
use Rattle.port_types.specs.declared.types.PortType.{PortType}
use Rattle.port_types.specs.declared.types.Value.{Value}
use Rattle.typed_ltl.specs.Formulas.{Proposition, proposition_of}
use Rattle.typed_ltl.specs.Formulas as form
use Rattle.typed_ltl.specs.Traces.{assignment}
use Rattle.typed_ltl.specs.Truth.{proposition_truth}
use Rattle.core_ltl.specs.declared.node.NodeId.{NodeId}
use Rattle.core_ltl.specs.declared.node.AtomId.{AtomId}
use Rattle.core_ltl.specs.declared.node.Node.{Node}
use Rattle.core_ltl.specs.declared.node.Node.TheVariants as node
use Rattle.core_ltl.specs.Nodes.{Listing, members, IsClosure}
use Rattle.state_coding.specs.Codes.{IsCodable}
use Rattle.state_coding.specs.Reads.{ReadsPorts}
use Rattle.state_coding.specs.States.{IsValuation}

-- What contracts see of a tableau: the closure and the ports that its atoms read.
pub record ClosureOverPorts : Type 0 where
  pub closure : Listing
  pub ports : List PortType

-- At most 1,024 members, types that can be coded, and atoms that read these ports.
pub record CanBeCoded (t : ClosureOverPorts) : Type 0 where
  pub closed : IsClosure (members t.closure)
  pub few : length t.closure.nodes ≤ 1024
  pub ports : All IsCodable t.ports
  pub atoms : All (ReadsPorts t.ports) (map proposition_of t.closure.atoms)

-- the fact that an atom states
abbrev pub atom_at : ClosureOverPorts → AtomId → Proposition
atom_at t a = slice_index_or (map proposition_of t.closure.atoms) a.0 (form.TruthAt 0 false)

-- A valuation, the valuation that comes next, and of each member of the closure whether it is in the state.
pub record TableauState : Type 0 where
  pub now : List Value
  pub next : List Value
  pub holding : List Bool

abbrev pub has_member : TableauState → ℕ → Bool
has_member s n = slice_index_or s.holding n false

-- node x is the Next of node n
abbrev pub IsNextOf : ClosureOverPorts → ℕ → ℕ → Type 0
IsNextOf t n x = slice_get t.closure.nodes x ≡ Some (node.Next (record { 0 = n }))

-- Node n is in the state as its form demands: an atom by its truth, True, Not and And by their truth tables, an until
-- exactly where its right side is in, or its left side and the Next of the until are. A Next is in or not.
abbrev pub RespectsForm : ClosureOverPorts → TableauState → ℕ → Node → Type 0
RespectsForm t s n node.True = has_member s n ≡ true
RespectsForm t s n (node.Atom a) =
    has_member s n ≡ proposition_truth (assignment s.now) (assignment s.next) (atom_at t a)
RespectsForm t s n (node.Not k) = has_member s n ≡ not (has_member s k.0)
RespectsForm t s n (node.And k l) = has_member s n ≡ (has_member s k.0 && has_member s l.0)
RespectsForm t s n (node.Next k) = Unit {0}
RespectsForm t s n (node.Until k l) = (x : ℕ) → IsNextOf t n x
    → has_member s n ≡ (has_member s l.0 || (has_member s k.0 && has_member s x))

pub record IsTableauState (t : ClosureOverPorts) (s : TableauState) : Type 0 where
  pub now : IsValuation t.ports s.now
  pub next : IsValuation t.ports s.next
  pub count : length s.holding ≡ length t.closure.nodes
  pub forms : (n : ℕ) (x : Node) → slice_get t.closure.nodes n ≡ Some x → RespectsForm t s n x

-- From one state to another: the next valuation comes, and the Next of a node is in the one exactly where the node is
-- in the other.
pub record IsTableauStep (t : ClosureOverPorts) (from to : TableauState) : Type 0 where
  pub valuation : from.next ≡ to.now
  pub nexts : (n : ℕ) (k : NodeId) → slice_get t.closure.nodes n ≡ Some (node.Next k)
      → has_member from n ≡ has_member to k.0

-- The until of node n with its right side, from node n on.
abbrev pub until_at : ℕ → Node → List (NodeId × NodeId)
until_at n (node.Until k l) = (record { 0 = n }, l) ∷ []
until_at n _ = []

abbrev pub untils_from : ℕ → List Node → List (NodeId × NodeId)
untils_from n [] = []
untils_from n (x ∷ nodes) = until_at n x ++ untils_from (n + 1) nodes

-- The fairness conditions: one for each until, with its right side, in the order of the closure; where there is no
-- until the one condition True, which is None here.
abbrev pub or_true : List (NodeId × NodeId) → List (Option (NodeId × NodeId))
or_true [] = None ∷ []
or_true (until ∷ untils) = Some until ∷ map Some untils

abbrev pub fairness : ClosureOverPorts → List (Option (NodeId × NodeId))
fairness t = or_true (untils_from 0 t.closure.nodes)

-- A state meets the condition of an until where the until is not in it, or its right side is.
abbrev pub meets_condition : TableauState → Option (NodeId × NodeId) → Bool
meets_condition s None = true
meets_condition s (Some until) = not (has_member s until.0.0) || has_member s until.1.0
