-- Serves proofs only: what private functions say of the part of a layer that is there so far, and of what they added.

use Rattle.std.specs.Prelude.{◌≡◌, ℕ, ◌+◌, ◌<◌, List, ◌++◌, All, Bool, true, false, Option, Some, None, []}
use Rattle.std.specs.Prelude.{length, slice_get}
use Rattle.port_types.specs.declared.types.PortType.{PortType}
use Rattle.typed_ltl.specs.declared.atom.Atom.{Atom}
use Rattle.core_ltl.specs.declared.node.NodeId.{NodeId}
use Rattle.core_ltl.specs.declared.node.Node.{Node}
use Rattle.core_ltl.specs.declared.node.Node.TheVariants as node
use Rattle.cnf.specs.declared.lit.Lit.{Lit}
use Rattle.cnf.specs.Clauses.{IsModel, lit_holds}
use Rattle.cnf.specs.Gates.{literal}
use Rattle.state_coding.specs.States.{state_values, HasBits}
use Rattle.state_coding.specs.Atoms.{AtomCoding}
use Rattle.tableau.specs.TableauStates.{ClosureOverPorts, TableauState, IsTableauState, IsNextOf, has_member}
use Rattle.tableau.specs.Copies.{LayerLits, LayerCoding, member_literal, until_clauses}

abbrev pub over : List Node → List Atom → List PortType → ClosureOverPorts
over nodes atoms ports = record { closure = record { nodes = nodes; atoms = atoms }; ports = ports }

-- the gate of an until with these sides
abbrev pub until_coding : ℕ → Lit → Lit → AtomCoding
until_coding n a b = record { vars = n + 2; clauses = until_clauses n a b; lit = literal n }

-- the Next of a node with this literal, which is an until or not
abbrev pub next_of : Bool → ℕ → Lit → AtomCoding
next_of true n lit = record { vars = n; clauses = []; lit = literal (lit.var + 1) }
next_of false n lit = record { vars = n + 1; clauses = []; lit = literal n }

abbrev pub next_operand : Node → Option NodeId
next_operand (node.Next k) = Some k
next_operand _ = None

abbrev pub is_until : Node → Bool
is_until (node.Until k l) = true
is_until _ = false

-- The first members of a layer, over n variables: each literal is of a variable that is there, as is the variable after
-- that of an until.
pub record HasPart (n : ℕ) (t : ClosureOverPorts) (layer : LayerLits) : Type 0 where
  pub now : HasBits n t.ports layer.bits
  pub next : HasBits n t.ports layer.next_bits
  pub lits : All (λ lit. lit.var < n) layer.members
  pub untils : (u : ℕ) (k l : NodeId) → u < length layer.members
      → slice_get t.closure.nodes u ≡ Some (node.Until k l) → (member_literal layer u).var + 1 < n

-- A list of truth values has the state's valuations and, so far, its members, the Next of each until included.
pub record AgreesWith (model : List Bool) (t : ClosureOverPorts) (s : TableauState) (layer : LayerLits) : Type 0 where
  pub now : state_values model t.ports layer.bits ≡ s.now
  pub next : state_values model t.ports layer.next_bits ≡ s.next
  pub members : (u : ℕ) → u < length layer.members → lit_holds model (member_literal layer u) ≡ has_member s u
  pub untils : (u x : ℕ) (k l : NodeId) → u < length layer.members
      → slice_get t.closure.nodes u ≡ Some (node.Until k l) → IsNextOf t u x
      → lit_holds model (literal ((member_literal layer u).var + 1)) ≡ has_member s x

-- Each older model that has what one layer has of a state of the tableau is the front of a newer one that has what
-- another layer has of it.
abbrev pub EveryStateExtends : ℕ → List (List Lit) → ℕ → List (List Lit) → ClosureOverPorts → LayerLits → LayerLits
    → Type 0
EveryStateExtends n older m newer t before after = (model : List Bool) → IsModel n older model
    → (s : TableauState) → IsTableauState t s → AgreesWith model t s before
    → (more : List Bool) × IsModel m newer (model ++ more) × AgreesWith (model ++ more) t s after

-- a layer was coded so: clauses before and after, variables after, and the layer answered
pub record IsLayerCoded (older : List (List Lit)) (m : ℕ) (newer : List (List Lit)) (layer : LayerLits)
    (coding : LayerCoding) : Type 0 where
  pub vars : m ≡ coding.vars
  pub clauses : newer ≡ older ++ coding.clauses
  pub answer : layer ≡ coding.layer

-- Some of the clauses, in their order, were added to the older ones.
pub record AddsFront (older newer whole : List (List Lit)) : Type 0 where
  pub added : List (List Lit)
  pub grown : newer ≡ older ++ added
  pub rest : List (List Lit)
  pub all : newer ++ rest ≡ older ++ whole
