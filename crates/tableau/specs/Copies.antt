-- A copy of the tableau's state in clauses: a layer. Its variables, over the number n of variables before it, are in
-- order: the bits of the valuation, port by port, lowest bit first; the bits of the next valuation, likewise; then for
-- each member of the closure, in closure order, those of its form:
--   True            one variable, which a clause of its own makes true;
--   an atom         those of the atom's coding, most often none for a port's truth value and one at the end for a
--                   comparison;
--   Not             none: its literal is the opposite of its operand's;
--   And             one, with the three clauses of the gate;
--   Until           two, its own and right after it that of its Next, with the four clauses of the expansion law;
--   Next            none where it is that of an until, whose variable is there; else one.
-- In a closure the Next of an until stands right after it, so the variables are in closure order. The clauses come in
-- the same order: those that exclude codes without a value, then those of the members.
-- The coding is that of a state of the tableau by the gates of G. S. Tseitin, On the complexity of derivation in
-- propositional calculus (1968).

use Rattle.std.specs.Prelude.{◌≡◌, ℕ, ◌+◌, ◌<◌, ◌≤◌, Bool, true, Option, Some, None, List, [], ◌∷◌, ◌++◌, All, length}
use Rattle.std.specs.Prelude.{slice_get, slice_index_or}
use Rattle.port_types.specs.declared.types.PortType.{PortType}
use Rattle.core_ltl.specs.declared.node.NodeId.{NodeId}
use Rattle.core_ltl.specs.declared.node.Node.{Node}
use Rattle.core_ltl.specs.declared.node.Node.TheVariants as node
use Rattle.cnf.specs.declared.lit.Lit.{Lit}
use Rattle.cnf.specs.Clauses.{opposite, clauses_hold, lit_values}
use Rattle.cnf.specs.Gates.{literal, and_clauses}
use Rattle.state_coding.specs.States.{state_bits, state_width, state_clauses, state_values, HasBits, IsCodedState}
use Rattle.state_coding.specs.Atoms.{AtomCoding, atom_coding}
use Rattle.tableau.specs.TableauStates.{ClosureOverPorts, TableauState, IsTableauState, atom_at}

-- The bits of both valuations, and the literals of the members, by their numbers.
pub record LayerLits : Type 0 where
  pub bits : List (List Lit)
  pub next_bits : List (List Lit)
  pub members : List Lit

abbrev pub member_literal : LayerLits → ℕ → Lit
member_literal layer n = slice_index_or layer.members n (literal 0)

-- the state that a layer stands for in a model
abbrev pub layer_state : List Bool → ClosureOverPorts → LayerLits → TableauState
layer_state model t layer = record {
  now = state_values model t.ports layer.bits;
  next = state_values model t.ports layer.next_bits;
  holding = lit_values model layer.members;
}

-- the variable n is "b, or both a and the variable n + 1"
abbrev pub until_clauses : ℕ → Lit → Lit → List (List Lit)
until_clauses n a b =
    (opposite (literal n) ∷ b ∷ a ∷ [])
    ∷ (opposite (literal n) ∷ b ∷ literal (n + 1) ∷ [])
    ∷ (literal n ∷ opposite a ∷ opposite (literal (n + 1)) ∷ [])
    ∷ (literal n ∷ opposite b ∷ [])
    ∷ []

-- the Next of a node with this literal: of an until the variable after the until's, else a new one
abbrev pub next_coding : ℕ → Option Node → Lit → AtomCoding
next_coding n (Some (node.Until k l)) lit = record { vars = n; clauses = []; lit = literal (lit.var + 1) }
next_coding n _ lit = record { vars = n + 1; clauses = []; lit = literal n }

-- a member, after those whose literals are in the layer: the number of variables after it, its clauses, its literal
abbrev pub member_coding : ClosureOverPorts → LayerLits → ℕ → Node → AtomCoding
member_coding t layer n node.True = record { vars = n + 1; clauses = (literal n ∷ []) ∷ []; lit = literal n }
member_coding t layer n (node.Atom a) = atom_coding t.ports layer.bits layer.next_bits n (atom_at t a)
member_coding t layer n (node.Not k) =
    record { vars = n; clauses = []; lit = opposite (member_literal layer k.0) }
member_coding t layer n (node.And k l) = record {
  vars = n + 1;
  clauses = and_clauses n (member_literal layer k.0) (member_literal layer l.0);
  lit = literal n;
}
member_coding t layer n (node.Next k) =
    next_coding n (slice_get t.closure.nodes k.0) (member_literal layer k.0)
member_coding t layer n (node.Until k l) = record {
  vars = n + 2;
  clauses = until_clauses n (member_literal layer k.0) (member_literal layer l.0);
  lit = literal n;
}

-- a layer with the literal of one more member
abbrev pub with_member : LayerLits → Lit → LayerLits
with_member layer lit = record { bits = layer.bits; next_bits = layer.next_bits; members = layer.members ++ lit ∷ [] }

pub record LayerCoding : Type 0 where
  pub vars : ℕ
  pub clauses : List (List Lit)
  pub layer : LayerLits

-- clauses before those of a coding
abbrev pub behind_clauses : List (List Lit) → LayerCoding → LayerCoding
behind_clauses before coding =
    record { vars = coding.vars; clauses = before ++ coding.clauses; layer = coding.layer }

-- the members that are left, one after the other
abbrev pub members_coding : ClosureOverPorts → LayerLits → ℕ → List Node → LayerCoding
members_coding t layer n [] = record { vars = n; clauses = []; layer = layer }
members_coding t layer n (x ∷ nodes) = behind_clauses (member_coding t layer n x).clauses
    (members_coding t (with_member layer (member_coding t layer n x).lit) (member_coding t layer n x).vars nodes)

-- a layer with the bits of two valuations and no member yet
abbrev pub unfilled : List (List Lit) → List (List Lit) → LayerLits
unfilled bits next_bits = record { bits = bits; next_bits = next_bits; members = [] }

abbrev pub unfilled_copy : ClosureOverPorts → ℕ → LayerLits
unfilled_copy t n = unfilled (state_bits n t.ports) (state_bits (n + state_width t.ports) t.ports)

-- a whole layer
abbrev pub copy_coding : ClosureOverPorts → ℕ → LayerCoding
copy_coding t n = behind_clauses
    (state_clauses t.ports (unfilled_copy t n).bits ++ state_clauses t.ports (unfilled_copy t n).next_bits)
    (members_coding t (unfilled_copy t n) (n + state_width t.ports + state_width t.ports) t.closure.nodes)

-- A layer that was coded in these clauses, over n variables: where the clauses hold it is a state of the tableau. More
-- variables and clauses change nothing of it (law `layers_stay`).
pub record IsCodedLayer (n : ℕ) (clauses : List (List Lit)) (t : ClosureOverPorts) (layer : LayerLits) : Type 0 where
  pub now : IsCodedState n clauses t.ports layer.bits
  pub next : IsCodedState n clauses t.ports layer.next_bits
  pub count : length layer.members ≡ length t.closure.nodes
  pub members : All (λ lit. lit.var < n) layer.members
  pub state : (model : List Bool) → n ≤ length model → clauses_hold model clauses ≡ true
      → IsTableauState t (layer_state model t layer)
