-- Questions: nodes of one closure, each with a sign. A trace breaks a question where every node has its sign at
-- position 0; a question is valid where no trace over the ports does.
use Rattle.std.specs.Prelude.{ℕ, ◌≡◌, true, false, List, All}
use Rattle.port_types.specs.declared.types.PortType.{PortType}
use Rattle.typed_ltl.specs.Traces.{Trace, IsOver}
use Rattle.core_ltl.specs.declared.question.SignedNode.{SignedNode}
use Rattle.core_ltl.specs.Nodes.{Members, NodeHolds}

-- the node holds where its sign is positive, and else doesn't
pub record HasSign (m : Members) (w : Trace) (i : ℕ) (s : SignedNode) : Type 0 where
  pub positive : s.positive ≡ true → NodeHolds m w s.node.0 i
  pub negative : s.positive ≡ false → NodeHolds m w s.node.0 i → ⊥

abbrev pub Breaks : Members → Trace → List SignedNode → Type 0
Breaks m w question = All (HasSign m w 0) question

abbrev pub IsValidQuestion : Members → List PortType → List SignedNode → Type 0
IsValidQuestion m ports question = (w : Trace) → IsOver ports w → Breaks m w question → ⊥
