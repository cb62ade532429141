-- Questions over the closure of a tableau: signed members in a state, their literals in a layer, and the traces that
-- break a question.

use Rattle.std.specs.Prelude.{◌≡◌, ◌<◌, List, All, length, if◌then◌else◌}
use Rattle.typed_ltl.specs.Traces.{Trace}
use Rattle.core_ltl.specs.declared.question.SignedNode.{SignedNode}
use Rattle.core_ltl.specs.Nodes.{members}
use Rattle.core_ltl.specs.Questions.{Breaks}
use Rattle.cnf.specs.declared.lit.Lit.{Lit}
use Rattle.cnf.specs.Clauses.{opposite}
use Rattle.tableau.specs.TableauStates.{ClosureOverPorts, TableauState, has_member}
use Rattle.tableau.specs.Copies.{LayerLits, member_literal}

-- the nodes of a question are members of the closure
abbrev pub IsQuestionOver : ClosureOverPorts → List SignedNode → Type 0
IsQuestionOver t question = All (λ x. x.node.0 < length t.closure.nodes) question

-- the traces on which each node of the question has its sign at position 0
abbrev pub BreaksQuestion : ClosureOverPorts → List SignedNode → Trace → Type 0
BreaksQuestion t question w = Breaks (members t.closure) w question

-- the node is in the state where its sign is positive, and else is not
abbrev pub IsSignedIn : TableauState → SignedNode → Type 0
IsSignedIn s x = has_member s x.node.0 ≡ x.positive

-- the literal that says that a node has its sign
abbrev pub signed_literal : LayerLits → SignedNode → Lit
signed_literal layer x =
    if x.positive then member_literal layer x.node.0 else opposite (member_literal layer x.node.0)
