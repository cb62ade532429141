-- The order of nodes: a formula is walked with the left operand first and operands before their node, a node goes last
-- where it is not there, and right after a new Until goes its Next. Each function gives the members afterwards and the
-- node that stands for what was added.
use Rattle.std.specs.List.{position_or_len}
use Rattle.indexmap.specs.IndexSet.{insert_key}
use Rattle.typed_ltl.specs.Formulas.{Proposition}
use Rattle.typed_ltl.specs.Equality.{proposition_eq}
use Rattle.core_ltl.specs.declared.node.NodeId.{NodeId}
use Rattle.core_ltl.specs.declared.node.Node.{Node}
use Rattle.core_ltl.specs.declared.node.Node.TheVariants as node
use Rattle.core_ltl.specs.CoreFormulas.{Core}
use Rattle.core_ltl.specs.CoreFormulas as core
use Rattle.core_ltl.specs.Nodes.{Members, node_eq}

abbrev pub after_node : Members → Node → Members × NodeId
after_node m x = (
  record m { nodes = insert_key node_eq m.nodes x },
  record { 0 = position_or_len (node_eq x) m.nodes },
)

abbrev pub after_atom : Members → Proposition → Members × NodeId
after_atom m p = after_node
    (record m { atoms = insert_key proposition_eq m.atoms p })
    (node.Atom (record { 0 = position_or_len (proposition_eq p) m.atoms }))

abbrev pub after_until : Members → NodeId → NodeId → Members × NodeId
after_until m k l = let until = after_node m (node.Until k l) in ((after_node until.0 (node.Next until.1)).0, until.1)

abbrev pub after_formula : Members → Core → Members × NodeId
after_formula m core.True = after_node m node.True
after_formula m (core.Atomic p) = after_atom m p
after_formula m (core.Not f) = let k = after_formula m f in after_node k.0 (node.Not k.1)
after_formula m (core.And f g) =
    let k = after_formula m f in
    let l = after_formula k.0 g in
    after_node l.0 (node.And k.1 l.1)
after_formula m (core.Next f) = let k = after_formula m f in after_node k.0 (node.Next k.1)
after_formula m (core.Until f g) =
    let k = after_formula m f in
    let l = after_formula k.0 g in
    after_until l.0 k.1 l.1
