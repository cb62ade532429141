use Rattle.std.proofs.Common.{◌<◌, ℕ, List, refl, arith}
use Rattle.std.specs.Prelude.{All}
use Rattle.std.proofs.lemmas.List.Elements.{All-contains}
use Rattle.fault_tree.specs.declared.nodes.TreeNode.{TreeNode}
use Rattle.fault_tree.specs.Marks.{cuts_of, IsNamedIn}
use Rattle.fault_tree.specs.Trees.{IsNode, IsMember}
use Rattle.fault_tree.proofs.Marking.{node_at, named_at}
use borrow.Author.Count.{below_more}
use Rattle.set_vectors.proofs.expansions.stand_first.Goals as goal

-- a node all members of which are below it
members_first : (nodes : List TreeNode) (k : ℕ) (node : TreeNode) → IsNode nodes k node
    → All (All (λ member. member < k)) (cuts_of node) → (member : ℕ) → IsMember nodes k member → member < k
members_first nodes k node at below member is =
    let named : IsNamedIn (cuts_of node) member = named_at nodes k member node at is in
    All-contains (λ m. m < k) named.list member
    (All-contains (All (λ m. m < k)) (cuts_of node) named.list below named.listed) named.named

pub loop-node-preserved : goal.loop-node-preserved
loop-node-preserved c =
    below_more (λ (k : ℕ). (member : ℕ) → IsMember c.args.nodes.now k member → member < k) c.loop-node.node
    c.loop-node.invariant
    (members_first c.args.nodes.now c.loop-node.node c.index-nodes-node.result
    (node_at c.args.nodes.now c.loop-node.node c.index-nodes-node.result c.loop-node-test.true c.index-nodes-node.is)
    (c.if-not-members_below.ensures refl))

pub returns : goal.returns
returns c = λ _ k member is. c.loop-node.invariant k (omega (arith, is.node.within, c.loop-node-test.false)) member is
