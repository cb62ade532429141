use Rattle.std.proofs.Common.{◌<◌, ℕ, List, length, get_or, subst, sym, ap, ◌∙◌}
use Rattle.std.specs.Prelude.{All}
use Rattle.fault_tree.specs.declared.nodes.TreeNode.{TreeNode}
use Rattle.fault_tree.specs.declared.nodes.TreeNode.TheVariants.{Cuts}
use Rattle.fault_tree.specs.Forming.{table_sets}
use Rattle.fault_tree.specs.Trees.{IsNode}
use Rattle.fault_tree.proofs.Marking.{node_at}
use Rattle.fault_tree.proofs.TableLaws.{members_in, refined_gives}
use Rattle.fault_tree.proofs.expanding.node_sets.Goals as goal

pub refine-requires-clause-members : goal.refine-requires-clause-members
refine-requires-clause-members c =
    let item : IsNode c.args.nodes.now c.args.node c.index-as_slice-node.result =
    node_at c.args.nodes.now c.args.node c.index-as_slice-node.result c.requires.within
    (c.index-as_slice-node.is
    ∙ ap (λ (l : List TreeNode). get_or l c.args.node c.index-as_slice-node.result) c.as_slice.ensures) in
    let at : IsNode c.args.nodes.now c.args.node (Cuts c.in-Cuts.cuts) =
    subst (IsNode c.args.nodes.now c.args.node) c.in-Cuts.is item in
    subst (λ (l : List (List ℕ)). All (All (λ member. member < length c.args.table.now)) l) (sym c.as_slice-in-Cuts.ensures)
    (members_in c.args.nodes.now c.requires.order c.args.node (length c.args.table.now) c.in-Cuts.cuts c.requires.table at)

pub returns-in-Cuts : goal.returns-in-Cuts
returns-in-Cuts c =
    let item : IsNode c.args.nodes.now c.args.node c.index-as_slice-node.result =
    node_at c.args.nodes.now c.args.node c.index-as_slice-node.result c.requires.within
    (c.index-as_slice-node.is
    ∙ ap (λ (l : List TreeNode). get_or l c.args.node c.index-as_slice-node.result) c.as_slice.ensures) in
    let at : IsNode c.args.nodes.now c.args.node (Cuts c.as_slice-in-Cuts.result.now) =
    subst (IsNode c.args.nodes.now c.args.node)
    (c.in-Cuts.is ∙ ap (λ (l : List (List ℕ)). Cuts l) (sym c.as_slice-in-Cuts.ensures)) item in
    refined_gives c.args.nodes.now (table_sets c.args.table.now) c.args.node c.args.reached c.as_slice-in-Cuts.result.now
    c.if-not-reached.false at c.refine.result c.refine.ensures.wide c.refine.ensures.minimal
