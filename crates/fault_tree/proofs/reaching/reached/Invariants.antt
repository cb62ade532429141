use Rattle.std.proofs.Common.{◌≤◌, length}
use Rattle.fault_tree.specs.Marks.{IsReaching}
use Rattle.fault_tree.proofs.reaching.reached.Given as goal

abbrev pub invariant-loop-node : goal.invariant-loop-node
invariant-loop-node l = record {
  reaching : IsReaching l.nodes l.fn.top l.marks.items l.node;
  within : l.node ≤ length l.nodes;
}

abbrev pub decreases-loop-node : goal.decreases-loop-node
decreases-loop-node l = l.node
