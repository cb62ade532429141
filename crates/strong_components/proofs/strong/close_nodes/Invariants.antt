use Rattle.std.proofs.Common.{◌≡◌, drop, length}
use Rattle.strong_components.specs.StrongSearch.{closed_marks}
use Rattle.strong_components.proofs.strong.close_nodes.Given as goal

abbrev pub invariant-loop-node : goal.invariant-loop-node
invariant-loop-node l = record {
  count : length l.marks.items ≡ length l.fn.marks.items;
  closed : closed_marks l.marks.items (drop l.node-index l.nodes) l.number
      ≡ closed_marks l.fn.marks.items l.nodes l.number;
}
