use Rattle.std.proofs.Common.{◌≡◌, ◌≤◌, ◌+◌, min, map, drop, length}
use Rattle.fault_tree.specs.Forming.{table_sets}
use Rattle.fault_tree.specs.Trees.{most_unions, product}
use Rattle.fault_tree.proofs.widths.cut_width.Given as goal

abbrev pub invariant-loop-i : goal.invariant-loop-i
invariant-loop-i l = record {
  so_far : l.width ≡ min (product (map (λ member. length (table_sets l.table member)) (drop l.i l.cut))) (most_unions + 1);
  i_in : l.i ≤ length l.cut;
}

abbrev pub decreases-loop-i : goal.decreases-loop-i
decreases-loop-i l = l.i
