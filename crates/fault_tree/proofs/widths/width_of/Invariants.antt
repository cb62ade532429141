use Rattle.std.proofs.Common.{◌≡◌, ◌≤◌, ◌+◌, min, drop, length}
use Rattle.fault_tree.specs.Forming.{table_sets}
use Rattle.fault_tree.specs.Trees.{most_unions, width}
use Rattle.fault_tree.proofs.widths.width_of.Given as goal

abbrev pub invariant-loop-i : goal.invariant-loop-i
invariant-loop-i l = record {
  so_far : l.width ≡ min (width (table_sets l.table) (drop l.i l.cuts)) (most_unions + 1);
  i_in : l.i ≤ length l.cuts;
}

abbrev pub decreases-loop-i : goal.decreases-loop-i
decreases-loop-i l = l.i
