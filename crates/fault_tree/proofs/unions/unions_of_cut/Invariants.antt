use Rattle.std.proofs.Common.{◌≡◌, ◌≤◌, drop, length}
use Rattle.fault_tree.specs.Forming.{cut_unions, table_sets}
use Rattle.fault_tree.proofs.unions.unions_of_cut.Given as goal

abbrev pub invariant-loop-i : goal.invariant-loop-i
invariant-loop-i l = record {
  so_far : l.unions ≡ cut_unions (table_sets l.table) (drop l.i l.cut);
  i_in : l.i ≤ length l.cut;
}

abbrev pub decreases-loop-i : goal.decreases-loop-i
decreases-loop-i l = l.i
