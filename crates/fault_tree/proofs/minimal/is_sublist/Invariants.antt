use Rattle.std.proofs.Common.{◌≡◌, ◌≤◌, ◌-◌, drop, length}
use Rattle.fault_tree.specs.Keeping.{sublist_test}
use Rattle.fault_tree.proofs.minimal.is_sublist.Given as goal

abbrev pub invariant-loop-i : goal.invariant-loop-i
invariant-loop-i l = record {
  so_far : sublist_test (drop l.i l.inner) (drop l.j l.outer) ≡ sublist_test l.inner l.outer;
  i_in : l.i ≤ length l.inner;
  j_in : l.j ≤ length l.outer;
}

abbrev pub decreases-loop-i : goal.decreases-loop-i
decreases-loop-i l = length l.outer - l.j
