use Rattle.std.proofs.Common.{◌≡◌, ◌≤◌, ◌+◌, ◌-◌, ◌++◌, drop, length}
use Rattle.fault_tree.specs.Forming.{merged}
use Rattle.fault_tree.proofs.unions.union.Given as goal

abbrev pub invariant-loop-i : goal.invariant-loop-i
invariant-loop-i l = record {
  so_far : l.union ++ merged (drop l.i l.xs) (drop l.j l.ys) ≡ merged l.xs l.ys;
  i_in : l.i ≤ length l.xs;
  j_in : l.j ≤ length l.ys;
}

abbrev pub decreases-loop-i : goal.decreases-loop-i
decreases-loop-i l = (length l.xs - l.i) + (length l.ys - l.j)
