use Rattle.std.proofs.Common.{◌≡◌, length}
use Rattle.fault_tree.specs.Expansions.{IsExpandedBelow}
use Rattle.fault_tree.specs.Forming.{table_sets}
use Rattle.fault_tree.specs.Tables.{AllRising}
use Rattle.fault_tree.proofs.expanding.expand.Given as goal

abbrev pub invariant-loop-node : goal.invariant-loop-node
invariant-loop-node l = record {
  long : length l.table ≡ l.node;
  below : IsExpandedBelow l.nodes l.top l.node (table_sets l.table);
  rising : AllRising (table_sets l.table);
}
