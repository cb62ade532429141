use Rattle.std.proofs.Common.{◌≡◌, take}
use Rattle.fault_tree.specs.Forming.{all_unions, table_sets}
use Rattle.fault_tree.proofs.expanding.unions_of.Given as goal

abbrev pub invariant-loop-cut : goal.invariant-loop-cut
invariant-loop-cut l = l.unions ≡ all_unions (table_sets l.table) (take l.cut-index l.cuts)
