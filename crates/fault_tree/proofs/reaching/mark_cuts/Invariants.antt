use Rattle.std.proofs.Common.{take}
use Rattle.fault_tree.specs.Marks.{IsNamedIn, Marks}
use Rattle.fault_tree.proofs.reaching.mark_cuts.Given as goal

abbrev pub invariant-loop-cut : goal.invariant-loop-cut
invariant-loop-cut l = Marks l.fn.marks l.marks (IsNamedIn (take l.cut-index l.cuts))
