use Rattle.std.proofs.Common.{take}
use Rattle.std.specs.Prelude.{Contains}
use Rattle.fault_tree.specs.Marks.{Marks}
use Rattle.fault_tree.proofs.reaching.mark_cut.Given as goal

abbrev pub invariant-loop-member : goal.invariant-loop-member
invariant-loop-member l = Marks l.fn.marks l.marks (Contains (take l.member-index l.cut))
