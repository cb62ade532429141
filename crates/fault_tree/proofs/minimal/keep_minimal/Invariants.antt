use Rattle.std.proofs.Common.{take}
use Rattle.fault_tree.specs.Keeping.{AreKeptOf}
use Rattle.fault_tree.proofs.minimal.keep_minimal.Given as goal

abbrev pub invariant-loop-set : goal.invariant-loop-set
invariant-loop-set l = AreKeptOf (take l.set-index l.sets) l.kept
