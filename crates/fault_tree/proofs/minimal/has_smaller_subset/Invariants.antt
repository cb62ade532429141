use Rattle.std.proofs.Common.{take}
use Rattle.fault_tree.specs.Keeping.{HasSmallerSubset}
use Rattle.fault_tree.proofs.minimal.has_smaller_subset.Given as goal

abbrev pub invariant-loop-other : goal.invariant-loop-other
invariant-loop-other l = HasSmallerSubset (take l.other-index l.kept) l.set → ⊥
