use Rattle.std.proofs.Common.{◌≡◌, ◌++◌, map, take}
use Rattle.fault_tree.specs.Forming.{merged}
use Rattle.fault_tree.proofs.unions.add_unions.Given as goal

abbrev pub invariant-loop-other : goal.invariant-loop-other
invariant-loop-other l = l.unions ≡ l.fn.unions ++ map (merged l.set) (take l.other-index l.others)
