use Rattle.std.proofs.Common.{◌≡◌, take}
use Rattle.fault_tree.specs.Forming.{times}
use Rattle.fault_tree.proofs.unions.each_with_each.Given as goal

abbrev pub invariant-loop-set : goal.invariant-loop-set
invariant-loop-set l = l.unions ≡ times (take l.set-index l.sets) l.others
