use Rattle.std.proofs.Common.{subst, refl}
use Rattle.fault_tree.specs.Trees.{MembersStandFirst}
use Rattle.set_vectors.proofs.expansions.expansion.Goals as goal

pub expand-requires-clause-order : goal.expand-requires-clause-order
expand-requires-clause-order c = subst MembersStandFirst c.as_slice.ensures (c.if-stand_first.ensures refl)
