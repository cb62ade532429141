use Rattle.std.proofs.Common.{take}
use Rattle.sat_core.specs.Search.{IsWithout}
use Rattle.sat_core.proofs.chain.without.Given as goal

abbrev pub invariant-loop-other : goal.invariant-loop-other
invariant-loop-other l = IsWithout (take l.other-index l.lits) l.lit l.rest.items
