use Rattle.std.proofs.Common.{◌≡◌, take}
use Rattle.sat_core.proofs.LitSets.{lits_of}
use Rattle.sat_core.proofs.distinct.literals.Given as goal

abbrev pub invariant-loop-place : goal.invariant-loop-place
invariant-loop-place l = l.lits.items ≡ lits_of (take l.place l.set.steps.items)
