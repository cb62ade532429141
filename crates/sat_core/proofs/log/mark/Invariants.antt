use Rattle.sat_core.proofs.Logs.{IsMarkedSoFar}
use Rattle.sat_core.proofs.log.mark.Given as goal

abbrev pub invariant-loop-place : goal.invariant-loop-place
invariant-loop-place l = IsMarkedSoFar l.fn.needed l.needed l.derivation.first l.derivation.rest.items l.place
