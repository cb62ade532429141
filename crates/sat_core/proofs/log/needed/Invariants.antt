use Rattle.std.proofs.Common.{◌≡◌, length}
use Rattle.sat_core.proofs.log.needed.Given as goal

abbrev pub invariant-loop : goal.invariant-loop
invariant-loop l = length l.needed.items ≡ l.counter
