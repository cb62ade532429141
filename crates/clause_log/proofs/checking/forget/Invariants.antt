use Rattle.std.proofs.Common.{◌≡◌, length}
use Rattle.clause_log.proofs.checking.forget.Given as goal

abbrev pub invariant-loop-step : goal.invariant-loop-step
invariant-loop-step l = length l.set ≡ length l.fn.set
