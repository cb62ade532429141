use Rattle.std.proofs.Common.{◌≡◌, take}
use Rattle.counter_cert.specs.StartClauses.{guard_literals}
use Rattle.counter_cert.proofs.literals.code_guard.Given as goal

abbrev pub invariant-loop-x : goal.invariant-loop-x
invariant-loop-x l = l.lits ≡ guard_literals l.layer (take l.x-index l.guard)
