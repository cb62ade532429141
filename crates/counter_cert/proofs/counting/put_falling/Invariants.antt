use Rattle.std.proofs.Common.{◌≡◌, ◌++◌}
use Rattle.counter_cert.specs.StepClauses.{each_below, falling_clauses}
use Rattle.counter_cert.proofs.counting.put_falling.Given as goal

abbrev pub invariant-loop-b : goal.invariant-loop-b
invariant-loop-b l = l.clauses.items ≡ l.fn.clauses.items ++ each_below (falling_clauses l.over) l.b
