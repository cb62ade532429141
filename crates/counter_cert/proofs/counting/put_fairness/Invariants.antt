use Rattle.std.proofs.Common.{◌≡◌, ◌++◌}
use Rattle.counter_cert.specs.StepClauses.{each_below, fairness_clauses}
use Rattle.counter_cert.proofs.counting.put_fairness.Given as goal

abbrev pub invariant-loop-j : goal.invariant-loop-j
invariant-loop-j l = l.clauses.items ≡ l.fn.clauses.items ++ each_below (fairness_clauses l.tab l.layer l.first) l.j
