use Rattle.std.proofs.Common.{◌≡◌, ◌++◌}
use Rattle.counter_cert.specs.StepClauses.{each_below, progress_clauses}
use Rattle.counter_cert.proofs.counting.put_all_progress.Given as goal

abbrev pub invariant-loop-b : goal.invariant-loop-b
invariant-loop-b l = l.clauses.items ≡ l.fn.clauses.items ++ each_below (progress_clauses l.firsts.conditions l.firsts.over l.firsts.met l.firsts.over_next) l.b
