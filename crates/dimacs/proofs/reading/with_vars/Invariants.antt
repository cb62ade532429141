use Rattle.std.proofs.Common.{◌≡◌, []}
use Rattle.dimacs.proofs.reading.with_vars.Given as goal

abbrev pub invariant-loop : goal.invariant-loop
invariant-loop l = record { vars : l.cnf.vars ≡ l.counter; none : l.cnf.clauses ≡ [] }
