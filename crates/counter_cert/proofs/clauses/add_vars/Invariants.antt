use Rattle.std.proofs.Common.{◌≡◌, ◌+◌}
use Rattle.counter_cert.proofs.clauses.add_vars.Given as goal

-- so many variables are added
abbrev pub invariant-loop : goal.invariant-loop
invariant-loop l = record {
  vars : l.cnf.vars ≡ l.fn.cnf.vars + l.counter;
  clauses : l.cnf.clauses ≡ l.fn.cnf.clauses;
}
