use Rattle.std.proofs.Common.{◌≡◌, ◌++◌, take}
use Rattle.counter_cert.proofs.clauses.add_clauses.Given as goal

-- the clauses so far are added
abbrev pub invariant-loop-clause : goal.invariant-loop-clause
invariant-loop-clause l = record {
  vars : l.cnf.vars ≡ l.fn.cnf.vars;
  clauses : l.cnf.clauses ≡ l.fn.cnf.clauses ++ take l.clause-index l.clauses;
}
