use Rattle.std.proofs.Common.{◌≡◌, take}
use Rattle.sat_tool.proofs.solving.solver_of.Given as goal

abbrev pub invariant-loop-clause : goal.invariant-loop-clause
invariant-loop-clause l = record {
  vars : l.solver.vars ≡ l.cnf.vars;
  clauses : l.solver.clauses ≡ take l.clause-index l.cnf.clauses;
}
