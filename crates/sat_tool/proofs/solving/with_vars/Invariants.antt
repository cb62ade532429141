use Rattle.std.proofs.Common.{◌≡◌, []}
use Rattle.sat_tool.proofs.solving.with_vars.Given as goal

abbrev pub invariant-loop : goal.invariant-loop
invariant-loop l = record { vars : l.solver.vars ≡ l.counter; none : l.solver.clauses ≡ [] }
