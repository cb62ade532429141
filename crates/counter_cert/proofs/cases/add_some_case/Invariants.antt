use Rattle.std.proofs.Common.{◌≡◌, ◌+◌, ◌<◌, ◌++◌, drop}
use Rattle.std.specs.Prelude.{All}
use Rattle.counter_cert.specs.StartClauses.{cases_implied, case_literals}
use Rattle.counter_cert.proofs.cases.add_some_case.Given as goal

-- what is added so far, before what the cases that are left add
abbrev pub invariant-loop-case : goal.invariant-loop-case
invariant-loop-case l = record {
  vars : l.cnf.vars ≡ l.fn.cnf.vars + l.case-index;
  clauses : l.cnf.clauses ++ cases_implied l.cnf.vars (drop l.case-index l.cases)
      ≡ l.fn.cnf.clauses ++ cases_implied l.fn.cnf.vars l.cases;
  any : l.any ++ case_literals l.cnf.vars (drop l.case-index l.cases) ≡ case_literals l.fn.cnf.vars l.cases;
  known : All (λ lit. lit.var < l.cnf.vars) l.any;
}
