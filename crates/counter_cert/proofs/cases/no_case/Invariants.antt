use Rattle.std.proofs.Common.{◌≡◌, take}
use Rattle.counter_cert.specs.StepClauses.{no_case_clauses}
use Rattle.counter_cert.proofs.cases.no_case.Given as goal

abbrev pub invariant-loop-case : goal.invariant-loop-case
invariant-loop-case l = l.clauses.items ≡ no_case_clauses (take l.case-index l.cases)
