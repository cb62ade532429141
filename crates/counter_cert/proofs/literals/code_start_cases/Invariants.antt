use Rattle.std.proofs.Common.{◌≡◌, ◌++◌, drop}
use Rattle.counter_cert.specs.StartClauses.{start_cases}
use Rattle.counter_cert.proofs.literals.code_start_cases.Given as goal

abbrev pub invariant-loop-entry : goal.invariant-loop-entry
invariant-loop-entry l = l.cases.items ++ start_cases l.layer (drop l.entry-index l.entries) ≡ start_cases l.layer l.entries
