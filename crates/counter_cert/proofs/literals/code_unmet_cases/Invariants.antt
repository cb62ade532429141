use Rattle.std.proofs.Common.{◌≡◌, take}
use Rattle.counter_cert.specs.StepClauses.{unmet_cases}
use Rattle.counter_cert.proofs.literals.code_unmet_cases.Given as goal

abbrev pub invariant-loop-entry : goal.invariant-loop-entry
invariant-loop-entry l = l.cases.items ≡ unmet_cases l.layer l.first (take l.entry-index l.entries)
