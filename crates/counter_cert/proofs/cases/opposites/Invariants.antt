use Rattle.std.proofs.Common.{◌≡◌, map, take}
use Rattle.cnf.specs.Clauses.{opposite}
use Rattle.counter_cert.proofs.cases.opposites.Given as goal

abbrev pub invariant-loop-lit : goal.invariant-loop-lit
invariant-loop-lit l = l.clause ≡ map opposite (take l.lit-index l.lit-items)
