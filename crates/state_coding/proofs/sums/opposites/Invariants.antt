use Rattle.std.proofs.Common.{◌≡◌, take}
use Rattle.std.specs.Prelude.{map}
use Rattle.cnf.specs.Clauses.{opposite}
use Rattle.state_coding.proofs.sums.opposites.Given as goal

abbrev pub invariant-loop-lit : goal.invariant-loop-lit
invariant-loop-lit l = l.others ≡ map opposite (take l.lit-index l.row)
