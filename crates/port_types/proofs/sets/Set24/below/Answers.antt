use Rattle.port_types.proofs.BitLaws.{below_fits, below_has}
use Rattle.port_types.proofs.sets.Set24.below.Goals as goal

pub invariant_of-result : goal.invariant_of-result
invariant_of-result c = record { in_range = below_fits c.args.n c.requires }

pub returns : goal.returns
returns c = λ p. below_has c.args.n p c.requires
