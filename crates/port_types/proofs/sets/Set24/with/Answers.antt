use Rattle.port_types.proofs.BitLaws.{with_fits, with_has}
use Rattle.port_types.proofs.sets.Set24.with.Goals as goal

pub invariant_of-result : goal.invariant_of-result
invariant_of-result c = record { in_range = with_fits c.args.self.bits c.args.place c.args.self.in_range c.requires }

pub returns : goal.returns
returns c = λ p. with_has c.args.self.bits c.args.place p c.requires
