use Rattle.port_types.proofs.BitLaws.{without_has}
use Rattle.port_types.proofs.sets.Set24.without.Goals as goal

pub returns : goal.returns
returns c = λ p. without_has c.args.self.bits c.args.place p c.args.self.in_range c.requires
