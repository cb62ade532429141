use Rattle.std.proofs.lemmas.Nat.{or_lt}
use Rattle.port_types.proofs.BitLaws.{either_has}
use Rattle.port_types.proofs.sets.Set24.union.Goals as goal

pub invariant_of-result : goal.invariant_of-result
invariant_of-result c = record { in_range = or_lt 24 c.args.self.bits c.args.other.bits c.args.self.in_range c.args.other.in_range }

pub returns : goal.returns
returns c = λ p. either_has c.args.self.bits c.args.other.bits p
