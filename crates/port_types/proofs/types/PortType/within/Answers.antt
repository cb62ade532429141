use Rattle.port_types.proofs.ValueLaws.{within_included, included_within}
use Rattle.port_types.proofs.types.PortType.within.Goals as goal

pub returns-clause-included : goal.returns-clause-included
returns-clause-included c = λ yes. within_included c.args.self.now c.args.other.now (c.lies_in.ensures.0 yes)

pub returns-clause-inhabited : goal.returns-clause-inhabited
returns-clause-inhabited c = λ some included. c.lies_in.ensures.1 (included_within c.args.self.now c.args.other.now some included)
