use Rattle.port_types.proofs.ValueLaws.{of_type_listed, listed_of_type}
use Rattle.port_types.proofs.types.PortType.has.Goals as goal

pub returns-clause-member : goal.returns-clause-member
returns-clause-member c = (
  λ yes. of_type_listed c.args.self.now c.args.value.now (c.is_type_of.ensures.0 yes),
  λ listed. c.is_type_of.ensures.1 (listed_of_type c.args.self.now c.args.value.now listed),
)
