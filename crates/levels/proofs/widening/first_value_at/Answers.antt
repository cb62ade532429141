use Rattle.std.proofs.Common.{ap}
use Rattle.port_types.specs.declared.types.PortType.TheVariants as kind
use Rattle.first_lasso.specs.UsedPorts.{first_value}
use Rattle.levels.specs.Steps.{shown_type}
use Rattle.levels.proofs.Stepwise.{none_mapped}
use Rattle.levels.proofs.widening.first_value_at.Goals as goal

pub returns-in-None : goal.returns-in-None
returns-in-None c = ap first_value (none_mapped shown_type c.args.free.now c.args.k kind.Bool c.in-None.ensures)
