use Rattle.port_types.specs.declared.types.PortType.TheVariants as kind
use Rattle.levels.specs.Steps.{shown_type}
use Rattle.levels.proofs.Stepwise.{none_mapped}
use Rattle.levels.proofs.scope.type_at.Goals as goal

pub returns-in-None : goal.returns-in-None
returns-in-None c = none_mapped shown_type c.args.free.now c.args.place kind.Bool c.in-None.ensures
