use Rattle.std.proofs.Common.{false}
use Rattle.port_types.specs.declared.types.Value.TheVariants as value
use Rattle.levels.proofs.Stepwise.{none_there}
use Rattle.levels.proofs.widening.value_of.Goals as goal

pub returns-in-None : goal.returns-in-None
returns-in-None c = none_there c.args.state.now c.args.place (value.Bool false) c.in-None.ensures
