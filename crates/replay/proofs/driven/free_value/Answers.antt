use Rattle.std.proofs.Common.{false}
use Rattle.port_types.specs.declared.types.Value.TheVariants as value
use Rattle.replay.proofs.Judged.{default_at}
use Rattle.replay.proofs.driven.free_value.Goals as goal

pub returns-in-None : goal.returns-in-None
returns-in-None c = default_at c.args.state.now c.as_slice.result.now c.args.place (value.Bool false) c.as_slice.ensures c.in-None.ensures
