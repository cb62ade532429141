use Rattle.std.proofs.Common.{sym, subst}
use Rattle.replay.specs.Judgements.{AreModerateWires}
use Rattle.replay.proofs.driven.driven_states.Goals as goal

pub driven_values-requires : goal.driven_values-requires
driven_values-requires c =
    subst (AreModerateWires c.args.wires.now) (sym c.state-item.is) (c.requires c.loop-state.state-index c.state-item.result c.loop-state-test.true)
