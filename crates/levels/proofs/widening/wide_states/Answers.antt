use Rattle.std.proofs.Common.{List, [], ◌∷◌, ◌++◌, ◌∙◌, map, ap, sym}
use Rattle.port_types.specs.declared.types.Value.{Value}
use Rattle.first_lasso.specs.UsedPorts.{widened_state}
use Rattle.levels.specs.Steps.{shown_type}
use Rattle.levels.proofs.Stepwise.{mapped_on}
use Rattle.levels.proofs.widening.wide_states.Goals as goal

pub loop-state-preserved : goal.loop-state-preserved
loop-state-preserved c =
    mapped_on (widened_state (map shown_type c.args.free.now) c.args.places.now) [] c.loop-state.wide c.push.new.self c.args.states.now
    c.loop-state.state-index c.state-item.result c.state-item.result c.loop-state-test.true (sym c.state-item.is) c.loop-state.invariant
    (c.in_ok-push.ensures.ok ∙ ap (λ (s : List Value). c.loop-state.wide ++ s ∷ []) (c.in_ok-state.ensures
    ∙ ap (widened_state (map shown_type c.args.free.now) c.args.places.now) c.as_slice.ensures))
