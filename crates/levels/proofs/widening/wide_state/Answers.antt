use Rattle.std.proofs.Common.{◌≡◌, [], ◌∷◌, ◌++◌, ◌∙◌, length, map, ap, arith}
use Rattle.port_types.specs.declared.types.Value.{Value}
use Rattle.first_lasso.specs.UsedPorts.{widened_value}
use Rattle.levels.specs.Steps.{shown_type}
use Rattle.levels.proofs.Stepwise.{ranged_on, ranged_whole}
use Rattle.levels.proofs.widening.wide_state.Goals as goal

pub loop-k-preserved : goal.loop-k-preserved
loop-k-preserved c =
    ranged_on (widened_value (map shown_type c.args.free.now) c.args.places.now c.args.state.now) c.loop-k.wide c.push.new.self c.loop-k.k
    c.loop-k.invariant (c.in_ok-push.ensures.ok ∙ ap (λ (v : Value). c.loop-k.wide ++ v ∷ []) c.in_ok-value.ensures)

pub returns : goal.returns
returns c =
    let whole : c.loop-k.k ≡ length c.args.free.now = omega (arith, c.loop-k-test.false, c.loop-k.auto.k-end) in
    ranged_whole (widened_value (map shown_type c.args.free.now) c.args.places.now c.args.state.now) shown_type c.loop-k.wide c.loop-k.k c.args.free.now
    whole c.loop-k.invariant
