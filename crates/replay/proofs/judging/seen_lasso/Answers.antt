use Rattle.std.proofs.Common.{List, All, map, sym, subst, ◌∙◌}
use Rattle.spec_model.specs.declared.wire.Wire.{Wire}
use Rattle.spec_model.specs.Architecture.{wires_of}
use Rattle.replay.specs.Judgements.{AreModerateWires}
use Rattle.replay.specs.Judging.{driven_values}
use Rattle.replay.proofs.Judged.{seen_word}
use Rattle.replay.proofs.judging.seen_lasso.Goals as goal

pub driven_states-requires : goal.driven_states-requires
driven_states-requires c =
    subst (λ (wires : List Wire). All (AreModerateWires wires) c.as_slice.result.now) (sym c.wires_of-wires.ensures)
    (subst (All (AreModerateWires (wires_of c.args.spec.now c.args.named.now.component))) (sym c.as_slice.ensures) c.requires.moderate.wires)

pub returns : goal.returns
returns c =
    seen_word c.args.spec.now c.args.named.now c.args.sub c.args.drivers.now c.in_ok-states.states c.requires.row
    (c.in_ok-states.ensures ∙ (λ j. map (driven_values (c.wires_of-wires.ensures j) c.args.drivers.now) (c.as_slice.ensures j)))
