use Rattle.std.proofs.Common.{◌≡◌, List, ◌∙◌, ap, sym, subst, IfOk, map, length}
use Rattle.spec_model.specs.declared.sub.Sub.{Sub}
use Rattle.spec_model.specs.declared.wire.Wire.{Wire}
use Rattle.spec_model.specs.declared.wire.Target.{Target}
use Rattle.spec_model.specs.Architecture as specs
use Rattle.spec_model.specs.FreeRows as rows
use Rattle.spec_model.proofs.FreeTargets.{free_targets_are}
use Rattle.spec_model.proofs.free_ports.free_targets.Goals as goal

pub returns : goal.returns
returns c =
    let counts = c.as_slice.ensures.value ∙ (c.in_ok-counts.ensures ∙ ap (map (λ (s : Sub). length
    (specs.ports_of c.args.spec.now s.component))) c.subs_of.ensures) in
    let targets = c.as_slice-2.ensures.value ∙ (c.in_ok-targets.ensures ∙ ap (map (λ (w : Wire). w.target)) c.wires_of.ensures) in
    subst (λ (ports : List Target). IfOk c.undriven_targets.result (λ free. free.items ≡ ports))
    ((λ j. rows.free_among (length (c.ports_of-own.ensures j)) (counts j) (targets j)) ∙ sym (free_targets_are c.args.spec.now c.args.c))
    c.undriven_targets.ensures
