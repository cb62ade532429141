use Rattle.std.proofs.Common.{◌≡◌, List, ◌∙◌, ap, sym, subst, IfOk, map, length}
use Rattle.spec_model.specs.declared.sub.Sub.{Sub}
use Rattle.spec_model.specs.declared.wire.Wire.{Wire}
use Rattle.spec_model.specs.declared.wire.Target.{Target}
use Rattle.spec_model.specs.Architecture as specs
use Rattle.spec_model.specs.FreeRows as rows
use Rattle.spec_model.proofs.FreeTargets.{free_targets_are}
use Rattle.spec_model.proofs.spec.Spec.free_order.Goals as goal

pub returns : goal.returns
returns c =
    let counts = c.in_ok-counts.ensures ∙ ap (map (λ (s : Sub). length (specs.ports_of c.args.self.now s.component))) c.subs_of.ensures in
    let targets = c.as_slice.ensures.value ∙ (c.in_ok-targets.ensures ∙ ap (map (λ (w : Wire). w.target)) c.wires_of.ensures) in
    subst (λ (ports : List Target). IfOk c.new.result (λ order. order ≡ ports))
    ((λ j. rows.free_among (length (c.ports_of.ensures j)) (counts j) (targets j)) ∙ sym (free_targets_are c.args.self.now c.args.c))
    c.new.ensures
