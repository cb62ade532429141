use Rattle.std.proofs.Common.{ap, sym, ◌∙◌, map}
use Rattle.spec_types.specs.Walks as walks
use Rattle.spec_types.specs.Fitting.{find_if_there}
use Rattle.spec_types.proofs.Fitting.{port_at_by, found_in_sub}
use Rattle.spec_types.proofs.port_places.place_in_sub.Goals as goal

pub returns-in-Some : goal.returns-in-Some
returns-in-Some c =
    let scopes = map walks.interface c.args.scope.now.scopes.now in
    port_at_by scopes c.args.input c.place_in_component.result _ _
    (ap (find_if_there (walks.component_ports scopes c.in-Some.component.now)) c.as_str.ensures
    ∙ found_in_sub (walks.refinement c.args.scope.now) c.args.sub c.in-Some.component.now c.args.port.now.text (sym c.in-Some.ensures))
    c.place_in_component.ensures
