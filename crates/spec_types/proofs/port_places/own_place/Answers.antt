use Rattle.std.proofs.Common.{ap, ◌∙◌, map, slice_get}
use Rattle.spec_types.specs.Walks as walks
use Rattle.spec_types.specs.Fitting.{find_if_there}
use Rattle.spec_types.proofs.Fitting.{port_at_by, found_own}
use Rattle.spec_types.proofs.port_places.own_place.Goals as goal

pub returns : goal.returns
returns c =
    let scopes = map walks.interface c.args.scope.now.scopes.now in
    port_at_by scopes c.args.input c.port_place.result _ _
    (ap (find_if_there (slice_get scopes c.args.scope.now.place)) c.as_str.ensures
    ∙ found_own scopes c.args.scope.now.place (walks.interface c.args.scope.now.own) c.args.name.now.text c.requires)
    c.port_place.ensures
