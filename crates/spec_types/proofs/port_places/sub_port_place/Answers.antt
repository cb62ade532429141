use Rattle.std.proofs.Common.{ap, sym, ◌∙◌, map}
use Rattle.spec_names.specs.Tables.{entry_place}
use Rattle.spec_types.specs.Walks as walks
use Rattle.spec_types.proofs.Fitting.{port_at_by, found_sub_port}
use Rattle.spec_types.proofs.port_places.sub_port_place.Goals as goal

pub returns-in-Some : goal.returns-in-Some
returns-in-Some c =
    port_at_by (map walks.interface c.args.scope.now.scopes.now) c.args.input c.place_in_sub.result _ _
    (found_sub_port (walks.refinement c.args.scope.now) c.args.sub.now.text c.args.port.now.text c.in-Some.place
    (ap (entry_place c.args.scope.now.subs.now) (sym c.as_str.ensures) ∙ sym c.in-Some.ensures))
    c.place_in_sub.ensures
