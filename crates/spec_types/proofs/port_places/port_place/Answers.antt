use Rattle.std.proofs.Common.{sym, ◌∙◌}
use Rattle.spec_types.specs.Walks as walks
use Rattle.spec_types.proofs.Fitting.{port_at}
use Rattle.spec_types.proofs.port_places.port_place.Goals as goal

pub returns-then-same_direction : goal.returns-then-same_direction
returns-then-same_direction c =
    port_at c.args.scopes.now c.args.component c.in-Some.ports.now c.args.name.now c.args.input (walks.found c.in-Some-find_port.found) _
    (record {
      ports_are = sym c.in-Some.ensures;
      found_is = c.in-Some-find_port.ensures;
      directed = sym c.same_direction.ensures ∙ c.if-same_direction.true;
    })
