use Rattle.std.proofs.Common.{sym, subst, List, ◌∙◌}
use Rattle.connections.specs.declared.driving.Driver.{Driver}
use Rattle.connections.specs.PortTables.{TellConnections}
use Rattle.connections.proofs.PortReadings.{rows_tell_connections}
use Rattle.connections.proofs.sizes.size_by.Goals as goal

pub size_of_level-requires : goal.size_of_level-requires
size_of_level-requires c =
    let spec = c.args.spec.now in
    let component = c.args.item.now.component in
    subst (λ (rows : List (List Driver)). TellConnections spec component rows) (sym (c.as_slice.ensures ∙ c.requires))
    (rows_tell_connections spec component)
