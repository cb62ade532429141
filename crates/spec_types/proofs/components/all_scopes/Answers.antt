use Rattle.std.proofs.Common.{map}
use Rattle.spec_types.specs.Walks as walks
use Rattle.spec_types.specs.Tables as tables
use Rattle.spec_types.proofs.Zips.{zipped_more, zipped_all, both_are}
use Rattle.spec_types.proofs.components.all_scopes.Goals as goal

pub loop-place-preserved : goal.loop-place-preserved
loop-place-preserved c =
    zipped_more tables.interface_by c.args.interfaces.now c.args.ports.now (map walks.interface c.loop-place.scopes.items)
    (map walks.interface c.put_scope.new.scopes.items)
    c.loop-place.place (both_are tables.interface_by _ _ _ _ _ c.in_ok-put_scope.ensures c.at-tables.ensures c.at-own.ensures) c.loop-place.invariant

pub returns : goal.returns
returns c =
    zipped_all tables.interface_by c.args.interfaces.now c.args.ports.now (map walks.interface c.loop-place.scopes.items) c.loop-place.place
    c.loop-place-test.false c.loop-place.invariant
