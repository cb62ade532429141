use Rattle.std.specs.Prelude.{◌≡◌, map, take}
use Rattle.std.specs.List.{zip}
use Rattle.spec_types.specs.Walks as walks
use Rattle.spec_types.specs.Tables as tables
use Rattle.spec_types.proofs.components.all_scopes.Given as goal

abbrev pub invariant-loop-place : goal.invariant-loop-place
invariant-loop-place l = map walks.interface l.scopes.items ≡ take l.place (map tables.interface_by (zip l.interfaces l.ports))
