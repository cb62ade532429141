use Rattle.std.specs.Prelude.{◌≡◌, map, take}
use Rattle.std.specs.List.{zip}
use Rattle.spec_types.specs.Walks as walks
use Rattle.spec_types.specs.Tables as tables
use Rattle.spec_types.proofs.Zips.{NotedBoth}
use Rattle.spec_types.proofs.components.all_contracts.Given as goal

abbrev pub invariant-loop-place : goal.invariant-loop-place
invariant-loop-place l = record {
  made : map tables.contract_meanings l.contracts.items ≡ take l.place (map tables.contracts_by (zip l.components (map walks.interface l.scopes)));
  noted : NotedBoth tables.contract_faults_by (zip l.components (map walks.interface l.scopes)) l.fn.first l.first l.place;
}
