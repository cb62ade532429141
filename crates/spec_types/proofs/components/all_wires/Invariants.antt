use Rattle.std.specs.Prelude.{◌≡◌, map, take}
use Rattle.std.specs.List.{zip, All}
use Rattle.spec_types.specs.Walks as walks
use Rattle.spec_types.specs.Tables as facts
use Rattle.spec_types.specs.Fitting as fitting
use Rattle.spec_types.proofs.Zips.{NotedBoth}
use Rattle.spec_types.proofs.components.all_wires.Given as goal

abbrev pub invariant-loop-place : goal.invariant-loop-place
invariant-loop-place l = record {
  made : map facts.wire_meanings l.wires.items
      ≡ take l.place (map (facts.wires_of_pair (map walks.interface l.scopes)) (zip (zip l.components (map walks.interface l.scopes)) l.refinements));
  noted : NotedBoth (facts.wire_faults_of_pair (map walks.interface l.scopes)) (zip (zip l.components (map walks.interface l.scopes)) l.refinements)
      l.fn.first l.first l.place;
  known : All (fitting.IsFitting (map walks.interface l.scopes)) l.known.kept.items;
}
