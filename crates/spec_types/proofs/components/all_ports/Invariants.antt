use Rattle.std.specs.Prelude.{◌≡◌, map, take}
use Rattle.spec_types.specs.Tables as tables
use Rattle.spec_types.proofs.Making.{Noted}
use Rattle.spec_types.proofs.components.all_ports.Given as goal

abbrev pub invariant-loop-component : goal.invariant-loop-component
invariant-loop-component l = record {
  made : l.ports.items ≡ map tables.ports_in (take l.component-index l.components);
  noted : Noted tables.range_faults_of l.components l.fn.first l.first l.component-index;
}
