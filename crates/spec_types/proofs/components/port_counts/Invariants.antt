use Rattle.std.specs.Prelude.{◌≡◌, map, take}
use Rattle.spec_types.specs.Walks as walks
use Rattle.spec_types.specs.Tables as facts
use Rattle.spec_types.proofs.components.port_counts.Given as goal

abbrev pub invariant-loop-component : goal.invariant-loop-component
invariant-loop-component l = l.counts.items ≡ map (facts.scope_port_count (map walks.interface l.scopes)) (take l.component-index l.components)
