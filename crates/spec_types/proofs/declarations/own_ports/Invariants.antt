use Rattle.spec_types.specs.Making as making
use Rattle.spec_types.proofs.Making.{Built, Noted}
use Rattle.spec_types.proofs.declarations.own_ports.Given as goal

abbrev pub invariant-loop-item : goal.invariant-loop-item
invariant-loop-item l = record {
  built : Built making.port_in l.items l.ports l.item-index;
  noted : Noted making.range_faults_at l.items l.fn.first l.first l.item-index;
}
