use Rattle.std.specs.Prelude.{map}
use Rattle.spec_model.specs.Meanings as meanings
use Rattle.spec_types.specs.Walks as walks
use Rattle.spec_types.specs.Making as making
use Rattle.spec_types.specs.Fitting as fitting
use Rattle.spec_types.proofs.Making.{Built, Noted}
use Rattle.spec_types.proofs.connections.wires_of.Given as goal

abbrev pub invariant-loop-item : goal.invariant-loop-item
invariant-loop-item l = record {
  built : Built (making.wire_in (walks.target_by (walks.refinement l.scope)) (walks.connection_reading_by (walks.refinement l.scope) l.order)) l.items
      (map meanings.wire_meaning l.wires) l.item-index;
  noted : Noted (making.wire_faults_by (walks.kind_by (walks.refinement l.scope)) (walks.connection_reading_by (walks.refinement l.scope) l.order)) l.items
      l.fn.first l.first l.item-index;
  known : fitting.KnowsFits l.scope l.known.kept.items;
}
