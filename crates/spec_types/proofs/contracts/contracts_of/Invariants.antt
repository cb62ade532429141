use Rattle.std.specs.Prelude.{map}
use Rattle.spec_model.specs.Meanings as meanings
use Rattle.spec_types.specs.Walks as walks
use Rattle.spec_types.specs.Making as making
use Rattle.spec_types.proofs.Making.{Built, Noted}
use Rattle.spec_types.proofs.contracts.contracts_of.Given as goal

abbrev pub invariant-loop-item : goal.invariant-loop-item
invariant-loop-item l = record {
  built : Built (making.contract_in (walks.scope_reading l.scope)) l.items (map meanings.contract_meaning l.contracts) l.item-index;
  noted : Noted (making.item_faults_by (walks.scope_reading l.scope)) l.items l.fn.first l.first l.item-index;
}
