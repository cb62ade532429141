use Rattle.std.proofs.Common.{map}
use Rattle.spec_model.specs.Meanings as meanings
use Rattle.spec_types.specs.Walks as walks
use Rattle.spec_types.specs.Making as making
use Rattle.spec_types.proofs.Making.{built_more, built_all, noted_more, noted_all}
use Rattle.spec_types.proofs.contracts.contracts_of.Goals as goal

pub loop-item-preserved : goal.loop-item-preserved
loop-item-preserved c = record {
  built = built_more (making.contract_in (walks.scope_reading c.args.scope.now)) c.args.items.now (map meanings.contract_meaning c.loop-item.contracts)
      (map meanings.contract_meaning c.put_contract.new.contracts) c.loop-item.item-index _ c.loop-item-test.true c.item-item.is
      c.in_ok-put_contract.ensures.contracts c.loop-item.invariant.built;
  noted = noted_more (making.item_faults_by (walks.scope_reading c.args.scope.now)) c.args.items.now c.args.first.now c.loop-item.first c.put_contract.new.first
      c.loop-item.item-index _ c.loop-item-test.true c.item-item.is c.in_ok-put_contract.ensures.first c.loop-item.invariant.noted;
}

pub returns-clause-contracts : goal.returns-clause-contracts
returns-clause-contracts c =
    built_all (making.contract_in (walks.scope_reading c.args.scope.now)) c.args.items.now
    (map meanings.contract_meaning c.loop-item.contracts) c.loop-item.item-index
    c.loop-item-test.false c.loop-item.invariant.built

pub returns-clause-first : goal.returns-clause-first
returns-clause-first c =
    noted_all (making.item_faults_by (walks.scope_reading c.args.scope.now)) c.args.items.now c.args.first.now c.loop-item.first c.loop-item.item-index
    c.loop-item-test.false c.loop-item.invariant.noted
