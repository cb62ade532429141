use Rattle.spec_model.proofs.MadeAgain.{contracts_are_distinct, wires_are_distinct}
use Rattle.spec_model.proofs.laws.meanings_are_distinct.Goals as goal

pub returns-clause-contracts : goal.returns-clause-contracts
returns-clause-contracts c = contracts_are_distinct

pub returns-clause-wires : goal.returns-clause-wires
returns-clause-wires c = wires_are_distinct
