use Rattle.spec_names.proofs.EnumeratorFacts.{empty_index, empty_declares}
use Rattle.spec_names.proofs.enumerators.EnumeratorIndex.new.Goals as goal

pub returns-clause-index : goal.returns-clause-index
returns-clause-index c = empty_index (record { numbers = c.new.result; declarers = c.new-2.result }) c.new.ensures

pub returns-clause-empty : goal.returns-clause-empty
returns-clause-empty c = empty_declares (record { numbers = c.new.result; declarers = c.new-2.result }) c.new.ensures
