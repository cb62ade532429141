use Rattle.obligations.proofs.Composed as composed
use Rattle.obligations.proofs.laws.contracts_compose.Goals as goal

pub returns : goal.returns
returns c = composed.contracts_compose c.truth_is_stable.ensures c.substitution_keeps_truth.ensures
