use Rattle.connections.proofs.Substituted as holds
use Rattle.connections.proofs.laws.substitution_keeps_truth.Goals as goal

pub returns : goal.returns
returns c = holds.substitution_keeps_truth
