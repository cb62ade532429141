use Rattle.first_lasso.proofs.Agreement as agreement
use Rattle.first_lasso.proofs.laws.read_ports_decide.Goals as goal

pub returns-clause-values : goal.returns-clause-values
returns-clause-values c = agreement.read_ports_decide

pub returns-clause-renaming : goal.returns-clause-renaming
returns-clause-renaming c = agreement.renaming_keeps_truth
