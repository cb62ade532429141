use Rattle.architecture.proofs.WellFormed.{well_formed, connected}
use Rattle.architecture.proofs.laws.resolved_is_well_formed.Goals as goal

pub returns-clause-well : goal.returns-clause-well
returns-clause-well c = well_formed

pub returns-clause-connected : goal.returns-clause-connected
returns-clause-connected c = connected
