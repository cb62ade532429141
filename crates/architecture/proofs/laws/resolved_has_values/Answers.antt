use Rattle.architecture.proofs.SmallSpecs.{small_numbers}
use Rattle.architecture.proofs.WellFormed.{types_kept}
use Rattle.architecture.proofs.laws.resolved_has_values.Goals as goal

pub returns-clause-small : goal.returns-clause-small
returns-clause-small c = small_numbers c.tokens_stand.ensures

pub returns-clause-typed : goal.returns-clause-typed
returns-clause-typed c = types_kept
