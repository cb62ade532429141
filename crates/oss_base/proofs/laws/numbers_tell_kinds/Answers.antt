use Rattle.oss_base.proofs.FaultNumbers.{fault_number-injective}
use Rattle.oss_base.proofs.laws.numbers_tell_kinds.Goals as goal

pub returns : goal.returns
returns c = fault_number-injective
