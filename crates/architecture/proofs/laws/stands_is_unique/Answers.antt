use Rattle.architecture.proofs.Uniqueness.{stands_once}
use Rattle.architecture.proofs.laws.stands_is_unique.Goals as goal

pub returns : goal.returns
returns c = stands_once
