use Rattle.typed_ltl.proofs.laws.truth_is_stable.Goals as goal
use Rattle.typed_ltl.proofs.Stability.{stable}

pub returns : goal.returns
returns c = stable
