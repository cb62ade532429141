use Rattle.core_ltl.proofs.CoreTruth.{core_keeps}
use Rattle.core_ltl.proofs.laws.core_forms_keep_truth.Goals as goal

pub returns : goal.returns
returns c = core_keeps c.truth_is_stable.ensures
