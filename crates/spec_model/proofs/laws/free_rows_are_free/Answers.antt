use Rattle.spec_model.proofs.FreeTargets.{free_targets_are}
use Rattle.spec_model.proofs.laws.free_rows_are_free.Goals as goal

pub returns : goal.returns
returns c = free_targets_are
