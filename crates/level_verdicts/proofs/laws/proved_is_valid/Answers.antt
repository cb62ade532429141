use Rattle.level_verdicts.proofs.Valid.{proved_is_valid}
use Rattle.level_verdicts.proofs.laws.proved_is_valid.Goals as goal

pub returns : goal.returns
returns c = proved_is_valid c.one_state_is_enough.ensures.breaks
