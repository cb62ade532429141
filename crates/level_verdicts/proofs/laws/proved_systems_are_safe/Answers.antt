use Rattle.level_verdicts.proofs.Safe.{proved_systems_are_safe}
use Rattle.level_verdicts.proofs.laws.proved_systems_are_safe.Goals as goal

pub returns : goal.returns
returns c = proved_systems_are_safe c.proved_is_valid.ensures c.contracts_compose.ensures
