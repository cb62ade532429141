use Rattle.coded_levels.proofs.Clear.{clear_levels_are_small, closures_are_counted}
use Rattle.coded_levels.proofs.clear_levels_are_small.Goals as goal

pub returns-clause-sizes : goal.returns-clause-sizes
returns-clause-sizes c = clear_levels_are_small

pub returns-clause-closures : goal.returns-clause-closures
returns-clause-closures c = closures_are_counted
