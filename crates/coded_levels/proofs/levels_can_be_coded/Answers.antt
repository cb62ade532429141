use Rattle.coded_levels.proofs.Coded.{levels_can_be_coded, free_types_have_values}
use Rattle.coded_levels.proofs.levels_can_be_coded.Goals as goal

pub returns-clause-levels : goal.returns-clause-levels
returns-clause-levels c = levels_can_be_coded

pub returns-clause-free : goal.returns-clause-free
returns-clause-free c = free_types_have_values
