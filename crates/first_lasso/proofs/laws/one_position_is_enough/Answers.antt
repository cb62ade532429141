use Rattle.first_lasso.specs.Lassos.{Satisfies}
use Rattle.first_lasso.proofs.Agreement.{state_formulas_are_decided}
use Rattle.first_lasso.proofs.OnePosition as one
use Rattle.first_lasso.proofs.laws.one_position_is_enough.Goals as goal

pub returns-clause-formulas : goal.returns-clause-formulas
returns-clause-formulas c = state_formulas_are_decided

pub returns-clause-exact : goal.returns-clause-exact
returns-clause-exact c = λ ports f. one.one_position_is_enough ports (Satisfies f)

pub returns-clause-found : goal.returns-clause-found
returns-clause-found c = λ ports f k found. one.one_position_is_found ports (Satisfies f) k found
