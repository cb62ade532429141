use Rattle.first_lasso.specs.Lassos.{WordHas, Satisfies}
use Rattle.first_lasso.proofs.FirstLassos.{first_if_any_unique, no_first_lasso}
use Rattle.first_lasso.proofs.laws.first_lassos.Goals as goal

pub returns-clause-unique : goal.returns-clause-unique
returns-clause-unique c = λ ports f k a b. first_if_any_unique ports (WordHas (Satisfies f)) k a b

pub returns-clause-exist : goal.returns-clause-exist
returns-clause-exist c = λ ports f k. no_first_lasso ports (WordHas (Satisfies f)) k
