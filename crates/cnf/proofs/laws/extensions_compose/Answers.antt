use Rattle.cnf.proofs.ModelLaws.{IsConservative_refl, IsConservative_trans}
use Rattle.cnf.proofs.laws.extensions_compose.Goals as goal

pub returns-clause-compose : goal.returns-clause-compose
returns-clause-compose c = IsConservative_trans

pub returns-clause-nothing : goal.returns-clause-nothing
returns-clause-nothing c = IsConservative_refl
