use Rattle.first_lasso.specs.Lassos.{WordHas}
use Rattle.first_lasso.proofs.FirstLassos.{first_if_any_unique}
use Rattle.tableau.specs.Questions.{BreaksQuestion}
use Rattle.lasso_search.proofs.laws.answers_are_one.Goals as goal

pub returns : goal.returns
returns c = λ t question k a b. first_if_any_unique t.ports (WordHas (BreaksQuestion t question)) k a b
