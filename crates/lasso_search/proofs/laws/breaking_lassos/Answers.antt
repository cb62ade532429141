use Rattle.lasso_search.proofs.TruthStates.{states_of_lasso}
use Rattle.lasso_search.proofs.MemberTruth.{lasso_of_states}
use Rattle.lasso_search.proofs.laws.breaking_lassos.Goals as goal

pub returns : goal.returns
returns c = λ t question lasso closed over. (
  states_of_lasso c.values_by_kind.ensures t closed question over lasso,
  lasso_of_states c.values_by_kind.ensures t closed question over lasso,
)
