use Rattle.typed_ltl.proofs.laws.truth_recurs.Goals as goal
use Rattle.typed_ltl.proofs.Periodicity.{truth_recurs, words_recur, lasso_truth_recurs}

pub returns : goal.returns
returns c = record {
  on_traces = truth_recurs;
  of_words = words_recur;
  on_lassos = lasso_truth_recurs;
}
