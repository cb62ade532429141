use Rattle.formula_vectors.proofs.Examples as examples
use Rattle.formula_vectors.proofs.lasso_order.first_of_all.Goals as goal

pub returns : goal.returns
returns c = examples.first_of_all
