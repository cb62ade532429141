use Rattle.first_lasso.proofs.Words as words
use Rattle.first_lasso.proofs.laws.words_are_over.Goals as goal

pub returns : goal.returns
returns c = words.words_are_over
