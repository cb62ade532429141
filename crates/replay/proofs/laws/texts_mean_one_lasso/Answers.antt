use Rattle.replay.proofs.OneLasso.{texts_mean_one_lasso}
use Rattle.replay.proofs.laws.texts_mean_one_lasso.Goals as goal

pub returns : goal.returns
returns c = texts_mean_one_lasso
