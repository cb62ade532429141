use Rattle.ocra_tool.proofs.Replayed.{lasso_refused}
use Rattle.ocra_tool.proofs.replaying.lasso_refused.Goals as goal

pub returns-in-Ok : goal.returns-in-Ok
returns-in-Ok c = λ file other before now break.
    lasso_refused file c.args.lasso.now c.args.bytes.now c.in-Ok.text c.args.spec.now c.args.line other before now c.requires c.in-Ok.ensures break
