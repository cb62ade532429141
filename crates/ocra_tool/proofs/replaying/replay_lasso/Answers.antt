use Rattle.std.proofs.Common.{Some, Err, ap}
use Rattle.ocra_tool.proofs.replaying.replay_lasso.Goals as goal

pub returns-in-Err-Fault : goal.returns-in-Err-Fault
returns-in-Err-Fault c = λ file before now.
    c.lasso_refused.ensures file (Some c.args.second.now) before now
    (c.in-Err-Fault.ensures.stops c.in-Err-Fault.line (ap Err c.in-Err-Fault.field-0-is))
