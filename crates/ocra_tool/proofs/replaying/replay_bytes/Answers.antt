use Rattle.std.proofs.Common.{Some, refl}
use Rattle.ocra_tool.specs.Words.{ReplayLasso}
use Rattle.ocra_tool.proofs.replaying.replay_bytes.Goals as goal

pub returns-in-Ok-clause-means : goal.returns-in-Ok-clause-means
returns-in-Ok-clause-means g c = c.replay_spec.ensures.means c.args.file.now

pub returns-in-Err-Fault-clause-means : goal.returns-in-Err-Fault-clause-means
returns-in-Err-Fault-clause-means g c =
    c.refused.ensures (ReplayLasso c.args.file.now c.args.lasso.now) (Some c.args.bytes.now) (g.F.Shelf.held c.args.shelf.now c.args.lasso.now)
    (g.F.Shelf.faults c.args.shelf.now) (g.F.Shelf.faults c.args.shelf.now) refl (rw c.in-Err-Fault.field-0-is at c.in-Err-Fault.ensures.fault)
