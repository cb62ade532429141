use Rattle.std.proofs.Common.{Some, Err, ap}
use Rattle.ocra_tool.specs.Words.{ReplayLasso}
use Rattle.ocra_tool.proofs.Replayed.{too_many}
use Rattle.ocra_tool.proofs.Telling.{after_second}
use Rattle.ocra_tool.proofs.replaying.replay_spec.Goals as goal

pub returns-in-Ok-clause-means : goal.returns-in-Ok-clause-means
returns-in-Ok-clause-means g c = λ file.
    after_second (Some c.args.bytes.now) (g.F.Shelf.held c.args.shelf.now c.args.lasso.now) (g.F.Shelf.faults c.args.shelf.now)
    (g.F.Shelf.faults c.read_all.new.shelf) (ReplayLasso file c.args.lasso.now) c.as_slice.result.now c.replay_lasso.result
    (rw c.as_slice.ensures c.in-Ok.ensures.whole)
    (c.replay_lasso.ensures file (g.F.Shelf.faults c.args.shelf.now) (g.F.Shelf.faults c.read_all.new.shelf))

pub returns-in-Err-TooLong-clause-means : goal.returns-in-Err-TooLong-clause-means
returns-in-Err-TooLong-clause-means g c = λ file.
    c.lasso_refused.ensures file (g.F.Shelf.held c.args.shelf.now c.args.lasso.now) (g.F.Shelf.faults c.args.shelf.now)
    (g.F.Shelf.faults c.read_all.new.shelf)
    (too_many c.args.spec.now (g.F.Shelf.held c.args.shelf.now c.args.lasso.now)
    (c.in-Err-TooLong.ensures.too_long (ap Err c.in-Err-TooLong.field-0-is)))
