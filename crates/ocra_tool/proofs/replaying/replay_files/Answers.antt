use Rattle.std.proofs.Common.{List, ℕ, Option, Some, Err, subst, ap, refl}
use Rattle.ocra_tool.specs.Outcomes.{Means}
use Rattle.ocra_tool.specs.Words.{ReplayLasso}
use Rattle.ocra_tool.proofs.Telling.{after_first}
use Rattle.ocra_tool.proofs.replaying.replay_files.Goals as goal

pub returns-in-Ok-clause-means : goal.returns-in-Ok-clause-means
returns-in-Ok-clause-means g c =
    after_first (g.F.Shelf.held c.args.shelf.now c.args.file.now) (g.F.Shelf.held c.args.shelf.now c.args.lasso.now)
    (g.F.Shelf.faults c.args.shelf.now) (g.F.Shelf.faults c.read_all.new.shelf) (g.F.Shelf.faults c.replay_bytes.new.shelf)
    (ReplayLasso c.args.file.now c.args.lasso.now) c.as_slice.result.now c.replay_bytes.result
    (rw c.as_slice.ensures c.in-Ok.ensures.whole) c.in-Ok.ensures.later
    (subst (λ (o : Option (List ℕ)). Means (Some c.as_slice.result.now) o (g.F.Shelf.faults c.read_all.new.shelf)
    (g.F.Shelf.faults c.replay_bytes.new.shelf) (ReplayLasso c.args.file.now c.args.lasso.now) c.replay_bytes.result)
    (c.in-Ok.ensures.held c.args.lasso.now) c.replay_bytes.ensures.means)

pub returns-in-Err-clause-means : goal.returns-in-Err-clause-means
returns-in-Err-clause-means g c =
    c.unread.ensures (ReplayLasso c.args.file.now c.args.lasso.now) (g.F.Shelf.held c.args.shelf.now c.args.file.now)
    (g.F.Shelf.held c.args.shelf.now c.args.lasso.now) (g.F.Shelf.faults c.args.shelf.now) (g.F.Shelf.faults c.read_all.new.shelf) refl
    (λ e. c.in-Err.ensures.too_long (ap Err e)) (λ e. c.in-Err.ensures.failed (ap Err e))
