use Rattle.std.proofs.Common.{[], Some, Err, ap, refl}
use Rattle.ocra_tool.specs.Words.{PrintFile}
use Rattle.ocra_tool.proofs.Telling.{after_first}
use Rattle.ocra_tool.proofs.printing.print_file.Goals as goal

pub returns-in-Ok-clause-means : goal.returns-in-Ok-clause-means
returns-in-Ok-clause-means g c =
    after_first (g.F.Shelf.held c.args.shelf.now c.args.file.now) (Some []) (g.F.Shelf.faults c.args.shelf.now) (g.F.Shelf.faults c.read_all.new.shelf)
    (g.F.Shelf.faults c.read_all.new.shelf) (PrintFile c.args.file.now) c.as_slice.result.now c.print_bytes.result
    (rw c.as_slice.ensures c.in-Ok.ensures.whole) c.in-Ok.ensures.later
    (c.print_bytes.ensures (g.F.Shelf.faults c.read_all.new.shelf) (g.F.Shelf.faults c.read_all.new.shelf))

pub returns-in-Err-clause-means : goal.returns-in-Err-clause-means
returns-in-Err-clause-means g c =
    c.unread.ensures (PrintFile c.args.file.now) (g.F.Shelf.held c.args.shelf.now c.args.file.now) (Some [])
    (g.F.Shelf.faults c.args.shelf.now) (g.F.Shelf.faults c.read_all.new.shelf) refl
    (λ e. c.in-Err.ensures.too_long (ap Err e)) (λ e. c.in-Err.ensures.failed (ap Err e))
