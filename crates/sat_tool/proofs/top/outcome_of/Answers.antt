use Rattle.std.proofs.Common.{refl, sym, ◌∙◌}
use Rattle.sat_tool.specs.SatTellings.{task_of_words}
use Rattle.sat_tool.proofs.Answered.{where_told, is_some_map}
use Rattle.sat_tool.proofs.top.outcome_of.Goals as goal

pub returns-in-Ok-clause-means : goal.returns-in-Ok-clause-means
returns-in-Ok-clause-means g c =
    where_told (g.F.Shelf.held c.args.shelf.now c.args.task.file.now) (g.F.Shelf.faults c.args.shelf.now) (g.F.Shelf.faults c.read_all.new.shelf)
    (task_of_words c.args.task) c.as_slice.result.now c.solve_text.result (rw c.as_slice.ensures c.in-Ok.ensures.whole)
    (c.solve_text.ensures (g.F.Shelf.faults c.args.shelf.now) (g.F.Shelf.faults c.read_all.new.shelf) (task_of_words c.args.task) refl
    (is_some_map _ _ ∙ sym c.is_some.ensures))
