use Rattle.std.proofs.Common.{ap, ◌∙◌}
use Rattle.connections.specs.Drivers.{driver_rows}
use Rattle.levels.proofs.Faults.{large_size}
use Rattle.levels.proofs.deciding.has_large_size.Goals as goal

pub size_by-requires : goal.size_by-requires
size_by-requires c = c.requires.scope.rows ∙ ap (driver_rows c.args.spec.now) c.requires.component

pub returns : goal.returns
returns c = large_size c.args.spec.now c.args.item.now c.size_by.result c.size_by.ensures
