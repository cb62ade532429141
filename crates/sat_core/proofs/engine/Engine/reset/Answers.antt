use Rattle.std.proofs.Common.{subst, sym, List}
use Rattle.sat_core.specs.declared.trail.Step.{Step}
use Rattle.sat_core.specs.Watching.{NoConflict}
use Rattle.sat_core.proofs.EngineLaws.{NoConflict-start}
use Rattle.sat_core.proofs.engine.Engine.reset.Goals as goal

pub returns-clause-quiet : goal.returns-clause-quiet
returns-clause-quiet c =
    let links = c.back.new.self.links in
    subst (λ (l : List Step). NoConflict links l) (sym c.back.ensures.steps) (NoConflict-start links c.lists_are_exact.ensures)
