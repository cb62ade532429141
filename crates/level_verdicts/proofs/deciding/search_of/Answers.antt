use Rattle.std.proofs.Common.{◌∙◌}
use Rattle.level_verdicts.proofs.Searching.{search_begins}
use Rattle.level_verdicts.proofs.deciding.search_of.Goals as goal

pub returns : goal.returns
returns c =
    search_begins c.args.level.now _ (c.in_ok-tableau.ensures.closure ∙ c.closure.ensures) (c.in_ok-tableau.ensures.ports ∙ c.ports.ensures)
    c.new-solver.ensures.vars c.new-solver.ensures.clauses
