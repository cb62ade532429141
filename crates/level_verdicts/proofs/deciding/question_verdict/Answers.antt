use Rattle.std.proofs.Common.{refl, sym, subst}
use Rattle.level_verdicts.specs.Steps.{IsVerdictByNodes}
use Rattle.level_verdicts.proofs.Found.{found_in_level, verdict_by_nodes}
use Rattle.level_verdicts.proofs.Searching.{search_goes_on}
use Rattle.level_verdicts.proofs.deciding.question_verdict.Goals as goal

pub returns-clause-search : goal.returns-clause-search
returns-clause-search c = search_goes_on c.args.level.now c.args.search.now _ refl c.shortest.ensures.models c.requires.search

pub returns-clause-verdict : goal.returns-clause-verdict
returns-clause-verdict c =
    let level = c.args.level.now in
    let question = c.args.question.now in
    let found = c.in_ok-found.found in
    subst (IsVerdictByNodes c.args.spec.now level question c.args.depth c.args.is_state) (sym c.verdict_of.ensures)
    (verdict_by_nodes c.args.spec.now level question c.args.depth c.args.is_state found c.in_ok-wide.wide
    (found_in_level level c.args.search.now.tableau question c.args.depth found c.requires.search.closure c.requires.search.ports
    c.in_ok-found.ensures.first) c.in_ok-wide.ensures)
