use Rattle.std.proofs.Common.{List, subst, sym}
use Rattle.port_types.specs.declared.sets.Set24.{Set24}
use Rattle.minimal_sets.specs.Searches.{IsSearch}
use Rattle.minimal_sets.proofs.Cursors.{search_outside}
use Rattle.minimal_sets.proofs.search.add_outside.Goals as goal

pub returns-clause-search : goal.returns-clause-search
returns-clause-search g c =
    let F : Set24 → Type 0 = g.T.Test.family c.args.test.now in
    subst (λ (outside : List Set24). IsSearch c.args.n F c.past_subsets.result c.args.members.now outside) (sym c.in_ok-push.ensures.ok)
    (search_outside c.args.n F c.args.members.now c.args.outside.now c.args.set c.in_ok-found.found c.past_subsets.result
    c.requires.search c.requires.unsettled c.in_ok-found.ensures.maximal c.in_ok-found.ensures.superset c.past_subsets.ensures.within)
