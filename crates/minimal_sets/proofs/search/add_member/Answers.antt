use Rattle.std.proofs.Common.{List, subst, sym}
use Rattle.port_types.specs.declared.sets.Set24.{Set24}
use Rattle.minimal_sets.specs.Searches.{IsSearch}
use Rattle.minimal_sets.proofs.Cursors.{search_member}
use Rattle.minimal_sets.proofs.search.add_member.Goals as goal

pub returns-clause-search : goal.returns-clause-search
returns-clause-search g c =
    let F : Set24 → Type 0 = g.T.Test.family c.args.test.now in
    subst (λ (members : List Set24). IsSearch c.args.n F c.past_supersets.result members c.args.outside.now) (sym c.in_ok-push.ensures.ok)
    (search_member c.args.n F c.args.members.now c.args.outside.now c.args.set c.in_ok-found.found c.past_supersets.result
    c.requires.search c.requires.unsettled c.in_ok-found.ensures.minimal c.in_ok-found.ensures.subset c.past_supersets.ensures.within)
