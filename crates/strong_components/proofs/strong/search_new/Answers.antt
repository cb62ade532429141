use Rattle.std.proofs.Common.{◌<◌, sym, subst}
use Rattle.strong_components.specs.StrongSearch.{Search, search_of, IsStrongSearch, StaysSeen}
use Rattle.strong_components.proofs.StrongSteps.{first_opened, first_seen_stays, opened_seen}
use Rattle.strong_components.proofs.strong.search_new.Goals as goal

pub run-requires-clause-search : goal.run-requires-clause-search
run-requires-clause-search c =
    subst (λ (n : Search). IsStrongSearch c.args.graph.now n) (sym c.in_ok-open_node.ensures)
    (first_opened c.args.graph.now (search_of c.args.walk.now) c.args.root c.requires.rest c.requires.unseen c.requires.root)

pub returns-clause-seen : goal.returns-clause-seen
returns-clause-seen c = λ u h.
    first_seen_stays c.args.graph.now (search_of c.args.walk.now) c.args.root c.requires.rest c.requires.unseen c.requires.root u
    (subst (λ (n : Search). StaysSeen n (search_of c.run.new.walk)) c.in_ok-open_node.ensures c.in_ok-run.ensures.seen u h)

pub returns-clause-root : goal.returns-clause-root
returns-clause-root c = λ h.
    opened_seen c.args.graph.now (search_of c.args.walk.now) c.args.root (subst (λ n. c.args.root < n) (sym c.requires.rest.search.count) c.requires.root)
    (subst (λ (n : Search). StaysSeen n (search_of c.run.new.walk)) c.in_ok-open_node.ensures c.in_ok-run.ensures.seen c.args.root h)
