use Rattle.std.proofs.Common.{◌<◌, sym, ap, subst, ◌∙◌}
use Rattle.strong_components.specs.StrongSearch.{Search, search_of, closed_at, IsStep}
use Rattle.strong_components.proofs.StrongSteps.{taken_inside, closing_step, following_step}
use Rattle.strong_components.proofs.strong.step.Goals as goal

pub follow-requires-clause-inside : goal.follow-requires-clause-inside
follow-requires-clause-inside c =
    taken_inside c.args.graph.now (search_of c.args.walk.now) c.next_edge.new.pending.items c.in-Some._place c.in-Some.node c.requires.search
    c.requires.inside c.in-Some.ensures.0

pub follow-requires-clause-marked : goal.follow-requires-clause-marked
follow-requires-clause-marked c =
    subst (λ n. c.in-Some.node < n) (sym c.requires.search.count)
    (taken_inside c.args.graph.now (search_of c.args.walk.now) c.next_edge.new.pending.items c.in-Some._place c.in-Some.node c.requires.search
    c.requires.inside c.in-Some.ensures.0)

pub returns-in_ok-close_segment-in-None : goal.returns-in_ok-close_segment-in-None
returns-in_ok-close_segment-in-None c =
    let s : Search = search_of c.args.walk.now in
    subst (λ (n : Search). IsStep c.args.graph.now s n)
    (sym (c.in_ok-close_segment-in-None.ensures ∙ ap (λ ps. closed_at (record s { pending = ps }) c.args.start) c.in-None.ensures.0))
    (closing_step c.args.graph.now s c.args.start c.requires.search c.requires.start c.in-None.ensures.1)

pub returns-in_ok-follow-in-Some : goal.returns-in_ok-follow-in-Some
returns-in_ok-follow-in-Some c =
    following_step c.args.graph.now (search_of c.args.walk.now) c.next_edge.new.pending.items c.in-Some._place c.in-Some.node c.args.start
    c.requires.search c.requires.inside c.requires.start c.in-Some.ensures.0 c.in-Some.ensures.1 (search_of c.follow.new.walk) c.in_ok-follow-in-Some.ensures
