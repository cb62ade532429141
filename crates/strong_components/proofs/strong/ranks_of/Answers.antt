use Rattle.std.proofs.Common.{map, ap, ◌∙◌, arith}
use Rattle.strong_components.specs.StrongSearch.{search_of, class_of}
use Rattle.strong_components.proofs.StrongSteps.{ranking, begins_at, seen_more}
use Rattle.strong_components.proofs.strong.ranks_of.Goals as goal

pub loop-root-init : goal.loop-root-init
loop-root-init c = record {
  rest =
      begins_at c.args.graph.now c.in_ok-unseen_marks.field-0.items c.new.result.items c.new-2.result.items c.new-3.result.items
      c.in_ok-unseen_marks.ensures c.new.ensures.items c.new-2.ensures.items c.new-3.ensures.items;
  seen = λ u l. absurd (omega (arith, l));
}

pub loop-root-preserved : goal.loop-root-preserved
loop-root-preserved c = record {
  rest = c.in_ok-search_from.ensures.rest;
  seen = seen_more (search_of c.loop-root.walk) (search_of c.search_from.new.walk) c.loop-root.root c.loop-root.invariant.seen
      c.in_ok-search_from.ensures.seen c.in_ok-search_from.ensures.root;
}

pub returns : goal.returns
returns c =
    ranking c.args.graph.now (search_of c.loop-root.walk) c.in_ok-ranks.ranks.items c.loop-root.invariant.rest c.requires
    (λ u l. c.loop-root.invariant.seen u (omega arith)) (c.in_ok-ranks.ensures ∙ ap (map class_of) c.as_slice.ensures.value)
