use Rattle.std.proofs.Common.{arith}
use Rattle.spec_model.proofs.FreePlaces.{few_before, place_taken, place_untaken, place_past}
use Rattle.spec_model.proofs.free_order.place_among_free.Goals as goal

pub overflow_sub-result : goal.overflow_sub-result
overflow_sub-result c = let few = few_before 0 c.args.place c.args.driven.now c.requires (omega arith) in omega (arith, few, c.count_before-before.ensures)

pub overflow_sub-result-in-None : goal.overflow_sub-result-in-None
overflow_sub-result-in-None c = let few = few_before 0 c.args.place c.args.driven.now c.requires (omega arith) in omega
    (arith, few, c.count_before-before.ensures)

pub returns-then-found-place : goal.returns-then-found-place
returns-then-found-place c =
    place_taken c.args.driven.now c.args.place c.count_before-before.result c.in-Some.found.now c.requires c.count_before-before.ensures
    c.in-Some.ensures c.if-found-place.true

pub returns-else-found-place : goal.returns-else-found-place
returns-else-found-place c =
    place_untaken c.args.driven.now c.args.place c.count_before-before.result c.in-Some.found.now c.requires c.count_before-before.ensures
    c.in-Some.ensures c.if-found-place.false

pub returns-in-None : goal.returns-in-None
returns-in-None c = place_past c.args.driven.now c.args.place c.count_before-before.result c.requires c.count_before-before.ensures c.in-None.ensures
