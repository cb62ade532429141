use Rattle.std.proofs.Common.{◌≡◌, arith, ap, ◌∙◌, Some, slice_get}
use Rattle.spec_model.proofs.FreePlaces.{start_fits}
use Rattle.spec_model.proofs.free_order.sub_place.Goals as goal

pub overflow_add-result : goal.overflow_add-result
overflow_add-result c =
    let fits = start_fits c.args.own c.args.counts.now c.args.sub c.in-Some.start.now c.in-Some-at.count.now
    (c.in-Some.ensures ∙ ap (λ list. slice_get list c.args.sub) c.requires.starts) c.in-Some-at.ensures in
    omega (arith, fits, c.requires.room)
