use Rattle.std.proofs.Common.{◌≡◌, ap, ◌∙◌, nat_eq, filter_map}
use Rattle.std.specs.List.{list_any}
use Rattle.spec_model.specs.FreePlaces.{whole_place}
use Rattle.spec_model.proofs.FreePlaces.{table_is}
use Rattle.spec_model.proofs.free_order.FreeOrder.new.Goals as goal

pub returns : goal.returns
returns c =
    table_is c.args.own c.args.counts.items c.rising-driven.result.items c.args.targets.now
    (λ k. c.rising-driven.ensures.same k
    ∙ ap (list_any (nat_eq k)) (c.in_ok-driven.ensures ∙ ap (λ counts. filter_map
    (whole_place c.args.own counts) c.args.targets.now) c.as_slice-2.ensures.value))
