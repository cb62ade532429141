use Rattle.std.proofs.Common.{◌≡◌, ap, ◌∙◌, sym, Some, None}
use Rattle.spec_model.specs.FreePlaces.{place_among_free}
use Rattle.spec_model.proofs.FreePlaces.{free_at}
use Rattle.spec_model.proofs.free_order.find_place.Goals as goal

pub returns-in-Some : goal.returns-in-Some
returns-in-Some c =
    c.place_among_free.ensures
    ∙ free_at c.args.own c.args.counts.now c.args.driven.now c.args.target.now c.requires.rises (Some c.in-Some.place) (sym c.in-Some.ensures)

pub returns-in-None : goal.returns-in-None
returns-in-None c = free_at c.args.own c.args.counts.now c.args.driven.now c.args.target.now c.requires.rises None (sym c.in-None.ensures)
