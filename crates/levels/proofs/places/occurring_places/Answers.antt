use Rattle.std.proofs.Common.{◌≡◌, ◌∙◌, ℕ, ◌+◌, List, zero-add, sym, subst, ap, take, filter}
use Rattle.std.specs.List.{range_with_len}
use Rattle.spec_model.specs.FreePlaces.{Rises, count_before}
use Rattle.levels.proofs.PlaceLaws.{kept_below, rises_front}
use Rattle.levels.proofs.places.occurring_places.Goals as goal

pub returns-clause-rises : goal.returns-clause-rises
returns-clause-rises c =
    subst (Rises 0) (sym c.truncate.ensures.items)
    (rises_front 0 c.count_before-kept.result c.rising-places.result.items c.rising-places.ensures.rises)

pub returns-clause-places : goal.returns-clause-places
returns-clause-places c =
    let all = c.rising-places.result.items in
    let kept : c.count_before-kept.result ≡ count_before all c.args.free =
    c.count_before-kept.ensures ∙ ap (λ (ds : List ℕ). count_before ds c.args.free) c.as_slice.ensures.value in
    let from : count_before all c.args.free ≡ count_before all (0 + c.args.free) = ap (count_before all) (sym (zero-add c.args.free)) in
    c.truncate.ensures.items
    ∙ (ap (λ n. take n all) (kept ∙ from)
    ∙ (kept_below 0 c.args.free all c.rising-places.ensures.rises
    ∙ (λ j. filter (λ k. c.rising-places.ensures.same k j) (range_with_len 0 c.args.free))))
