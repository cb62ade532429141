use Rattle.std.proofs.Common.{arith, ◌≡◌, ◌+◌, ap, sym, ◌∙◌, sum, length}
use Rattle.spec_model.specs.FreePlaces.{count_before, free_by_places}
use Rattle.spec_model.proofs.FreeCount.{free_count}
use Rattle.spec_model.proofs.free_order.FreeOrder.count.Goals as goal

pub returns : goal.returns
returns c =
    let own = c.self.inside.own in
    let counts = c.self.inside.counts.items in
    let driven = c.self.inside.driven.items in
    let total : c.total-total.result ≡ own + sum counts = c.total-total.ensures ∙ ap (λ list. own + sum list) c.as_slice.ensures.value in
    let before : c.count_before.result ≡ count_before driven (own + sum counts) =
    c.count_before.ensures ∙ ap (λ list. count_before list c.total-total.result) c.as_slice-2.ensures.value ∙ ap (count_before driven) total in
    let all = free_count own counts driven c.self.invariant.1 in
    let shown : length c.args.self.now ≡ length (free_by_places own counts driven) = ap length (sym c.self.view_is) in
    omega (arith, all, total, before, shown)

pub overflow_sub-result : goal.overflow_sub-result
overflow_sub-result c =
    let own = c.self.inside.own in
    let counts = c.self.inside.counts.items in
    let driven = c.self.inside.driven.items in
    let total : c.total-total.result ≡ own + sum counts = c.total-total.ensures ∙ ap (λ list. own + sum list) c.as_slice.ensures.value in
    let before : c.count_before.result ≡ count_before driven (own + sum counts) =
    c.count_before.ensures ∙ ap (λ list. count_before list c.total-total.result) c.as_slice-2.ensures.value ∙ ap (count_before driven) total in
    let all = free_count own counts driven c.self.invariant.1 in
    omega (arith, all, total, before)
