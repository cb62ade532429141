use Rattle.std.proofs.Common.{◌≡◌, ◌<◌, ◌↔◌, ℕ, List, [], ◌∷◌, ◌++◌, length, None, sym, ◌∙◌, ap, arith}
use Rattle.std.proofs.lemmas.List.{get_or_read}
use Rattle.decision_queue.specs.declared.neighbours.Neighbours.{Neighbours}
use Rattle.decision_queue.specs.Neighbours.{no_neighbours, after_at, order_of}
use Rattle.decision_queue.proofs.Orders.{next_is, last_is}
use Rattle.decision_queue.proofs.queue.DecisionQueue.next.Goals as goal

pub returns-clause-behind : goal.returns-clause-behind
returns-clause-behind c = λ front back cut.
    let links : List Neighbours = c.self.inside.links.items in
    let xs : List ℕ = order_of links c.self.inside.first in
    let within : c.args.var < length links = omega (arith, c.requires, ap length c.self.view_is, c.self.invariant.counted) in
    ap (λ (n : Neighbours). n.after) (get_or_read links c.args.var c.index.result.now within c.index.ensures no_neighbours)
    ∙ next_is links c.self.inside.first c.self.inside.last xs c.args.var c.self.invariant front back (c.self.view_is ∙ cut)

pub returns-clause-last : goal.returns-clause-last
returns-clause-last c =
    let links : List Neighbours = c.self.inside.links.items in
    let xs : List ℕ = order_of links c.self.inside.first in
    let within : c.args.var < length links = omega (arith, c.requires, ap length c.self.view_is, c.self.invariant.counted) in
    let within_xs : c.args.var < length xs = omega (arith, c.requires, ap length c.self.view_is) in
    let after_is : c.index.result.now.after ≡ after_at links c.args.var =
    ap (λ (n : Neighbours). n.after) (get_or_read links c.args.var c.index.result.now within c.index.ensures no_neighbours) in
    let last : (after_at links c.args.var ≡ None) ↔ ((front : List ℕ) × (xs ≡ front ++ c.args.var ∷ [])) =
    last_is links c.self.inside.first c.self.inside.last xs c.args.var c.self.invariant within_xs in (
      λ e. ((last.0 (sym after_is ∙ e)).0, sym c.self.view_is ∙ (last.0 (sym after_is ∙ e)).1),
      λ found. after_is ∙ last.1 (found.0, c.self.view_is ∙ found.1),
    )
