use Rattle.std.proofs.Common.{◌≡◌, ℕ, List, ◌∙◌, ap}
use Rattle.std.specs.List.{slice_get}
use Rattle.clause_links.proofs.Walks.{first_is}
use Rattle.decision_queue.specs.Neighbours.{after_at, order_of}
use Rattle.decision_queue.proofs.queue.DecisionQueue.front.Goals as goal

pub returns : goal.returns
returns c =
    first_is (after_at c.self.inside.links.items) c.self.inside.first (order_of c.self.inside.links.items c.self.inside.first) c.self.invariant.onward
    ∙ ap (λ (xs : List ℕ). slice_get xs 0) c.self.view_is
