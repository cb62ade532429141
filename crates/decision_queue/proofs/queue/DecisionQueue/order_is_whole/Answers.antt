use Rattle.std.proofs.Common.{ℕ, List, subst}
use Rattle.decision_queue.specs.Order.{IsOrder}
use Rattle.decision_queue.specs.Neighbours.{order_of}
use Rattle.decision_queue.proofs.Orders.{order_of_all}
use Rattle.decision_queue.proofs.queue.DecisionQueue.order_is_whole.Goals as goal

pub returns : goal.returns
returns c =
    subst (λ (xs : List ℕ). IsOrder xs) c.self.view_is
    (order_of_all c.self.inside.links.items c.self.inside.first c.self.inside.last
    (order_of c.self.inside.links.items c.self.inside.first) c.self.invariant)
