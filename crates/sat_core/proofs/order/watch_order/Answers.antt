use Rattle.std.proofs.Common.{◌≡◌, ◌∙◌, ◌++◌, ◌∷◌, [], ap, refl, List, Ok, Err}
use Rattle.std.specs.Prelude.{Result, IfOk}
use Rattle.std.proofs.Common.{Vec, Global}
use Rattle.port_types.specs.declared.memory.NoMemory.{NoMemory}
use Rattle.clause_log.specs.Derivations.{SameLits}
use Rattle.sat_core.specs.declared.trail.Step.{Step}
use Rattle.cnf.specs.declared.lit.Lit.{Lit}
use Rattle.sat_core.specs.Learning.{IsWatchOrder, IsLatest}
use Rattle.sat_core.proofs.Orders.{one_same, order_of_two}
use Rattle.sat_core.proofs.order.watch_order.Goals as goal

pub returns-in_ok-push-in-None-clause-same : goal.returns-in_ok-push-in-None-clause-same
returns-in_ok-push-in-None-clause-same c =
    one_same c.args.lits.now c.push.new.self.items c.args.forced c.requires.forces.has (c.in-None.ensures.none refl)
    (c.in_ok-push-in-None.ensures.items ∙ ap (λ (l : List Lit). l ++ c.args.forced ∷ []) c.new-order.ensures.items)

order_of : (steps : List Step) (lits : List Lit) (forced second : Lit) (r : Result (Vec Lit Global) NoMemory)
    → IfOk r (λ order. SameLits order.items lits) → IfOk r
    (λ order. (rest : List Lit) × (order.items ≡ forced ∷ second ∷ rest))
    → IsLatest steps lits forced second → IfOk r (λ order. IsWatchOrder steps forced order.items)
order_of steps lits forced second (Ok order) same is latest = order_of_two steps lits order.items is.0 forced second same is.1 latest
order_of steps lits forced second (Err e) same is latest = tt

pub returns-in-Some-clause-order : goal.returns-in-Some-clause-order
returns-in-Some-clause-order c =
    order_of c.args.trail.now.steps.items c.args.lits.now c.args.forced c.in-Some.second c.two_first.result c.two_first.ensures.same
    c.two_first.ensures.order c.in-Some.ensures.some
