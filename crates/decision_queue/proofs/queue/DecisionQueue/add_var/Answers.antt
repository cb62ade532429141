use Rattle.std.proofs.Common.{◌≡◌, ◌<◌, ◌+◌, ℕ, List, [], ◌∷◌, ◌++◌, length, take, drop, Option, Some, sym, ◌∙◌, ap, subst, arith, length-append}
use Rattle.clause_links.proofs.Calls.{take-written}
use Rattle.decision_queue.specs.declared.neighbours.Neighbours.{Neighbours}
use Rattle.decision_queue.specs.Neighbours.{order_of, with_last, IsLinkedOrder}
use Rattle.decision_queue.proofs.Orders.{last_within, new_last, length-with_last, grown_now, linked_order, order_is}
use Rattle.decision_queue.proofs.queue.DecisionQueue.add_var.Goals as goal

pub put_last-requires : goal.put_last-requires
put_last-requires c = λ x e.
    let links : List Neighbours = c.self.inside.links.items in
    let within : x < length links = last_within links c.self.inside.first c.self.inside.last (order_of links c.self.inside.first) c.self.invariant x e in
    let longer : x < length (links ++ new_last c.self.inside.last ∷ []) = omega (arith, length-append links (new_last c.self.inside.last ∷ [])) in
    subst (λ (l : List Neighbours). x < length l) (sym (c.deref_mut.ensures.value ∙ c.in_ok-push.ensures.items)) longer

pub invariant_of-self-2 : goal.invariant_of-self-2
invariant_of-self-2 c =
    let links : List Neighbours = c.self.inside.links.items in
    let xs : List ℕ = order_of links c.self.inside.first in
    let pushed : List Neighbours = c.push.new.self.items in
    let put : List Neighbours = c.put_last.new.links in
    let now : List Neighbours = take c.push.new.self.len (put ++ drop (length put) pushed) in
    let is : put ≡ with_last pushed c.self.inside.last c.len-var.result =
    c.put_last.ensures ∙ ap (λ (l : List Neighbours). with_last l c.self.inside.last c.len-var.result) c.deref_mut.ensures.value in
    let len : length put ≡ c.push.new.self.len =
    ap length is ∙ length-with_last pushed c.self.inside.last c.len-var.result ∙ sym c.push.new.self.ok.0 in
    let now_is : now ≡ with_last pushed c.self.inside.last c.len-var.result =
    take-written pushed put c.push.new.self.len len (sym c.push.new.self.ok.0) ∙ is in
    linked_order now c.first_of-self-inside.result (Some c.len-var.result) (xs ++ length links ∷ [])
    (grown_now links pushed now c.self.inside.first c.self.inside.last c.first_of-self-inside.result c.len-var.result xs c.self.invariant
    now_is c.in_ok-push.ensures.items (c.len-var.ensures ∙ c.self.inside.links.ok.0) c.first_of-self-inside.ensures)

pub returns-clause-ok : goal.returns-clause-ok
returns-clause-ok c =
    let links : List Neighbours = c.self.inside.links.items in
    let xs : List ℕ = order_of links c.self.inside.first in
    let pushed : List Neighbours = c.push.new.self.items in
    let put : List Neighbours = c.put_last.new.links in
    let now : List Neighbours = take c.push.new.self.len (put ++ drop (length put) pushed) in
    let is : put ≡ with_last pushed c.self.inside.last c.len-var.result =
    c.put_last.ensures ∙ ap (λ (l : List Neighbours). with_last l c.self.inside.last c.len-var.result) c.deref_mut.ensures.value in
    let len : length put ≡ c.push.new.self.len =
    ap length is ∙ length-with_last pushed c.self.inside.last c.len-var.result ∙ sym c.push.new.self.ok.0 in
    let now_is : now ≡ with_last pushed c.self.inside.last c.len-var.result =
    take-written pushed put c.push.new.self.len len (sym c.push.new.self.ok.0) ∙ is in
    order_is now c.first_of-self-inside.result (Some c.len-var.result) (xs ++ length links ∷ [])
    (grown_now links pushed now c.self.inside.first c.self.inside.last c.first_of-self-inside.result c.len-var.result xs c.self.invariant
    now_is c.in_ok-push.ensures.items (c.len-var.ensures ∙ c.self.inside.links.ok.0) c.first_of-self-inside.ensures)
    ∙ ap (λ (n : ℕ). xs ++ n ∷ []) (sym c.self.invariant.counted)
    ∙ ap (λ (l : List ℕ). l ++ length l ∷ []) c.self.view_is
