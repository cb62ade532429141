use Rattle.std.proofs.Common.{◌≡◌, ◌<◌, ℕ, List, ◌∷◌, ◌++◌, length, take, drop, Option, Some, None, refl, sym, ◌∙◌, ap, subst, arith}
use Rattle.std.proofs.lemmas.List.{get_or_read}
use Rattle.clause_links.proofs.Calls.{take-written}
use Rattle.clause_links.proofs.Members.{Cut}
use Rattle.decision_queue.specs.declared.neighbours.Neighbours.{Neighbours}
use Rattle.decision_queue.specs.Neighbours.{no_neighbours, neighbours_at, after_at, before_at, order_of, joined_pair, with_first, last_without, IsLinkedOrder}
use Rattle.decision_queue.proofs.Orders.{first_there, before_within, after_within, first_within, cut_of, with_front, IsLinkedOrder-brought, brought_now}
use Rattle.decision_queue.proofs.Orders.{length-with_front, linked_order, order_is}
use Rattle.decision_queue.proofs.queue.DecisionQueue.to_front.Goals as goal

none_of : (o : Option ℕ) → ((x : ℕ) → o ≡ Some x → ⊥) → o ≡ None
none_of None n = refl
none_of (Some x) n = absurd (n x refl)

pub returns-in_default-before : goal.returns-in_default-before
returns-in_default-before c = λ front back cut.
    let links : List Neighbours = c.self.inside.links.items in
    let xs : List ℕ = order_of links c.self.inside.first in
    let within : c.args.var < length links = omega (arith, c.requires, ap length c.self.view_is, c.self.invariant.counted) in
    let read : c.index.result.now ≡ neighbours_at links c.args.var = get_or_read links c.args.var c.index.result.now within c.index.ensures no_neighbours in
    let none : before_at links c.args.var
    ≡ None = sym (ap (λ (n : Neighbours). n.before) read) ∙ none_of c.index.result.now.before c.in_default-before.not-Some in
    sym c.self.view_is ∙ first_there links c.self.inside.first c.self.inside.last xs c.args.var c.self.invariant none front back (c.self.view_is ∙ cut)

pub bring_first-requires-clause-before : goal.bring_first-requires-clause-before
bring_first-requires-clause-before c =
    let links : List Neighbours = c.self.inside.links.items in
    let within : c.args.var < length links = omega (arith, c.requires, ap length c.self.view_is, c.self.invariant.counted) in
    let read : c.index.result.now ≡ neighbours_at links c.args.var = get_or_read links c.args.var c.index.result.now within c.index.ensures no_neighbours in
    subst (λ (l : List Neighbours). c.in-Some-before.before < length l) (sym c.deref_mut.ensures.value)
    (before_within links c.self.inside.first c.self.inside.last (order_of links c.self.inside.first) c.args.var c.self.invariant within
    c.in-Some-before.before
    (sym (ap (λ (n : Neighbours). n.before) read) ∙ c.in-Some-before.is))

pub bring_first-requires-clause-after : goal.bring_first-requires-clause-after
bring_first-requires-clause-after c = λ x e.
    let links : List Neighbours = c.self.inside.links.items in
    let within : c.args.var < length links = omega (arith, c.requires, ap length c.self.view_is, c.self.invariant.counted) in
    let read : c.index.result.now ≡ neighbours_at links c.args.var = get_or_read links c.args.var c.index.result.now within c.index.ensures no_neighbours in
    subst (λ (l : List Neighbours). x < length l) (sym c.deref_mut.ensures.value)
    (after_within links c.self.inside.first c.self.inside.last (order_of links c.self.inside.first) c.args.var c.self.invariant within x
    (sym (ap (λ (n : Neighbours). n.after) read) ∙ e))

pub bring_first-requires-clause-first : goal.bring_first-requires-clause-first
bring_first-requires-clause-first c =
    let links : List Neighbours = c.self.inside.links.items in
    let xs : List ℕ = order_of links c.self.inside.first in
    subst (λ (l : List Neighbours). c.in-Some.first < length l) (sym c.deref_mut.ensures.value)
    (first_within links c.in-Some.first c.self.inside.last xs
    (subst (λ (o : Option ℕ). IsLinkedOrder links o c.self.inside.last xs) c.in-Some.is c.self.invariant))

pub invariant_of-self : goal.invariant_of-self
invariant_of-self c =
    let links : List Neighbours = c.self.inside.links.items in
    let xs : List ℕ = order_of links c.self.inside.first in
    let within : c.args.var < length links = omega (arith, c.requires, ap length c.self.view_is, c.self.invariant.counted) in
    let within_xs : c.args.var < length xs = omega (arith, c.requires, ap length c.self.view_is) in
    let read : c.index.result.now ≡ neighbours_at links c.args.var = get_or_read links c.args.var c.index.result.now within c.index.ensures no_neighbours in
    let linked : IsLinkedOrder links (Some c.in-Some.first) c.self.inside.last xs =
    subst (λ (o : Option ℕ). IsLinkedOrder links o c.self.inside.last xs) c.in-Some.is c.self.invariant in
    let cut : Cut xs c.args.var = cut_of links (Some c.in-Some.first) c.self.inside.last xs c.args.var linked within_xs in
    let wrote : List Neighbours = c.bring_first.new.links in
    let now : List Neighbours = take c.self.inside.links.len (wrote ++ drop (length wrote) links) in
    let is : wrote ≡ with_front links c.in-Some-before.before c.args.var c.in-Some.first =
    c.bring_first.ensures
    ∙ ap (λ (l : List Neighbours). with_first (joined_pair l c.in-Some-before.before c.index.result.now.after) c.args.var c.in-Some.first)
    c.deref_mut.ensures.value
    ∙ ap (λ (n : Neighbours). with_first (joined_pair links c.in-Some-before.before n.after) c.args.var c.in-Some.first) read in
    let len : length wrote ≡ c.self.inside.links.len =
    ap length is ∙ length-with_front links c.in-Some-before.before c.args.var c.in-Some.first ∙ sym c.self.inside.links.ok.0 in
    linked_order now (Some c.args.var) c.last_of-self-inside.result (c.args.var ∷ (cut.front ++ cut.back))
    (brought_now links now c.in-Some.first c.self.inside.last c.last_of-self-inside.result c.in-Some-before.before c.args.var
    (c.args.var ∷ (cut.front ++ cut.back))
    (IsLinkedOrder-brought links c.in-Some.first c.self.inside.last xs c.in-Some-before.before c.args.var linked within
    (sym (ap (λ (n : Neighbours). n.before) read) ∙ c.in-Some-before.is) cut.front cut.back cut.is)
    (take-written links wrote c.self.inside.links.len len (sym c.self.inside.links.ok.0) ∙ is)
    (c.last_of-self-inside.ensures ∙ ap (λ (n : Neighbours). last_without c.self.inside.last c.in-Some-before.before n.after) read))

pub returns : goal.returns
returns c = λ front back split.
    let links : List Neighbours = c.self.inside.links.items in
    let xs : List ℕ = order_of links c.self.inside.first in
    let within : c.args.var < length links = omega (arith, c.requires, ap length c.self.view_is, c.self.invariant.counted) in
    let read : c.index.result.now ≡ neighbours_at links c.args.var = get_or_read links c.args.var c.index.result.now within c.index.ensures no_neighbours in
    let linked : IsLinkedOrder links (Some c.in-Some.first) c.self.inside.last xs =
    subst (λ (o : Option ℕ). IsLinkedOrder links o c.self.inside.last xs) c.in-Some.is c.self.invariant in
    let wrote : List Neighbours = c.bring_first.new.links in
    let now : List Neighbours = take c.self.inside.links.len (wrote ++ drop (length wrote) links) in
    let is : wrote ≡ with_front links c.in-Some-before.before c.args.var c.in-Some.first =
    c.bring_first.ensures
    ∙ ap (λ (l : List Neighbours). with_first (joined_pair l c.in-Some-before.before c.index.result.now.after) c.args.var c.in-Some.first)
    c.deref_mut.ensures.value
    ∙ ap (λ (n : Neighbours). with_first (joined_pair links c.in-Some-before.before n.after) c.args.var c.in-Some.first) read in
    let len : length wrote ≡ c.self.inside.links.len =
    ap length is ∙ length-with_front links c.in-Some-before.before c.args.var c.in-Some.first ∙ sym c.self.inside.links.ok.0 in
    order_is now (Some c.args.var) c.last_of-self-inside.result (c.args.var ∷ (front ++ back))
    (brought_now links now c.in-Some.first c.self.inside.last c.last_of-self-inside.result c.in-Some-before.before c.args.var
    (c.args.var ∷ (front ++ back))
    (IsLinkedOrder-brought links c.in-Some.first c.self.inside.last xs c.in-Some-before.before c.args.var linked within
    (sym (ap (λ (n : Neighbours). n.before) read) ∙ c.in-Some-before.is) front back (c.self.view_is ∙ split))
    (take-written links wrote c.self.inside.links.len len (sym c.self.inside.links.ok.0) ∙ is)
    (c.last_of-self-inside.ensures ∙ ap (λ (n : Neighbours). last_without c.self.inside.last c.in-Some-before.before n.after) read))
