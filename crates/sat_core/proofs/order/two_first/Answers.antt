use Rattle.std.proofs.Common.{◌∙◌, ◌++◌, ◌∷◌, [], ap, subst, List}
use Rattle.cnf.specs.declared.lit.Lit.{Lit}
use Rattle.sat_core.specs.Search.{IsWithout}
use Rattle.sat_core.proofs.Orders.{two_same}
use Rattle.sat_core.proofs.order.two_first.Goals as goal

pub returns-clause-same : goal.returns-clause-same
returns-clause-same c =
    let rest = c.in_ok-rest.rest.items in
    two_same c.args.lits.now c.in_ok-others.others.items rest c.extend_from_slice.new.self.items c.args.first c.args.second
    (c.requires.first, c.requires.second) c.in_ok-others.ensures
    (subst (λ (l : List Lit). IsWithout l c.args.second rest) c.as_slice.ensures.value c.in_ok-rest.ensures)
    (
    c.in_ok-extend_from_slice.ensures.items
    ∙ ap (λ (l : List Lit). l ++ c.as_slice-2.result.now) (c.in_ok-push-2.ensures.items ∙ ap (λ (l : List Lit). l ++ c.args.second ∷ [])
    (c.in_ok-push.ensures.items ∙ ap (λ (l : List Lit). l ++ c.args.first ∷ []) c.new-order.ensures.items))
    ∙ ap (λ (l : List Lit). c.args.first ∷ c.args.second ∷ l) c.as_slice-2.ensures.value)
