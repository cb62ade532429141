use Rattle.std.proofs.Common.{◌++◌, ◌∙◌, List, sym, ap, subst}
use Rattle.cnf.specs.declared.lit.Lit.{Lit}
use Rattle.cnf.proofs.ModelLaws.{append_nil}
use Rattle.tableau.specs.Parts.{AddsFront}
use Rattle.tableau.proofs.Fronts.{front_whole}
use Rattle.tableau.proofs.StepFronts.{is_next, is_no_next, known_literal}
use Rattle.tableau.proofs.steps.add_next.Goals as goal

pub member-requires : goal.member-requires
member-requires g c = c.requires.operand c.in-Some.k (sym c.next_operand.ensures ∙ c.in-Some.is)

pub add_same-requires-clause-left : goal.add_same-requires-clause-left
add_same-requires-clause-left g c = known_literal _ c.args.pair.from.now _ c.args.place c.member-now.ensures c.requires.from c.requires.place

pub add_same-requires-clause-right : goal.add_same-requires-clause-right
add_same-requires-clause-right g c =
    known_literal _ c.args.pair.to.now _ c.in-Some.k.0 c.member.ensures c.requires.to
    (c.requires.operand c.in-Some.k (sym c.next_operand.ensures ∙ c.in-Some.is))

pub returns-in_err-add_same-in-Some-clause-front : goal.returns-in_err-add_same-in-Some-clause-front
returns-in_err-add_same-in-Some-clause-front g c =
    subst (AddsFront _ _) (sym (is_next c.args.pair.under c.member-now.result c.member.result c.args.pair.from.now c.args.pair.to.now c.args.place c.args.node
    c.next_operand.result c.in-Some.k c.next_operand.ensures c.in-Some.is c.member-now.ensures c.member.ensures)) c.add_same.ensures.front

pub returns-in_ok-add_same-in-Some-clause-front : goal.returns-in_ok-add_same-in-Some-clause-front
returns-in_ok-add_same-in-Some-clause-front g c =
    subst (AddsFront _ _) (sym (is_next c.args.pair.under c.member-now.result c.member.result c.args.pair.from.now c.args.pair.to.now c.args.place c.args.node
    c.next_operand.result c.in-Some.k c.next_operand.ensures c.in-Some.is c.member-now.ensures c.member.ensures)) c.add_same.ensures.front

pub returns-in_ok-add_same-in-Some-clause-ok : goal.returns-in_ok-add_same-in-Some-clause-ok
returns-in_ok-add_same-in-Some-clause-ok g c =
    c.in_ok-add_same-in-Some.ensures.ok
    ∙ ap (λ (l : List (List Lit)). g.B.ClauseBase.clauses c.args.base.now ++ l)
    (sym (is_next c.args.pair.under c.member-now.result c.member.result c.args.pair.from.now c.args.pair.to.now c.args.place c.args.node
    c.next_operand.result c.in-Some.k c.next_operand.ensures c.in-Some.is c.member-now.ensures c.member.ensures))

pub returns-in-None-clause-ok : goal.returns-in-None-clause-ok
returns-in-None-clause-ok g c =
    sym (append_nil (g.B.ClauseBase.clauses c.args.base.now))
    ∙ ap (λ (l : List (List Lit)). g.B.ClauseBase.clauses c.args.base.now ++ l)
    (sym (is_no_next c.args.pair.under c.args.pair.from.now c.args.pair.to.now c.args.place c.args.node c.next_operand.result c.next_operand.ensures
    c.in-None.is))

pub returns-in-None-clause-front : goal.returns-in-None-clause-front
returns-in-None-clause-front g c = front_whole _ _ _ (returns-in-None-clause-ok g c)
