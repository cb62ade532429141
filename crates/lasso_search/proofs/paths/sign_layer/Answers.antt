use Rattle.std.proofs.Common.{◌<◌, ◌++◌, ◌∙◌, ap, arith, length, subst, sym, take}
use Rattle.std.specs.Prelude.{All}
use Rattle.std.proofs.lemmas.List.Elements.{All-weaker}
use Rattle.core_ltl.specs.declared.question.SignedNode.{SignedNode}
use Rattle.cnf.specs.declared.lit.Lit.{Lit}
use Rattle.lasso_search.proofs.SignClauses.{signs_known}
use Rattle.lasso_search.proofs.LayerFacts.{readable}
use Rattle.lasso_search.proofs.Ties.{whole_says, whole_kept, front_kept, signs_are}
use Rattle.lasso_search.proofs.paths.sign_layer.Goals as goal

pub signs_of-requires : goal.signs_of-requires
signs_of-requires g c =
    All-weaker (λ (x : SignedNode). x.node.0 < length c.args.tab.now.closure.nodes) (λ (x : SignedNode). x.node.0 < length c.args.layer.now.members)
    (λ x h. omega (arith, h, c.requires.layer.count)) c.args.question.now c.requires.question

pub add_clauses-requires : goal.add_clauses-requires
add_clauses-requires g c =
    subst (All (All (λ (lit : Lit). lit.var < g.B.ClauseBase.vars c.args.base.now))) (sym (c.as_slice.ensures.value ∙ c.in_ok-signs.ensures))
    (signs_known (g.B.ClauseBase.vars c.args.base.now) c.args.tab.now c.args.under c.requires.under c.args.layer.now
    (readable (g.B.ClauseBase.vars c.args.base.now) (g.B.ClauseBase.clauses c.args.base.now) c.args.tab.now c.args.layer.now c.requires.layer)
    c.args.question.now c.requires.question)

pub returns-in_err-add_clauses-clause-kept : goal.returns-in_err-add_clauses-clause-kept
returns-in_err-add_clauses-clause-kept g c =
    front_kept _ _ _ _ _ _ _
    (signs_are _ (g.B.ClauseBase.clauses c.args.base.now) c.args.tab.now c.args.question.now c.args.layer.now c.args.under c.requires.question
    c.requires.layer c.requires.under) c.add_clauses.ensures.vars c.in_err-add_clauses.ensures.err.0
    (c.in_err-add_clauses.ensures.err.1
    ∙ ap (λ l. g.B.ClauseBase.clauses c.args.base.now ++ take c.in_err-add_clauses.ensures.err.0 l) (c.as_slice.ensures.value ∙ c.in_ok-signs.ensures))

pub returns-clause-says : goal.returns-clause-says
returns-clause-says g c =
    whole_says _ _ _ _ _ _ _
    (signs_are _ (g.B.ClauseBase.clauses c.args.base.now) c.args.tab.now c.args.question.now c.args.layer.now c.args.under c.requires.question
    c.requires.layer c.requires.under) c.add_clauses.ensures.vars
    (c.in_ok-add_clauses.ensures.ok ∙ ap (λ l. g.B.ClauseBase.clauses c.args.base.now ++ l) (c.as_slice.ensures.value ∙ c.in_ok-signs.ensures))

pub returns-clause-kept : goal.returns-clause-kept
returns-clause-kept g c =
    whole_kept _ _ _ _ _ _ _
    (signs_are _ (g.B.ClauseBase.clauses c.args.base.now) c.args.tab.now c.args.question.now c.args.layer.now c.args.under c.requires.question
    c.requires.layer c.requires.under) c.add_clauses.ensures.vars
    (c.in_ok-add_clauses.ensures.ok ∙ ap (λ l. g.B.ClauseBase.clauses c.args.base.now ++ l) (c.as_slice.ensures.value ∙ c.in_ok-signs.ensures))
