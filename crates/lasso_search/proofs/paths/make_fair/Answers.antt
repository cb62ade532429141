use Rattle.std.proofs.Common.{◌≡◌, ◌<◌, ◌++◌, ◌∙◌, ap, length, subst, sym, take}
use Rattle.std.specs.Prelude.{All}
use Rattle.std.proofs.lemmas.List.Elements.{All-weaker}
use Rattle.cnf.specs.declared.lit.Lit.{Lit}
use Rattle.tableau.specs.TableauStates.{fairness}
use Rattle.tableau.specs.Copies.{LayerLits, IsCodedLayer}
use Rattle.lasso_search.proofs.SignClauses.{all_fair_known}
use Rattle.lasso_search.proofs.LayerFacts.{all_readable, conditions_over}
use Rattle.lasso_search.proofs.Ties.{whole_says, whole_kept, front_kept, fair_are}
use Rattle.lasso_search.proofs.paths.make_fair.Goals as goal

pub fairness_of-requires : goal.fairness_of-requires
fairness_of-requires g c =
    All-weaker (IsCodedLayer (g.B.ClauseBase.vars c.args.base.now) (g.B.ClauseBase.clauses c.args.base.now) c.args.tab.now)
    (λ (layer : LayerLits). length layer.members ≡ length c.args.tab.now.closure.nodes) (λ layer is. is.count) c.args.layers.now c.requires.layers

pub add_clauses-requires : goal.add_clauses-requires
add_clauses-requires g c =
    subst (All (All (λ (lit : Lit). lit.var < g.B.ClauseBase.vars c.args.base.now))) (sym (c.as_slice.ensures.value ∙ c.in_ok-fair.ensures))
    (all_fair_known (g.B.ClauseBase.vars c.args.base.now) c.args.tab.now c.args.under c.requires.under c.args.layers.now
    (all_readable (g.B.ClauseBase.vars c.args.base.now) (g.B.ClauseBase.clauses c.args.base.now) c.args.tab.now c.args.layers.now c.requires.layers)
    (fairness c.args.tab.now) (conditions_over c.args.tab.now c.members.ensures.coded.closed))

pub returns-in_err-add_clauses-clause-kept : goal.returns-in_err-add_clauses-clause-kept
returns-in_err-add_clauses-clause-kept g c =
    front_kept _ _ _ _ _ _ _
    (fair_are _ (g.B.ClauseBase.clauses c.args.base.now) c.args.tab.now c.args.layers.now c.args.under c.members.ensures.coded.closed
    c.requires.layers c.requires.some c.requires.under) c.add_clauses.ensures.vars c.in_err-add_clauses.ensures.err.0
    (c.in_err-add_clauses.ensures.err.1
    ∙ ap (λ l. g.B.ClauseBase.clauses c.args.base.now ++ take c.in_err-add_clauses.ensures.err.0 l) (c.as_slice.ensures.value ∙ c.in_ok-fair.ensures))

pub returns-clause-says : goal.returns-clause-says
returns-clause-says g c =
    whole_says _ _ _ _ _ _ _
    (fair_are _ (g.B.ClauseBase.clauses c.args.base.now) c.args.tab.now c.args.layers.now c.args.under c.members.ensures.coded.closed
    c.requires.layers c.requires.some c.requires.under) c.add_clauses.ensures.vars
    (c.in_ok-add_clauses.ensures.ok ∙ ap (λ l. g.B.ClauseBase.clauses c.args.base.now ++ l) (c.as_slice.ensures.value ∙ c.in_ok-fair.ensures))

pub returns-clause-kept : goal.returns-clause-kept
returns-clause-kept g c =
    whole_kept _ _ _ _ _ _ _
    (fair_are _ (g.B.ClauseBase.clauses c.args.base.now) c.args.tab.now c.args.layers.now c.args.under c.members.ensures.coded.closed
    c.requires.layers c.requires.some c.requires.under) c.add_clauses.ensures.vars
    (c.in_ok-add_clauses.ensures.ok ∙ ap (λ l. g.B.ClauseBase.clauses c.args.base.now ++ l) (c.as_slice.ensures.value ∙ c.in_ok-fair.ensures))
