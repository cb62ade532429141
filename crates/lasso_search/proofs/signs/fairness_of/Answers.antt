use Rattle.std.proofs.Common.{◌≡◌, ◌<◌, ◌++◌, ◌∙◌, Option, Some, arith, ap, get_or, length, sym}
use Rattle.std.specs.Prelude.{All}
use Rattle.std.proofs.lemmas.List.Elements.{All-weaker}
use Rattle.std.proofs.lemmas.Option.{same_Some, slice_get-get_or, slice_get_within}
use Rattle.tableau.specs.TableauStates.{fairness}
use Rattle.tableau.specs.Copies.{LayerLits}
use Rattle.lasso_search.specs.Paths.{fair_clauses}
use Rattle.lasso_search.proofs.LayerFacts.{pair_at}
use Rattle.lasso_search.proofs.Walks.{walk_on}
use Rattle.lasso_search.proofs.signs.fairness_of.Goals as goal

pub push_condition-requires-clause-until : goal.push_condition-requires-clause-until
push_condition-requires-clause-until c = λ u is.
    let pair = pair_at c.args.tab.now c.members.ensures.coded.closed c.loop-j.j c.condition.result u c.condition.ensures is in
    All-weaker (λ (layer : LayerLits). length layer.members ≡ length c.args.tab.now.closure.nodes)
    (λ (layer : LayerLits). u.0.0 < length layer.members) (λ layer e. omega (arith, e, pair.left)) c.args.layers.now c.requires

pub push_condition-requires-clause-right : goal.push_condition-requires-clause-right
push_condition-requires-clause-right c = λ u is.
    let pair = pair_at c.args.tab.now c.members.ensures.coded.closed c.loop-j.j c.condition.result u c.condition.ensures is in
    All-weaker (λ (layer : LayerLits). length layer.members ≡ length c.args.tab.now.closure.nodes)
    (λ (layer : LayerLits). u.1.0 < length layer.members) (λ layer e. omega (arith, e, pair.right)) c.args.layers.now c.requires

pub loop-j-preserved : goal.loop-j-preserved
loop-j-preserved c =
    let within : c.loop-j.j < length (fairness c.args.tab.now) = slice_get_within (fairness c.args.tab.now) c.loop-j.j c.condition.result c.condition.ensures in
    let at : get_or (fairness c.args.tab.now) c.loop-j.j c.condition.result ≡ c.condition.result =
    same_Some _ _ (sym (slice_get-get_or (fairness c.args.tab.now) c.loop-j.j c.condition.result within) ∙ c.condition.ensures) in
    walk_on (fair_clauses c.args.under c.args.layers.now) c.loop-j.clauses.items _ _ (fairness c.args.tab.now) c.loop-j.j c.condition.result within
    c.loop-j.invariant (c.in_ok-push_condition.ensures ∙ ap (λ x. c.loop-j.clauses.items ++ fair_clauses c.args.under c.args.layers.now x) (sym at))
