use Rattle.std.proofs.Common.{List, arith, subst, sym}
use Rattle.std.specs.Prelude.{All}
use Rattle.tableau.specs.Copies.{LayerLits, IsCodedLayer}
use Rattle.lasso_search.specs.Paths.{IsCodedPath}
use Rattle.lasso_search.proofs.PathLayers.{AddsLayer, layers_later, path_grows, grows_off}
use Rattle.lasso_search.proofs.Growing.{off_kept}
use Rattle.lasso_search.proofs.paths.add_layer.Goals as goal

pub tie_layer-requires-clause-layers : goal.tie_layer-requires-clause-layers
tie_layer-requires-clause-layers g c =
    subst (All (IsCodedLayer (g.B.ClauseBase.vars c.code_copy.new.base) (g.B.ClauseBase.clauses c.code_copy.new.base) c.args.tab.now))
    (sym c.as_slice.ensures.value)
    (layers_later c.layers_stay.ensures _ _ _ _ _ c.args.tab.now _ c.code_copy.ensures.grows.vars c.code_copy.ensures.grows.clauses.1 c.requires.path.coded)

pub tie_layer-requires-clause-under : goal.tie_layer-requires-clause-under
tie_layer-requires-clause-under g c = omega (arith, c.requires.path.under_known, c.code_copy.ensures.grows.vars)

pub returns-in_err-layer-clause-grows : goal.returns-in_err-layer-clause-grows
returns-in_err-layer-clause-grows g c = off_kept _ _ _ _ _ c.code_copy.ensures.grows

pub returns-in_err-tie_layer-clause-grows : goal.returns-in_err-tie_layer-clause-grows
returns-in_err-tie_layer-clause-grows g c =
    grows_off _ _ _ _ _ _ c.args.under _ c.requires.path.under_known c.code_copy.ensures.grows c.tie_layer.ensures.vars c.tie_layer.ensures.more
    c.tie_layer.ensures.kept

pub returns-in_err-push-clause-grows : goal.returns-in_err-push-clause-grows
returns-in_err-push-clause-grows g c =
    grows_off _ _ _ _ _ _ c.args.under _ c.requires.path.under_known c.code_copy.ensures.grows c.tie_layer.ensures.vars c.tie_layer.ensures.more
    c.tie_layer.ensures.kept

pub returns-clause-path : goal.returns-clause-path
returns-clause-path g c =
    subst (IsCodedPath (g.B.ClauseBase.vars c.tie_layer.new.base) (g.B.ClauseBase.clauses c.tie_layer.new.base) c.args.tab.now c.args.question.now
    c.args.under) (sym c.in_ok-push.ensures.items)
    (path_grows c.layers_stay.ensures (g.B.ClauseBase.vars c.args.base.now) (g.B.ClauseBase.vars c.code_copy.new.base)
    (g.B.ClauseBase.vars c.tie_layer.new.base) (g.B.ClauseBase.clauses c.args.base.now) (g.B.ClauseBase.clauses c.code_copy.new.base)
    (g.B.ClauseBase.clauses c.tie_layer.new.base) c.args.tab.now c.args.question.now c.args.under c.args.layers.now.items c.in_ok-layer.layer
    c.requires.path
    (subst (λ (xs : List LayerLits). AddsLayer (g.B.ClauseBase.vars c.args.base.now) (g.B.ClauseBase.vars c.code_copy.new.base)
    (g.B.ClauseBase.vars c.tie_layer.new.base) (g.B.ClauseBase.clauses c.args.base.now) (g.B.ClauseBase.clauses c.code_copy.new.base)
    (g.B.ClauseBase.clauses c.tie_layer.new.base) c.args.tab.now c.args.question.now c.args.under xs c.in_ok-layer.layer) c.as_slice.ensures.value
    (record {
      copied = c.code_copy.ensures.grows;
      coded = c.in_ok-layer.ensures.layer;
      every = c.in_ok-layer.ensures.every;
      vars = c.tie_layer.ensures.vars;
      tied = c.tie_layer.ensures.more;
      says = c.in_ok-tie_layer.ensures.follows;
      kept = c.tie_layer.ensures.kept;
    })))

pub returns-clause-grows : goal.returns-clause-grows
returns-clause-grows g c =
    grows_off _ _ _ _ _ _ c.args.under _ c.requires.path.under_known c.code_copy.ensures.grows c.tie_layer.ensures.vars c.tie_layer.ensures.more
    c.tie_layer.ensures.kept
