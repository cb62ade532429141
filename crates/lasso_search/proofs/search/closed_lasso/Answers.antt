use Rattle.std.proofs.Common.{◌≡◌, ◌∙◌, arith, sym, ap, subst}
use Rattle.lasso_search.proofs.PathLayers.{layers_later}
use Rattle.lasso_search.proofs.search.closed_lasso.Goals as goal

pub least_lasso-requires-clause-layers : goal.least_lasso-requires-clause-layers
least_lasso-requires-clause-layers c =
    layers_later c.layers_stay.ensures _ _ _ _ c.close_loop.ensures.more.0 c.args.tab.now c.args.layers.now (omega (arith, c.close_loop.ensures.vars))
    c.close_loop.ensures.more.1 c.requires.layers
