use Rattle.std.proofs.Common.{◌≡◌, ◌∷◌, ◌++◌, drop}
use Rattle.cnf.specs.Clauses.{opposite}
use Rattle.lasso_search.specs.Paths.{fair_literals}
use Rattle.lasso_search.proofs.signs.fair_clause.Given as goal

abbrev pub invariant-loop-layer : goal.invariant-loop-layer
invariant-loop-layer l =
    l.lits.items ++ fair_literals l.until (drop l.layer-index l.layers) ≡ opposite l.fn.under ∷ fair_literals l.until l.layers
