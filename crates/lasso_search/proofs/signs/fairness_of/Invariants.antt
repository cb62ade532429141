use Rattle.std.proofs.Common.{◌≡◌, ◌++◌, drop}
use Rattle.tableau.specs.TableauStates.{fairness}
use Rattle.lasso_search.specs.Paths.{all_fair_clauses}
use Rattle.lasso_search.proofs.signs.fairness_of.Given as goal

abbrev pub invariant-loop-j : goal.invariant-loop-j
invariant-loop-j l =
    l.clauses.items ++ all_fair_clauses l.under l.layers (drop l.j (fairness l.tab)) ≡ all_fair_clauses l.under l.layers (fairness l.tab)
