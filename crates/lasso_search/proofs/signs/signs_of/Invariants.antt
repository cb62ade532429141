use Rattle.std.proofs.Common.{◌≡◌, take}
use Rattle.lasso_search.specs.Paths.{sign_clauses}
use Rattle.lasso_search.proofs.signs.signs_of.Given as goal

abbrev pub invariant-loop-x : goal.invariant-loop-x
invariant-loop-x l = l.clauses.items ≡ sign_clauses l.under l.layer (take l.x-index l.question)
