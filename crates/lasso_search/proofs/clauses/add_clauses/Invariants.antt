use Rattle.std.proofs.Common.{◌≡◌, ◌++◌, take}
use Rattle.lasso_search.proofs.clauses.add_clauses.Given as goal

-- the clauses so far are added
abbrev pub invariant-loop-clause : goal.invariant-loop-clause
invariant-loop-clause g l = record {
  vars : g.B.ClauseBase.vars l.base ≡ g.B.ClauseBase.vars l.fn.base;
  clauses : g.B.ClauseBase.clauses l.base ≡ g.B.ClauseBase.clauses l.fn.base ++ take l.clause-index l.clauses;
}
