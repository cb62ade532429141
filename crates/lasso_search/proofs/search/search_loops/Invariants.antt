use Rattle.std.proofs.Common.{◌+◌, ◌<◌, ◌≤◌, ℕ, length}
use Rattle.cnf.specs.Clauses.{IsConservative}
use Rattle.lasso_search.specs.Paths.{IsCodedPath}
use Rattle.lasso_search.specs.Loops.{HasNoLoop}
use Rattle.lasso_search.proofs.search.search_loops.Given as goal

-- none of the later loops is there
abbrev pub invariant-loop-later : goal.invariant-loop-later
invariant-loop-later l = record {
  path : IsCodedPath l.solver.vars l.solver.clauses l.tab l.question l.under l.layers;
  grows : IsConservative l.fn.solver.vars l.fn.solver.clauses l.solver.vars l.solver.clauses;
  none : (loop_at : ℕ) → length l.layers ≤ loop_at + l.later → loop_at < length l.layers
      → HasNoLoop l.tab l.question (length l.layers) loop_at;
}
