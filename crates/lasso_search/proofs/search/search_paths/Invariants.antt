use Rattle.std.proofs.Common.{◌≡◌, ◌≤◌, ℕ, length}
use Rattle.lasso_search.specs.Paths.{IsCodedPath, GrowsWhereOff}
use Rattle.lasso_search.specs.Loops.{HasNoLoopOf}
use Rattle.lasso_search.proofs.search.search_paths.Given as goal

-- no lasso has at most so many states
abbrev pub invariant-loop-done : goal.invariant-loop-done
invariant-loop-done l = record {
  size : length l.layers.items ≡ l.done;
  path : IsCodedPath l.solver.vars l.solver.clauses l.tab l.question l.under l.layers.items;
  grows : GrowsWhereOff l.under l.fn.solver.vars l.fn.solver.clauses l.solver.vars l.solver.clauses;
  none : (count : ℕ) → count ≤ l.done → HasNoLoopOf l.tab l.question count;
}
