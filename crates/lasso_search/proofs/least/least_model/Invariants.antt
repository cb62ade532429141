use Rattle.std.proofs.Common.{◌≡◌, ◌<◌, take}
use Rattle.std.specs.Prelude.{All}
use Rattle.lasso_search.proofs.LeastSteps.{IsFixed}
use Rattle.lasso_search.proofs.least.least_model.Given as goal

-- the bits so far are fixed to the least ones
abbrev pub invariant-loop-bit : goal.invariant-loop-bit
invariant-loop-bit l = record {
  vars : l.solver.vars ≡ l.fn.solver.vars;
  clauses : l.solver.clauses ≡ l.fn.solver.clauses;
  lits : All (λ lit. lit.var < l.fn.solver.vars) l.known.items;
  fixed : IsFixed l.fn.solver.vars l.fn.solver.clauses l.fn.known.items l.known.items (take l.bit-index l.bits) l.best;
}
