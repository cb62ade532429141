use Rattle.std.proofs.Common.{◌≡◌, ◌+◌, ◌<◌, List, ◌++◌, drop, not}
use Rattle.std.specs.List.{All}
use Rattle.cnf.specs.declared.lit.Lit.{Lit}
use Rattle.cnf.specs.Clauses.{opposite}
use Rattle.cnf.specs.Bounds.{sign_first, at_most_down, at_most_const_clauses}
use Rattle.cnf.proofs.bounds.gate_at_most_const.Given as goal

-- with the clauses of the lower places, those so far are the whole gate
abbrev pub invariant-loop-i : goal.invariant-loop-i
invariant-loop-i g l = record {
  vars : g.B.ClauseBase.vars l.base ≡ g.B.ClauseBase.vars l.fn.base + 1;
  greater : All (λ lit. lit.var < g.B.ClauseBase.vars l.fn.base + 1) l.greater.items;
  less : All (λ lit. lit.var < g.B.ClauseBase.vars l.fn.base + 1) l.less.items;
  added : (front : List (List Lit)) × (g.B.ClauseBase.clauses l.base ≡ g.B.ClauseBase.clauses l.fn.base ++ front)
      × (front ++ at_most_down l.greater.items l.less.items (drop l.i (sign_first opposite l.row))
      (drop l.i (sign_first not l.bound)) ≡ at_most_const_clauses (g.B.ClauseBase.vars l.fn.base) l.row l.bound);
}
