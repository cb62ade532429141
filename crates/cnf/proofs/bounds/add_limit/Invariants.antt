use Rattle.std.proofs.Common.{◌≡◌, ◌<◌, List, ◌++◌, drop}
use Rattle.std.specs.Prelude.{reverse}
use Rattle.std.specs.List.{All}
use Rattle.cnf.specs.declared.lit.Lit.{Lit}
use Rattle.cnf.specs.Bounds.{limit_down, limit_clauses}
use Rattle.cnf.proofs.bounds.add_limit.Given as goal

-- with the clauses of the lower places, those so far are the whole limit
abbrev pub invariant-loop-i : goal.invariant-loop-i
invariant-loop-i g l = record {
  vars : g.B.ClauseBase.vars l.base ≡ g.B.ClauseBase.vars l.fn.base;
  less : All (λ lit. lit.var < g.B.ClauseBase.vars l.fn.base) l.less.items;
  added : (front : List (List Lit)) × (g.B.ClauseBase.clauses l.base ≡ g.B.ClauseBase.clauses l.fn.base ++ front)
      × (front ++ limit_down l.less.items (drop l.i (reverse l.row)) (drop l.i (reverse l.bound)) ≡ limit_clauses l.row l.bound);
}
