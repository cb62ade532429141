use Rattle.std.proofs.Common.{◌≡◌, ◌+◌, ◌++◌, drop}
use Rattle.cnf.specs.Clauses.{IsConservative}
use Rattle.cnf.specs.Gates.{literal}
use Rattle.cnf.specs.Arithmetic.{comparison_pairs, later_greater_clauses, le_clauses}
use Rattle.cnf.proofs.arithmetic.gate_le.Given as goal

-- with the clauses of the places that are left, the clauses so far are those of the whole gate
abbrev pub invariant-loop-place : goal.invariant-loop-place
invariant-loop-place g l = record {
  vars : g.B.ClauseBase.vars l.base ≡ g.B.ClauseBase.vars l.fn.base + l.place;
  greater : l.greater.var + 1 ≡ g.B.ClauseBase.vars l.base;
  positive : l.greater ≡ literal l.greater.var;
  clauses : g.B.ClauseBase.clauses l.base ++ later_greater_clauses (g.B.ClauseBase.vars l.base) l.greater
      (drop l.place (comparison_pairs l.a l.b)) ≡ g.B.ClauseBase.clauses l.fn.base ++ le_clauses (g.B.ClauseBase.vars l.fn.base) l.a l.b;
  grows : IsConservative (g.B.ClauseBase.vars l.fn.base) (g.B.ClauseBase.clauses l.fn.base) (g.B.ClauseBase.vars l.base) (g.B.ClauseBase.clauses l.base);
}
