use Rattle.std.proofs.Common.{◌≡◌, ◌+◌, ◌*◌, ◌<◌, ◌++◌, drop}
use Rattle.cnf.specs.Clauses.{IsConservative}
use Rattle.cnf.specs.Arithmetic.{later_sum_clauses, sum_clauses, later_sum_bits, sum_bits}
use Rattle.cnf.proofs.arithmetic.adder.Given as goal

-- with those of the places that are left, the clauses and bits so far are those of the whole sum
abbrev pub invariant-loop-i : goal.invariant-loop-i
invariant-loop-i g l = record {
  vars : g.B.ClauseBase.vars l.base + 1 ≡ g.B.ClauseBase.vars l.fn.base + 3 * l.i;
  differ : l.differ.var < g.B.ClauseBase.vars l.base;
  carry : l.carry.var < g.B.ClauseBase.vars l.base;
  clauses : g.B.ClauseBase.clauses l.base ++ later_sum_clauses (g.B.ClauseBase.vars l.base) l.differ l.carry (drop l.i l.a)
      (drop l.i l.b) ≡ g.B.ClauseBase.clauses l.fn.base ++ sum_clauses (g.B.ClauseBase.vars l.fn.base) l.a l.b;
  bits : l.sum ++ later_sum_bits (g.B.ClauseBase.vars l.base) (drop l.i l.a) ≡ sum_bits (g.B.ClauseBase.vars l.fn.base) l.a;
  grows : IsConservative (g.B.ClauseBase.vars l.fn.base) (g.B.ClauseBase.clauses l.fn.base) (g.B.ClauseBase.vars l.base) (g.B.ClauseBase.clauses l.base);
}
