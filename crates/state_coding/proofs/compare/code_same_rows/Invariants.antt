use Rattle.std.proofs.Common.{◌≡◌, ◌+◌, ◌-◌, ◌++◌, length, drop}
use Rattle.std.specs.Prelude.{map}
use Rattle.cnf.specs.Clauses.{opposite, IsConservative}
use Rattle.state_coding.specs.States.{var_row}
use Rattle.state_coding.specs.Atoms.{differ_clauses}
use Rattle.state_coding.proofs.compare.code_same_rows.Given as goal

-- with the places that are left, the differences so far are those of the whole rows
abbrev pub invariant-loop-i : goal.invariant-loop-i
invariant-loop-i g l = record {
  vars : g.B.ClauseBase.vars l.base + (length l.a - l.i) ≡ g.B.ClauseBase.vars l.fn.base + length l.a;
  alike : l.alike.items ++ map opposite (var_row (g.B.ClauseBase.vars l.base) (length l.a - l.i)) ≡ map opposite
      (var_row (g.B.ClauseBase.vars l.fn.base) (length l.a));
  clauses : g.B.ClauseBase.clauses l.base ++ differ_clauses (g.B.ClauseBase.vars l.base) (drop l.i l.a) (drop l.i l.b)
      ≡ g.B.ClauseBase.clauses l.fn.base ++ differ_clauses (g.B.ClauseBase.vars l.fn.base) l.a l.b;
  grows : IsConservative (g.B.ClauseBase.vars l.fn.base) (g.B.ClauseBase.clauses l.fn.base) (g.B.ClauseBase.vars l.base) (g.B.ClauseBase.clauses l.base);
}
