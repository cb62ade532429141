use Rattle.std.proofs.Common.{◌≡◌, ◌+◌, ◌-◌, ◌++◌}
use Rattle.state_coding.specs.States.{var_row}
use Rattle.state_coding.proofs.codes.new_row.Given as goal

abbrev pub invariant-loop : goal.invariant-loop
invariant-loop g l = record {
  vars : g.B.ClauseBase.vars l.base ≡ g.B.ClauseBase.vars l.fn.base + l.counter;
  row : l.row ++ var_row (g.B.ClauseBase.vars l.base) (l.count - l.counter) ≡ var_row (g.B.ClauseBase.vars l.fn.base) l.count;
  clauses : g.B.ClauseBase.clauses l.base ≡ g.B.ClauseBase.clauses l.fn.base;
}
