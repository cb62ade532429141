use Rattle.cnf.specs.Clauses.{IsConservative}
use Rattle.state_coding.specs.Atoms.{common_lits}
use Rattle.state_coding.proofs.NameSteps.{CommonSoFar, common_left}
use Rattle.state_coding.proofs.names.code_common.Given as goal

-- with the names that are left, the literals so far are those of all
abbrev pub invariant-loop-i : goal.invariant-loop-i
invariant-loop-i g l = record {
  so_far : CommonSoFar (g.B.ClauseBase.vars l.fn.base) (g.B.ClauseBase.vars l.base) (g.B.ClauseBase.clauses l.fn.base)
      (g.B.ClauseBase.clauses l.base) l.common.items (common_left l.x.row.now l.y.row.now l.i l.x.names.now l.y.names.now)
      (common_lits l.x.row.now l.y.row.now 0 l.x.names.now l.y.names.now);
  grows : IsConservative (g.B.ClauseBase.vars l.fn.base) (g.B.ClauseBase.clauses l.fn.base) (g.B.ClauseBase.vars l.base)
      (g.B.ClauseBase.clauses l.base);
}
