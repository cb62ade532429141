use Rattle.std.proofs.Common.{◌≡◌, ◌+◌, ◌++◌, drop}
use Rattle.cnf.specs.Clauses.{IsConservative}
use Rattle.state_coding.specs.States.{state_bits, state_width, state_clauses}
use Rattle.state_coding.proofs.states.code_state.Given as goal

-- with the ports that are left, the state so far is the whole one
abbrev pub invariant-loop-i : goal.invariant-loop-i
invariant-loop-i g l = record {
  vars : g.B.ClauseBase.vars l.base + state_width (drop l.i l.ports) ≡ g.B.ClauseBase.vars l.fn.base + state_width l.ports;
  bits : l.bits ++ state_bits (g.B.ClauseBase.vars l.base) (drop l.i l.ports) ≡ state_bits (g.B.ClauseBase.vars l.fn.base) l.ports;
  clauses : g.B.ClauseBase.clauses l.base
      ++ state_clauses (drop l.i l.ports) (state_bits (g.B.ClauseBase.vars l.base) (drop l.i l.ports))
      ≡ g.B.ClauseBase.clauses l.fn.base ++ state_clauses l.ports (state_bits (g.B.ClauseBase.vars l.fn.base) l.ports);
  grows : IsConservative (g.B.ClauseBase.vars l.fn.base) (g.B.ClauseBase.clauses l.fn.base) (g.B.ClauseBase.vars l.base) (g.B.ClauseBase.clauses l.base);
}
