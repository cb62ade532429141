use Rattle.std.proofs.Common.{◌≡◌, length, drop}
use Rattle.cnf.specs.Clauses.{IsConservative}
use Rattle.state_coding.specs.States.{IsCodedState}
use Rattle.tableau.specs.Copies.{members_coding, behind_clauses, unfilled}
use Rattle.tableau.specs.Parts.{HasPart, EveryStateExtends}
use Rattle.tableau.proofs.members.code_members.Given as goal

-- with the members that are left, the layer so far is the whole one
abbrev pub invariant-loop-i : goal.invariant-loop-i
invariant-loop-i g l = record {
  count : length l.layer.members ≡ l.i;
  left : behind_clauses (g.B.ClauseBase.clauses l.base) (members_coding l.tableau l.layer (g.B.ClauseBase.vars l.base) (drop l.i l.nodes))
      ≡ behind_clauses (g.B.ClauseBase.clauses l.fn.base)
      (members_coding l.tableau (unfilled l.fn.now l.fn.next) (g.B.ClauseBase.vars l.fn.base) l.nodes);
  part : HasPart (g.B.ClauseBase.vars l.base) l.tableau l.layer;
  now : IsCodedState (g.B.ClauseBase.vars l.base) (g.B.ClauseBase.clauses l.base) l.tableau.ports l.layer.bits;
  next : IsCodedState (g.B.ClauseBase.vars l.base) (g.B.ClauseBase.clauses l.base) l.tableau.ports l.layer.next_bits;
  grows : IsConservative (g.B.ClauseBase.vars l.fn.base) (g.B.ClauseBase.clauses l.fn.base) (g.B.ClauseBase.vars l.base) (g.B.ClauseBase.clauses l.base);
  every : EveryStateExtends (g.B.ClauseBase.vars l.fn.base) (g.B.ClauseBase.clauses l.fn.base) (g.B.ClauseBase.vars l.base)
      (g.B.ClauseBase.clauses l.base) l.tableau (unfilled l.fn.now l.fn.next) l.layer;
}
