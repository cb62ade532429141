use Rattle.std.proofs.Common.{◌≡◌, ◌++◌, List, drop}
use Rattle.cnf.specs.declared.lit.Lit.{Lit}
use Rattle.tableau.specs.Steps.{same_state_clauses}
use Rattle.tableau.proofs.steps.add_same_states.Given as goal

-- with the ports that are left, what was added is the whole
abbrev pub invariant-loop-i : goal.invariant-loop-i
invariant-loop-i g l = record {
  vars : g.B.ClauseBase.vars l.base ≡ g.B.ClauseBase.vars l.fn.base;
  grown : (added : List (List Lit)) × (g.B.ClauseBase.clauses l.base ≡ g.B.ClauseBase.clauses l.fn.base ++ added);
  left : g.B.ClauseBase.clauses l.base ++ same_state_clauses l.under (drop l.i l.bits) (drop l.i l.others)
      ≡ g.B.ClauseBase.clauses l.fn.base ++ same_state_clauses l.under l.bits l.others;
}
