use Rattle.std.proofs.Common.{◌≡◌, ◌++◌, List, drop}
use Rattle.cnf.specs.declared.lit.Lit.{Lit}
use Rattle.tableau.specs.Steps.{nexts_clauses}
use Rattle.tableau.proofs.steps.add_nexts.Given as goal

-- with the nodes that are left, what was added is the whole
abbrev pub invariant-loop-i : goal.invariant-loop-i
invariant-loop-i g l = record {
  vars : g.B.ClauseBase.vars l.base ≡ g.B.ClauseBase.vars l.fn.base;
  grown : (added : List (List Lit)) × (g.B.ClauseBase.clauses l.base ≡ g.B.ClauseBase.clauses l.fn.base ++ added);
  left : g.B.ClauseBase.clauses l.base ++ nexts_clauses l.pair.under l.pair.from.now l.pair.to.now l.i (drop l.i l.nodes)
      ≡ g.B.ClauseBase.clauses l.fn.base ++ nexts_clauses l.pair.under l.pair.from.now l.pair.to.now 0 l.nodes;
}
