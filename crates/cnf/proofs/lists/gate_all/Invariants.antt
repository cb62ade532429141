use Rattle.std.proofs.Common.{◌≡◌, ◌≤◌, ◌+◌, length, List, [], ◌∷◌, ◌++◌, take}
use Rattle.std.specs.Prelude.{map}
use Rattle.cnf.specs.declared.lit.Lit.{Lit}
use Rattle.cnf.specs.Clauses.{opposite}
use Rattle.cnf.specs.Gates.{literal}
use Rattle.cnf.proofs.lists.gate_all.Given as goal

-- the clauses of two literals so far, and the last clause so far
abbrev pub invariant-loop-lit : goal.invariant-loop-lit
invariant-loop-lit g l = record {
  variable : l.c ≡ literal (g.B.ClauseBase.vars l.fn.base);
  within : l.lit-index ≤ length l.lits;
  negated : l.not_c ≡ opposite (literal (g.B.ClauseBase.vars l.fn.base));
  vars : g.B.ClauseBase.vars l.base ≡ g.B.ClauseBase.vars l.fn.base + 1;
  clauses : g.B.ClauseBase.clauses l.base ≡ g.B.ClauseBase.clauses l.fn.base ++ map (λ lit. l.not_c ∷ lit ∷ []) (take l.lit-index l.lits);
  last : l.last.items ≡ l.c ∷ map opposite (take l.lit-index l.lits);
}
