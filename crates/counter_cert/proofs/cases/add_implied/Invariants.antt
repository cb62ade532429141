use Rattle.std.proofs.Common.{◌≡◌, ◌++◌, take}
use Rattle.cnf.specs.Clauses.{opposite}
use Rattle.cnf.specs.Gates.{literal}
use Rattle.counter_cert.specs.StartClauses.{implied_clauses}
use Rattle.counter_cert.proofs.cases.add_implied.Given as goal

-- the clauses so far are added
abbrev pub invariant-loop-lit : goal.invariant-loop-lit
invariant-loop-lit l = record {
  vars : l.cnf.vars ≡ l.fn.cnf.vars;
  off : l.off ≡ opposite (literal l.var);
  clauses : l.cnf.clauses ≡ l.fn.cnf.clauses ++ implied_clauses l.var (take l.lit-index l.lits);
}
