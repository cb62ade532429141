use Rattle.std.proofs.Common.{◌≡◌, ◌<◌, false, length}
use Rattle.cnf.specs.declared.lit.Lit.{Lit}
use Rattle.clause_log.specs.Marks.{mark_of}
use Rattle.clause_log.proofs.checking.clear.Given as goal

-- the variables so far have no literal in the set
abbrev pub invariant-loop-var : goal.invariant-loop-var
invariant-loop-var l = record {
  vars : length l.set ≡ length l.fn.set;
  empty : (lit : Lit) → lit.var < l.var → mark_of l.set lit ≡ false;
}
