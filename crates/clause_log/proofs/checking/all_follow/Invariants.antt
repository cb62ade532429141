use Rattle.std.proofs.Common.{◌≡◌, ◌<◌, ℕ, false, length, take, Some, slice_get}
use Rattle.std.specs.List.{All}
use Rattle.cnf.specs.declared.lit.Lit.{Lit}
use Rattle.clause_log.specs.declared.chain.Chain.{Chain}
use Rattle.clause_log.specs.Marks.{mark_of}
use Rattle.clause_log.specs.Derivations.{clauses_by_number, Follows, clauses_before}
use Rattle.clause_log.proofs.checking.all_follow.Given as goal

-- the chains so far follow, and have known variables alone
abbrev pub invariant-loop-i : goal.invariant-loop-i
invariant-loop-i l = record {
  vars : length l.set ≡ length l.fn.set;
  empty : (lit : Lit) → mark_of l.set lit ≡ false;
  known : All (All (λ lit. lit.var < length l.fn.set)) (clauses_by_number l.cnf (take l.i l.log));
  each : (k : ℕ) (chain : Chain) → k < l.i → slice_get l.log k ≡ Some chain
      → Follows (clauses_before l.cnf l.log k) chain;
}
