use Rattle.std.proofs.Common.{◌≡◌, length, take}
use Rattle.clause_log.specs.Marks.{SetsMarks}
use Rattle.clause_log.proofs.checking.put_all.Given as goal

-- the literals so far got the mark
abbrev pub invariant-loop-lit : goal.invariant-loop-lit
invariant-loop-lit l = record {
  vars : length l.set ≡ length l.fn.set;
  puts : SetsMarks l.fn.set (take l.lit-index l.lits) l.mark l.set;
}
