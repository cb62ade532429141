use Rattle.std.proofs.Common.{◌≡◌, ◌++◌, drop}
use Rattle.state_coding.specs.Atoms.{match_lits}
use Rattle.state_coding.proofs.compare.match_lits.Given as goal

abbrev pub invariant-loop-i : goal.invariant-loop-i
invariant-loop-i l = l.lits.items ++ match_lits (drop l.i l.row) (drop l.i l.bits) ≡ match_lits l.row l.bits
