use Rattle.std.proofs.Common.{ℕ, ◌≤◌, take, length}
use Rattle.sat_core.specs.Learning.{OthersFalse}
use Rattle.sat_core.proofs.analyse.others_end.Given as goal

abbrev pub invariant-loop-lit : goal.invariant-loop-lit
invariant-loop-lit l = record {
  covers : OthersFalse l.trail.steps.items l.end (take l.lit-index l.lits) l.but;
  least : (n : ℕ) → n ≤ length l.trail.steps.items → OthersFalse l.trail.steps.items n l.lits l.but → l.end ≤ n;
}
