use Rattle.std.proofs.Common.{take}
use Rattle.sat_core.specs.Learning.{OthersFalse}
use Rattle.sat_core.proofs.Orders.{LastSoFar}
use Rattle.sat_core.proofs.order.latest.Given as goal

-- the literals so far are false by `end`, where the last of them was made false
abbrev pub invariant-loop-lit : goal.invariant-loop-lit
invariant-loop-lit l = record {
  others : OthersFalse l.trail.steps.items l.end (take l.lit-index l.lits) l.forced;
  last : LastSoFar l.trail.steps.items l.lits l.forced l.end l.last;
}
