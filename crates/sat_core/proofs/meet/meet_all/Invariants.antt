use Rattle.std.proofs.Common.{take}
use Rattle.sat_core.specs.Meeting.{IsMetSet, HasMet}
use Rattle.sat_core.proofs.meet.meet_all.Given as goal

abbrev pub invariant-loop-lit : goal.invariant-loop-lit
invariant-loop-lit l = record {
  met : IsMetSet l.trail.steps.items l.trail.places.items l.set.steps.items l.set.places.items;
  has : HasMet l.trail.steps.items l.fn.set.steps.items (take l.lit-index l.lits) l.set.steps.items;
}
