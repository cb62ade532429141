use Rattle.std.proofs.Common.{◌-◌, length}
use Rattle.sat_core.specs.Decisions.{AreTrueTo}
use Rattle.sat_core.proofs.decide.next_pending.Given as goal

-- what was true before the start and up to here is true
abbrev pub invariant-loop-from : goal.invariant-loop-from
invariant-loop-from l = AreTrueTo l.trail.steps.items l.lits l.fn.from → AreTrueTo l.trail.steps.items l.lits l.from

abbrev pub decreases-loop-from : goal.decreases-loop-from
decreases-loop-from l = length l.lits - l.from
