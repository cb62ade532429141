use Rattle.std.proofs.Common.{◌-◌, length}
use Rattle.sat_core.proofs.decide.next_waiting.Given as goal

abbrev pub decreases-loop-from : goal.decreases-loop-from
decreases-loop-from l = length l.waiting.steps.items - l.from
