use Rattle.std.proofs.Common.{length, take}
use Rattle.sat_core.specs.Learning.{OthersFalse}
use Rattle.sat_core.proofs.propagator.replacement.Given as goal

-- the literals so far are false, but for the other one
abbrev pub invariant-loop-lit : goal.invariant-loop-lit
invariant-loop-lit l = OthersFalse l.trail.steps.items (length l.trail.steps.items) (take l.lit-index l.lits) l.other
