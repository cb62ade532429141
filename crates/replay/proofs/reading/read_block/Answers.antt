use Rattle.std.proofs.Common.{inl}
use Rattle.replay.proofs.reading.read_block.Goals as goal

pub returns-in_default-clause-stops : goal.returns-in_default-clause-stops
returns-in_default-clause-stops c = λ at e.
    inl ((λ (x, states, loop_at, h). (rw c.in_default.is at c.in_ok-header.ensures.none) x states loop_at h), cc e)
