use Rattle.std.specs.Prelude.{◌≡◌, map, take}
use Rattle.replay.specs.Judging.{driven_values}
use Rattle.replay.proofs.driven.driven_states.Given as goal

abbrev pub invariant-loop-state : goal.invariant-loop-state
invariant-loop-state l = l.driven ≡ map (driven_values l.wires l.drivers) (take l.state-index l.states)
