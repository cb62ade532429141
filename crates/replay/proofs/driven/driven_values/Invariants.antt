use Rattle.std.specs.Prelude.{◌≡◌, map, take}
use Rattle.typed_ltl.specs.Traces.{assignment}
use Rattle.replay.specs.Judging.{driven_value}
use Rattle.replay.proofs.driven.driven_values.Given as goal

abbrev pub invariant-loop-driver : goal.invariant-loop-driver
invariant-loop-driver l = l.values ≡ map (driven_value l.wires (assignment l.state)) (take l.driver-index l.drivers)
