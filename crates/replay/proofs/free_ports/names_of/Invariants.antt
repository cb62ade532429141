use Rattle.std.specs.Prelude.{◌≡◌, map, take}
use Rattle.replay.specs.Reading.{free_text}
use Rattle.replay.proofs.free_ports.names_of.Given as goal

abbrev pub invariant-loop-port : goal.invariant-loop-port
invariant-loop-port l = l.names ≡ map (free_text l.spec l.c) (take l.port-index l.free)
