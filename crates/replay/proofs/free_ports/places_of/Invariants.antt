use Rattle.std.specs.Prelude.{take}
use Rattle.replay.specs.Reading.{TellsPlaces}
use Rattle.replay.proofs.free_ports.places_of.Given as goal

abbrev pub invariant-loop-place : goal.invariant-loop-place
invariant-loop-place l = TellsPlaces (take l.place l.names) l.places
