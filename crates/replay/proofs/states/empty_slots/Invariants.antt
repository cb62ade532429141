use Rattle.std.specs.Prelude.{◌≡◌}
use Rattle.replay.specs.Reading.{no_slots}
use Rattle.replay.proofs.states.empty_slots.Given as goal

abbrev pub invariant-loop : goal.invariant-loop
invariant-loop l = l.slots.items ≡ no_slots l.counter
