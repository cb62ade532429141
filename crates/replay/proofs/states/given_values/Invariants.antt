use Rattle.std.specs.Prelude.{◌≡◌, filter_map}
use Rattle.replay.proofs.states.given_values.Given as goal

abbrev pub invariant-loop-slot : goal.invariant-loop-slot
invariant-loop-slot l = l.values ≡ filter_map (λ slot. slot) l.yielded
