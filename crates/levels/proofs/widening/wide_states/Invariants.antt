use Rattle.std.proofs.Common.{◌≡◌, map, take}
use Rattle.levels.specs.Steps.{shown_type}
use Rattle.first_lasso.specs.UsedPorts.{widened_state}
use Rattle.levels.proofs.widening.wide_states.Given as goal

abbrev pub invariant-loop-state : goal.invariant-loop-state
invariant-loop-state l = l.wide ≡ map (widened_state (map shown_type l.free) l.places) (take l.state-index l.states)
