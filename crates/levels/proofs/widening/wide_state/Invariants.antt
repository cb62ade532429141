use Rattle.std.proofs.Common.{◌≡◌, map}
use Rattle.std.specs.List.{range_with_len}
use Rattle.levels.specs.Steps.{shown_type}
use Rattle.first_lasso.specs.UsedPorts.{widened_value}
use Rattle.levels.proofs.widening.wide_state.Given as goal

abbrev pub invariant-loop-k : goal.invariant-loop-k
invariant-loop-k l = l.wide ≡ map (widened_value (map shown_type l.free) l.places l.state) (range_with_len 0 l.k)
