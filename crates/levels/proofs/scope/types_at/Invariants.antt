use Rattle.std.proofs.Common.{◌≡◌, map, take}
use Rattle.first_lasso.specs.UsedPorts.{types_at}
use Rattle.levels.specs.Steps.{shown_type}
use Rattle.levels.proofs.scope.types_at.Given as goal

abbrev pub invariant-loop-place : goal.invariant-loop-place
invariant-loop-place l = l.types ≡ types_at (map shown_type l.free) (take l.place-index l.places)
