use Rattle.std.proofs.Common.{◌≡◌}
use Rattle.std.specs.Prelude.{filter}
use Rattle.std.specs.List.{range_with_len}
use Rattle.port_types.specs.Sets.{has_place}
use Rattle.port_types.proofs.sets.Set24.places.Given as goal

-- the members below the place are listed
abbrev pub invariant-loop-place : goal.invariant-loop-place
invariant-loop-place l = l.list.items ≡ filter (has_place l.self) (range_with_len 0 l.place)
