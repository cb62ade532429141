use Rattle.std.proofs.Common.{◌≡◌, ◌≤◌, length}
use Rattle.std.specs.Prelude.{filter}
use Rattle.std.specs.List.{range_with_len}
use Rattle.port_types.specs.Sets.{has_place}
use Rattle.port_types.proofs.sets.Set24.len.Given as goal

-- the members below the place are counted
abbrev pub invariant-loop-place : goal.invariant-loop-place
invariant-loop-place l = record {
  counted : l.count ≡ length (filter (has_place l.self) (range_with_len 0 l.place));
  few : l.count ≤ l.place;
}
