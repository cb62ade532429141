use Rattle.std.proofs.Common.{◌≡◌, ℕ, ◌<◌}
use Rattle.port_types.specs.Sets.{has_place}
use Rattle.minimal_sets.proofs.blocks.front.Given as goal

abbrev pub invariant-loop-place : goal.invariant-loop-place
invariant-loop-place l = (p : ℕ) → p < l.place → has_place l.set p ≡ l.member
