use Rattle.std.proofs.Common.{◌≡◌}
use Rattle.minimal_sets.specs.Searches.{rank_from}
use Rattle.minimal_sets.proofs.orders.rank.Given as goal

abbrev pub invariant-loop-place : goal.invariant-loop-place
invariant-loop-place l = l.rank ≡ rank_from l.set l.place
