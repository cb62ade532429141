use Rattle.std.proofs.Common.{arith}
use Rattle.minimal_sets.proofs.Ranks.{rank_fits}
use Rattle.minimal_sets.proofs.orders.rank.Goals as goal

pub overflow_mul-rank : goal.overflow_mul-rank
overflow_mul-rank c = omega (arith, c.loop-place.invariant, rank_fits c.args.set c.loop-place.place c.loop-place-test.true)

pub overflow_add-rank : goal.overflow_add-rank
overflow_add-rank c = grind (arith, c.loop-place.invariant, rank_fits c.args.set c.loop-place.place c.loop-place-test.true, c.from.ensures)
