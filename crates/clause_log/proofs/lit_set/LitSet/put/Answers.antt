use Rattle.std.proofs.Common.{arith}
use Rattle.clause_log.proofs.SetLaws.{sum_bounded, count_le_one}
use Rattle.clause_log.proofs.lit_set.LitSet.put.Goals as goal

pub overflow_add-self : goal.overflow_add-self
overflow_add-self c = omega (arith, sum_bounded c.self.inside.marks.items, count_le_one c.args.mark, c.as_count.ensures, c.self.invariant.0, c.self.invariant.1)
