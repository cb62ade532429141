use Rattle.std.proofs.Common.{◌≡◌, ◌+◌, sum, take}
use Rattle.spec_model.proofs.free_order.total.Given as goal

abbrev pub invariant-loop-count : goal.invariant-loop-count
invariant-loop-count l = l.total ≡ l.own + sum (take l.count-index l.counts)
