use Rattle.spec_model.proofs.FreePlaces.{Starts}
use Rattle.spec_model.proofs.free_order.starts_of.Given as goal

abbrev pub invariant-loop-count : goal.invariant-loop-count
invariant-loop-count l = Starts l.own l.counts l.starts.items l.next l.count-index
