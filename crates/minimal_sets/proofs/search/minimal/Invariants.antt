use Rattle.std.proofs.Common.{◌+◌, ◌-◌, ◌*◌, ◌≤◌, length}
use Rattle.minimal_sets.specs.Families.{IsSameFamily}
use Rattle.minimal_sets.specs.Searches.{IsSearch}
use Rattle.minimal_sets.proofs.search.minimal.Given as goal

abbrev pub invariant-loop-next : goal.invariant-loop-next
invariant-loop-next g l = record {
  search : IsSearch l.n (g.T.Test.family l.fn.test) l.next l.members l.outside;
  same : IsSameFamily (g.T.Test.family l.test) (g.T.Test.family l.fn.test);
  steps : l.steps ≤ l.fn.steps + (l.n + 1) * (length l.members + length l.outside);
}

abbrev pub decreases-loop-next : goal.decreases-loop-next
decreases-loop-next g l = l.all.bits + 1 - l.next
