use Rattle.std.proofs.Common.{◌+◌, ◌≤◌}
use Rattle.minimal_sets.specs.Families.{IsSameFamily}
use Rattle.minimal_sets.specs.Searches.{IsShrunk}
use Rattle.minimal_sets.proofs.narrowing.shrink.Given as goal

abbrev pub invariant-loop-place : goal.invariant-loop-place
invariant-loop-place g l = record {
  shrunk : IsShrunk (g.T.Test.family l.fn.test) l.fn.set l.member l.place;
  same : IsSameFamily (g.T.Test.family l.test) (g.T.Test.family l.fn.test);
  steps : l.steps ≤ l.fn.steps + l.place;
}
