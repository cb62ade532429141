use Rattle.std.proofs.Common.{◌+◌, ◌≤◌}
use Rattle.minimal_sets.specs.Families.{IsSameFamily}
use Rattle.minimal_sets.specs.Searches.{IsGrown}
use Rattle.minimal_sets.proofs.narrowing.grow.Given as goal

abbrev pub invariant-loop-place : goal.invariant-loop-place
invariant-loop-place g l = record {
  grown : IsGrown l.n (g.T.Test.family l.fn.test) l.fn.set l.outside l.place;
  same : IsSameFamily (g.T.Test.family l.test) (g.T.Test.family l.fn.test);
  steps : l.steps ≤ l.fn.steps + l.place;
}
