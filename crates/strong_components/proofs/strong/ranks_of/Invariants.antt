use Rattle.std.proofs.Common.{ℕ, ◌<◌}
use Rattle.strong_components.specs.StrongSearch.{search_of, IsAtRest, IsSeen}
use Rattle.strong_components.proofs.strong.ranks_of.Given as goal

abbrev pub invariant-loop-root : goal.invariant-loop-root
invariant-loop-root l = record {
  rest : IsAtRest l.graph (search_of l.walk);
  seen : (u : ℕ) → u < l.root → IsSeen (search_of l.walk) u;
}
