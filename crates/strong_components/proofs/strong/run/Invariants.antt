use Rattle.strong_components.specs.StrongSearch.{search_of, search_weight, IsStrongSearch, StaysSeen}
use Rattle.strong_components.proofs.strong.run.Given as goal

abbrev pub decreases-steps : goal.decreases-steps
decreases-steps l = search_weight l.graph (search_of l.walk)

abbrev pub invariant-steps : goal.invariant-steps
invariant-steps l = record {
  search : IsStrongSearch l.graph (search_of l.walk);
  seen : StaysSeen (search_of l.fn.walk) (search_of l.walk);
}
