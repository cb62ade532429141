use Rattle.std.proofs.Common.{◌≤◌, length, []}
use Rattle.sat_core.specs.Search.{clause_lists, IsDerivation}
use Rattle.sat_core.specs.Meeting.{IsMetSet, reached}
use Rattle.sat_core.proofs.analyse.trace.Given as goal

abbrev pub invariant-loop-at : goal.invariant-loop-at
invariant-loop-at l = record {
  within : l.at ≤ length l.trail.steps.items;
  met : IsMetSet l.trail.steps.items l.trail.places.items l.set.steps.items l.set.places.items;
  derived : IsDerivation (clause_lists l.database.added.now l.database.learnt.now [])
      l.derivation.first l.derivation.rest.items (reached l.trail.places.items l.at l.set.steps.items);
}

abbrev pub decreases-loop-at : goal.decreases-loop-at
decreases-loop-at l = l.at
