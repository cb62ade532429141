use Rattle.std.proofs.Common.{◌≡◌, ◌≤◌, ◌+◌, ◌-◌, [], ◌∷◌, ◌++◌, length}
use Rattle.cnf.specs.Clauses.{opposite}
use Rattle.clause_links.specs.WatchLists.{watchers}
use Rattle.sat_core.specs.Watching.{IsPropagator, IsVisiting, left_from}
use Rattle.sat_core.proofs.propagator.Propagator.propagate.Given as goal

abbrev pub invariant-loop-walk : goal.invariant-loop-walk
invariant-loop-walk g l = record {
  state : IsPropagator l.self.links l.self.references.items l.self.trail.steps.items l.self.trail.places.items
      l.self.waiting.steps.items l.self.waiting.places.items (length l.self.trail.steps.items - 1);
  trail : l.self.trail.steps.items ≡ l.fn.self.trail.steps.items ++ l.fn.step ∷ [];
  watch : l.watch ≡ opposite l.fn.step.lit;
  visiting : IsVisiting l.self.links l.self.trail.steps.items l.watch l.walk.before l.walk.at;
  counted : l.steps + left_from l.self.links l.watch l.walk.at
      ≤ l.fn.steps + length (watchers l.fn.self.links (opposite l.fn.step.lit));
  clauses : l.self.links.clauses ≡ l.fn.self.links.clauses;
  vars : l.self.links.vars ≡ l.fn.self.links.vars;
  references : l.self.references.items ≡ l.fn.self.references.items;
}

-- the clauses still to come
abbrev pub decreases-loop-walk : goal.decreases-loop-walk
decreases-loop-walk g l = left_from l.self.links l.watch l.walk.at
