use Rattle.sat_core.specs.Decisions.{AreTrueTo}
use Rattle.sat_core.specs.Engines.{IsEngine, IsFound, IsLonger, found_weight}
use Rattle.sat_core.proofs.engine.Engine.search.Given as goal

abbrev pub invariant-loop-found : goal.invariant-loop-found
invariant-loop-found l = record {
  engine : IsEngine l.added l.self;
  longer : IsLonger l.fn.self l.self;
  found : IsFound l.added l.assumed l.self l.found;
  seen : AreTrueTo l.self.propagator.trail.steps.items l.assumed l.cursors.assumed;
}

-- each literal that is made true, and each return, lowers the weight
abbrev pub decreases-loop-found : goal.decreases-loop-found
decreases-loop-found l = found_weight l.self l.found
