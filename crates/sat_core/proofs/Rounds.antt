-- One round of a search: the engine after a literal was made true, told by what the call promises that makes it so.
use Rattle.std.proofs.Common.{◌≡◌, ◌∷◌, ◌++◌, [], length, refl}
use Rattle.std.specs.Vec.{with_item}
use Rattle.std.proofs.Math.ListN.{length-set}
use Rattle.sat_core.specs.declared.trail.Step.{Step}
use Rattle.sat_core.specs.declared.propagator.Propagator.{Propagator}
use Rattle.sat_core.specs.declared.propagator.Propagation.{Propagation}
use Rattle.sat_core.specs.declared.engine.Engine.{Engine}
use Rattle.sat_core.specs.Watching.{Propagates}
use Rattle.sat_core.specs.Engines.{Propagated}
use Rattle.sat_core.proofs.SearchLaws.{IsStepped}

-- the engine with another propagator, and with the value of the literal's variable kept
abbrev pub stepped_to : Engine → Propagator → Step → Engine
stepped_to e p step = record {
  propagator = p;
  units = e.units;
  learnt = e.learnt;
  phases = with_item e.phases step.lit.var step.lit.positive;
}

pub stepped_is : (e : Engine) (p : Propagator) (step : Step) (result : Propagation)
    → Propagated (stepped_to e p step) (length e.propagator.trail.steps.items)
    → p.trail.steps.items ≡ e.propagator.trail.steps.items ++ step ∷ [] → Propagates p.links p.trail.steps.items result
    → (p.links.vars ≡ e.propagator.links.vars) × (p.links.clauses ≡ e.propagator.links.clauses)
    × (p.references.items ≡ e.propagator.references.items)
    → IsStepped e (stepped_to e p step) step result
stepped_is e p step result state trail ends (vars, clauses, references) = record {
  state = state;
  trail = trail;
  ends = ends;
  same = record {
    vars = vars;
    clauses = clauses;
    references = references;
    units = refl;
    reasons = refl;
    learnt = refl;
    derivations = refl;
  };
  phases = length-set e.phases.items step.lit.var step.lit.positive;
}
