use Rattle.std.proofs.Common.{subst}
use Rattle.sat_core.specs.declared.decide.Pending.{Pending}
use Rattle.sat_core.specs.Decisions.{IsPending}
use Rattle.sat_core.proofs.Choosing.{assumption_next}
use Rattle.sat_core.proofs.engine.Engine.assumption_choice.Goals as goal

pub returns-in-Free : goal.returns-in-Free
returns-in-Free c =
    let e = c.args.self.now in
    let assumed = c.args.database.assumed.now in
    assumption_next c.args.database.added.now assumed e c.requires.search c.in-Free.index
    (subst (λ (p : Pending). IsPending e.propagator.trail.steps.items e.propagator.trail.places.items assumed p) c.in-Free.is c.requires.pending)
