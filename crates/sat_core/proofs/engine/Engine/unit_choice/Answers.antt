use Rattle.std.proofs.Common.{subst}
use Rattle.sat_core.specs.declared.decide.Pending.{Pending}
use Rattle.sat_core.specs.Decisions.{IsPending}
use Rattle.sat_core.proofs.Choosing.{unit_wrong, unit_next}
use Rattle.sat_core.proofs.engine.Engine.unit_choice.Goals as goal

pub returns-in-Wrong : goal.returns-in-Wrong
returns-in-Wrong c =
    let e = c.args.self.now in
    unit_wrong c.args.database.added.now c.args.database.assumed.now e c.requires.search c.in-Wrong.index c.index.result.now
    (subst (λ (p : Pending). IsPending e.propagator.trail.steps.items e.propagator.trail.places.items e.units.lits.items p) c.in-Wrong.is c.requires.pending)
    c.index.ensures

pub returns-in-Free : goal.returns-in-Free
returns-in-Free c =
    let e = c.args.self.now in
    unit_next c.args.database.added.now c.args.database.assumed.now e c.requires.search c.in-Free.index c.index-in-Free.result.now
    c.index-in-Free-2.result.now
    (subst (λ (p : Pending). IsPending e.propagator.trail.steps.items e.propagator.trail.places.items e.units.lits.items p) c.in-Free.is c.requires.pending)
    c.index-in-Free.ensures c.index-in-Free-2.ensures
