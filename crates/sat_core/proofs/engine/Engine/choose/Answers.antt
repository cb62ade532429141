use Rattle.std.proofs.Common.{◌<◌, subst, sym, refl, length, List}
use Rattle.std.specs.List.{All}
use Rattle.cnf.specs.declared.lit.Lit.{Lit}
use Rattle.sat_core.proofs.Choosing.{units_within, assumed_within_places, waiting_next, decision_next, seen_less}
use Rattle.sat_core.proofs.engine.Engine.choose.Goals as goal

pub returns-in-Some-clause-choice : goal.returns-in-Some-clause-choice
returns-in-Some-clause-choice c =
    let w = c.in-Some.ensures in
    waiting_next c.args.database.added.now c.args.database.assumed.now c.args.self.now c.requires.search c.in-Some.step w.0 w.1 w.2 w.3

pub next_pending-requires-clause-vars : goal.next_pending-requires-clause-vars
next_pending-requires-clause-vars c =
    let e = c.args.self.now in
    subst (λ (l : List Lit). All (λ (lit : Lit). lit.var < length e.propagator.trail.places.items) l) (sym c.as_slice.ensures.value)
    (units_within c.args.database.added.now c.args.database.assumed.now e c.requires.search)

pub next_pending-requires-2-clause-vars : goal.next_pending-requires-2-clause-vars
next_pending-requires-2-clause-vars c =
    assumed_within_places c.args.database.added.now c.args.database.assumed.now c.args.self.now c.requires.search

pub returns-in-Some-next-clause-choice : goal.returns-in-Some-next-clause-choice
returns-in-Some-next-clause-choice c =
    let e = c.args.self.now in
    let assumed = c.args.database.assumed.now in
    decision_next c.args.database.added.now assumed e c.requires.search c.in-Some-next.lit
    (seen_less e.propagator.trail.steps.items assumed (length assumed) c.next_pending-2.new.from (c.in_default-next_pending-2.ensures.none refl)
    (c.next_pending-2.ensures.seen c.requires.seen))
    c.in-Some-next.ensures.some
