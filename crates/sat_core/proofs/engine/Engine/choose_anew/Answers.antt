use Rattle.std.proofs.Common.{◌<◌, subst, sym, arith, refl, length, List}
use Rattle.std.specs.List.{All}
use Rattle.cnf.specs.declared.lit.Lit.{Lit}
use Rattle.sat_core.specs.Decisions.{AreTrueTo}
use Rattle.sat_core.proofs.Choosing.{units_within, decision_next, seen_less, seen_none}
use Rattle.sat_core.proofs.SearchLaws.{assumptions_seen}
use Rattle.sat_core.proofs.engine.Engine.choose_anew.Goals as goal

pub next_pending-requires-clause-vars : goal.next_pending-requires-clause-vars
next_pending-requires-clause-vars c =
    let e = c.args.self.now in
    subst (λ (l : List Lit). All (λ (lit : Lit). lit.var < length e.propagator.trail.places.items) l) (sym c.as_slice.ensures.value)
    (units_within c.args.database.added.now c.args.database.assumed.now e c.requires.search)

pub returns-in-Some-next_decision-clause-choice : goal.returns-in-Some-next_decision-clause-choice
returns-in-Some-next_decision-clause-choice c =
    decision_next c.args.database.added.now c.args.database.assumed.now c.args.self.now c.requires.search c.in-Some-next_decision.lit c.requires.seen
    c.in-Some-next_decision.ensures.some

pub returns-in-None-clause-choice : goal.returns-in-None-clause-choice
returns-in-None-clause-choice c =
    let e = c.args.self.now in
    let steps = e.propagator.trail.steps.items in
    let units = e.units.lits.items in (
      assumptions_seen c.args.database.added.now e.learnt.clauses.items c.args.database.assumed.now steps c.requires.seen,
      λ var low none. c.in-None.ensures.none refl var (omega arith) low none,
      subst (λ (l : List Lit). AreTrueTo steps l (length l)) c.as_slice.ensures.value
          (seen_less steps c.as_slice.result.now (length c.as_slice.result.now) c.next_pending.new.from (c.in_default.ensures.none refl)
          (c.next_pending.ensures.seen (seen_none steps c.as_slice.result.now 0 refl))),
    )
