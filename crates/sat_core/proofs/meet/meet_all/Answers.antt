use Rattle.std.proofs.Common.{◌<◌, length, take, get_or, subst, arith, List}
use Rattle.std.proofs.lemmas.List.{take_all}
use Rattle.std.proofs.lemmas.List.Elements.{Contains-get_or}
use Rattle.cnf.specs.declared.lit.Lit.{Lit}
use Rattle.sat_core.specs.Meeting.{HasMet}
use Rattle.sat_core.proofs.Members.{any_lit}
use Rattle.sat_core.proofs.Meetings.{can_within, can_still, has_more}
use Rattle.sat_core.proofs.meet.meet_all.Goals as goal

pub meet-requires-clause-known : goal.meet-requires-clause-known
meet-requires-clause-known c =
    let lits = c.args.lits.now in
    let i = c.loop-lit.lit-index in
    let low : i < length lits = omega arith in
    can_within c.args.trail.now.steps.items c.args.trail.now.places.items c.requires.trail c.args.set.now.steps.items c.args.set.now.places.items
    (get_or lits i any_lit) c.requires.met (c.requires.can (get_or lits i any_lit) (Contains-get_or lits i any_lit low))

pub meet-requires-clause-can : goal.meet-requires-clause-can
meet-requires-clause-can c =
    let lits = c.args.lits.now in
    let i = c.loop-lit.lit-index in
    let low : i < length lits = omega arith in
    can_still c.args.trail.now.steps.items c.args.set.now.steps.items c.loop-lit.set.steps.items (take i lits) (get_or lits i any_lit)
    c.loop-lit.invariant.has (c.requires.can (get_or lits i any_lit) (Contains-get_or lits i any_lit low))

pub loop-lit-preserved : goal.loop-lit-preserved
loop-lit-preserved c =
    let lits = c.args.lits.now in
    let i = c.loop-lit.lit-index in
    let low : i < length lits = omega arith in
    record {
      met = c.meet.ensures.met;
      has =
          has_more c.args.trail.now.steps.items c.args.set.now.steps.items c.loop-lit.set.steps.items c.meet.new.set.steps.items lits i low
          c.loop-lit.invariant.has c.meet.ensures.has;
    }

pub returns-clause-has : goal.returns-clause-has
returns-clause-has c =
    subst (λ (l : List Lit). HasMet c.args.trail.now.steps.items c.args.set.now.steps.items l c.loop-lit.set.steps.items)
    (take_all c.loop-lit.lit-index c.args.lits.now (omega arith)) c.loop-lit.invariant.has
