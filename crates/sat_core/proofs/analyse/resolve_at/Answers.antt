use Rattle.std.proofs.Common.{◌+◌, get_or, List, None, subst, sym, refl, ap, ◌∙◌}
use Rattle.std.specs.List.{Contains}
use Rattle.cnf.specs.declared.lit.Lit.{Lit}
use Rattle.cnf.specs.Clauses.{opposite}
use Rattle.clause_log.specs.Derivations.{Resolves}
use Rattle.sat_core.specs.declared.trail.Step.{Step}
use Rattle.sat_core.specs.Search.{lists_of, clause_of, Forces, lit_at}
use Rattle.sat_core.specs.Meeting.{HasMet, reached}
use Rattle.sat_core.proofs.Analysis.{justified_by, derived_step}
use Rattle.sat_core.proofs.Meetings.{not_met, met_step, some_not_none, can_meet_others, skipped, reached_more}
use Rattle.sat_core.proofs.analyse.resolve_at.Goals as goal

-- the step's literal was not met
pub returns-in-None-clause-derived : goal.returns-in-None-clause-derived
returns-in-None-clause-derived c = λ k agrees d.
    let steps = c.args.trail.now.steps.items in
    let set = c.args.set.now in
    let none = ap (λ (s : Step). get_or set.places.items s.lit.var None) (sym c.step-step.ensures) ∙ sym c.place.ensures ∙ c.in-None.is in
    skipped steps c.args.trail.now.places.items c.requires.trail c.args.at c.requires.at set.steps.items set.places.items c.requires.met
    (λ met. not_met set.steps.items set.places.items (opposite (lit_at steps c.args.at)) c.requires.met.trail none met)
    k c.args.derivation.now.first c.args.derivation.now.rest.items d

-- its literal was met, so it has a reason
pub returns-in-None-reason-clause-derived : goal.returns-in-None-reason-clause-derived
returns-in-None-reason-clause-derived c = λ k agrees d.
    let steps = c.args.trail.now.steps.items in
    let set = c.args.set.now in
    let some = ap (λ (s : Step). get_or set.places.items s.lit.var None) (sym c.step-step.ensures) ∙ sym c.place.ensures ∙ c.in-Some.is in
    let met = met_step steps c.args.trail.now.places.items c.requires.trail set.steps.items set.places.items c.args.at c.requires.met c.requires.at
    (some_not_none _ _ some) in
    absurd (c.requires.forced met (ap (λ (s : Step). s.reason) (sym c.step-step.ensures) ∙ c.in-None-reason.is))

pub meet_all-came-requires-clause-can : goal.meet_all-came-requires-clause-can
meet_all-came-requires-clause-can c = λ m has.
    let steps = c.args.trail.now.steps.items in
    let set = c.args.set.now in
    let k = lists_of c.args.database in
    let step = c.step-step.result in
    let some = ap (λ (s : Step). get_or set.places.items s.lit.var None) (sym c.step-step.ensures) ∙ sym c.place.ensures ∙ c.in-Some.is in
    let met = met_step steps c.args.trail.now.places.items c.requires.trail set.steps.items set.places.items c.args.at c.requires.met c.requires.at
    (some_not_none _ _ some) in
    let j = justified_by k steps c.args.at step c.in-Some-reason.reason c.requires.justified c.requires.at c.step-step.ensures c.in-Some-reason.is in
    can_meet_others steps c.args.trail.now.places.items c.requires.trail c.args.at c.requires.at set.steps.items (clause_of k c.in-Some-reason.reason)
    step.lit m (ap (λ (s : Step). s.lit) c.step-step.ensures) met j.1 (subst (λ (l : List Lit). Contains l m) c.lits.ensures has)

pub returns-in_ok-push-in-Some-reason-clause-derived : goal.returns-in_ok-push-in-Some-reason-clause-derived
returns-in_ok-push-in-Some-reason-clause-derived c = λ k agrees d.
    let steps = c.args.trail.now.steps.items in
    let places = c.args.trail.now.places.items in
    let set = c.args.set.now in
    let new = c.meet_all-came.new.set in
    let own = lists_of c.args.database in
    let step = c.step-step.result in
    let reason = c.in-Some-reason.reason in
    let some = ap (λ (s : Step). get_or set.places.items s.lit.var None) (sym c.step-step.ensures) ∙ sym c.place.ensures ∙ c.in-Some.is in
    let met = met_step steps places c.requires.trail set.steps.items set.places.items c.args.at c.requires.met c.requires.at (some_not_none _ _ some) in
    let j = justified_by own steps c.args.at step reason c.requires.justified c.requires.at c.step-step.ensures c.in-Some-reason.is in
    let forces = subst (λ (s : Step). Forces steps c.args.at (clause_of own reason) s.lit) c.step-step.ensures j.1 in
    let has = subst (λ (l : List Lit). HasMet steps set.steps.items l new.steps.items) c.lits.ensures c.meet_all-came.ensures.has in
    let r = reached_more steps places c.requires.trail c.args.at c.requires.at set.steps.items new.steps.items set.places.items (clause_of own reason)
    c.requires.met met forces has in
    let r' = subst (λ (s : Step). Resolves (reached places (c.args.at + 1) set.steps.items) (clause_of own reason) (opposite s.lit)
    (reached places c.args.at new.steps.items)) (sym c.step-step.ensures) r in
    derived_step k own steps c.args.at step reason c.args.derivation.now.first c.args.derivation.now.first c.args.derivation.now.rest.items
    c.push.new.self.items (reached places (c.args.at + 1) set.steps.items) (reached places c.args.at new.steps.items) c.step-step.ensures
    c.in-Some-reason.is (agrees met) r' (refl, c.in_ok-push-in-Some-reason.ensures.items) d
