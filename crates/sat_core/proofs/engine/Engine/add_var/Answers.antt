use Rattle.std.proofs.Common.{◌∙◌, ◌++◌, ◌∷◌, [], false, Bool, List, length, ap, refl, sym, arith}
use Rattle.std.proofs.lemmas.List.{length_push}
use Rattle.sat_core.proofs.EngineLaws.{propagator_at_rest}
use Rattle.sat_core.proofs.Placing.{wider_engine}
use Rattle.sat_core.proofs.engine.Engine.add_var.Goals as goal

pub add_var-requires-clause-trail : goal.add_var-requires-clause-trail
add_var-requires-clause-trail c = c.requires.state.trail

pub add_var-requires-clause-queue : goal.add_var-requires-clause-queue
add_var-requires-clause-queue c = c.requires.state.queue

pub add_var-requires-clause-vars : goal.add_var-requires-clause-vars
add_var-requires-clause-vars c = c.requires.state.vars

pub add_var-requires-clause-queue_vars : goal.add_var-requires-clause-queue_vars
add_var-requires-clause-queue_vars c = c.requires.state.queue_vars

pub returns-clause-engine : goal.returns-clause-engine
returns-clause-engine c = λ added s.
    let e = c.args.self.now in
    let p = c.add_var.new.self in
    let a = c.add_var.ensures in
    let steps = a.steps ∙ c.requires.rest.0 in
    let waiting = a.waiting ∙ c.requires.rest.1 in
    let more = c.in_ok-add_var.ensures.ok in
    let items = c.push_within.ensures.items ∙ ap (λ (l : List Bool). l ++ false ∷ []) c.reserve.ensures.items in
    wider_engine added e _ (steps, waiting)
    (propagator_at_rest p.links p.references.items p.trail.steps.items p.trail.places.items p.waiting.steps.items p.waiting.places.items 0 refl
    waiting (a.trail, a.queue) (a.vars, a.queue_vars) (ap length a.references ∙ s.propagator.referred ∙ sym (ap length a.clauses)))
    (omega (arith, more), a.clauses, a.references) (refl, refl)
    (omega (arith, ap length items, length_push e.phases.items false, s.phases, more)) s
