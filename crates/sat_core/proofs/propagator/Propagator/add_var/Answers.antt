use Rattle.std.proofs.Common.{◌∙◌, ap, ◌++◌, ◌∷◌, [], List, Option, None, ℕ}
use Rattle.sat_core.proofs.EngineLaws.{trail_wider}
use Rattle.sat_core.proofs.propagator.Propagator.add_var.Goals as goal

pub returns-clause-trail : goal.returns-clause-trail
returns-clause-trail c =
    let s = c.args.self.now in
    trail_wider s.trail.steps.items c.add_var.new.self.steps.items s.trail.places.items c.add_var.new.self.places.items
    (c.add_var.ensures.steps ∙ c.reserve_var.ensures.steps)
    (c.add_var.ensures.places ∙ ap (λ (l : List (Option ℕ)). l ++ None ∷ []) c.reserve_var.ensures.places) c.requires.trail

pub returns-clause-queue : goal.returns-clause-queue
returns-clause-queue c =
    let s = c.args.self.now in
    trail_wider s.waiting.steps.items c.add_var-2.new.self.steps.items s.waiting.places.items c.add_var-2.new.self.places.items
    (c.add_var-2.ensures.steps ∙ c.reserve_var-2.ensures.steps)
    (c.add_var-2.ensures.places ∙ ap (λ (l : List (Option ℕ)). l ++ None ∷ []) c.reserve_var-2.ensures.places) c.requires.queue
