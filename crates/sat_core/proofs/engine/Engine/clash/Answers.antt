use Rattle.std.proofs.Common.{◌∙◌, length, ap, subst, sym, refl, arith, List}
use Rattle.clause_links.specs.WatchLists.{WatchLists}
use Rattle.sat_core.specs.declared.trail.Step.{Step}
use Rattle.sat_core.specs.Watching.{NoConflict}
use Rattle.sat_core.proofs.EngineLaws.{NoConflict-start, propagator_at_rest}
use Rattle.sat_core.proofs.Placing.{unplaced}
use Rattle.sat_core.proofs.engine.Engine.clash.Goals as goal

pub opposites-requires-clause-known : goal.opposites-requires-clause-known
opposites-requires-clause-known c = λ k d low.
    omega (arith, c.requires.known k d low, c.back.ensures.queue_vars, c.requires.vars)

pub returns-clause-engine : goal.returns-clause-engine
returns-clause-engine c = λ added s.
    let e = c.args.self.now in
    let b = c.back.ensures in
    let o = c.opposites.ensures in
    let p = c.back.new.self in
    let vars = ap (λ (l : WatchLists). l.vars) b.links in
    let clauses = ap (λ (l : WatchLists). l.clauses) b.links in
    unplaced added e _ (b.steps, o.empty)
    (propagator_at_rest p.links p.references.items p.trail.steps.items p.trail.places.items c.opposites.new.set.steps.items
    c.opposites.new.set.places.items 0 refl o.empty (b.trail, o.set)
    (b.vars ∙ s.propagator.vars ∙ sym vars, o.vars ∙ b.queue_vars ∙ s.propagator.queue_vars ∙ sym vars)
    (ap length b.references ∙ s.propagator.referred ∙ sym (ap length clauses)))
    (record { vars = vars; clauses = clauses; references = b.references; units = refl; reasons = refl; learnt = refl; derivations = refl }, refl) s

pub returns-clause-quiet : goal.returns-clause-quiet
returns-clause-quiet c =
    let links = c.back.new.self.links in
    subst (λ (l : List Step). NoConflict links l) (sym c.back.ensures.steps) (NoConflict-start links c.lists_are_exact.ensures)
