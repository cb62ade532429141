use Rattle.std.proofs.Common.{◌∙◌, ap, refl}
use Rattle.clause_links.specs.WatchLists.{WatchLists}
use Rattle.sat_core.specs.Solving.{Solving}
use Rattle.sat_core.proofs.SolverLaws.{rest_state, quiet_stays, solver_with}
use Rattle.sat_core.proofs.solver.SolverClauseBase.new_var.Goals as goal

pub add_var-requires-clause-state : goal.add_var-requires-clause-state
add_var-requires-clause-state c =
    rest_state c.self.inside.added.items c.reset.new.self (c.reset.ensures.engine c.self.inside.added.items c.self.invariant.engine) c.reset.ensures.rest

pub invariant_of-self : goal.invariant_of-self
invariant_of-self c =
    let added = c.self.inside.added.items in
    solver_with added added c.self.inside.empty c.self.inside.engine c.add_var.new.self c.self.invariant refl
    (c.add_var.ensures.engine added (c.reset.ensures.engine added c.self.invariant.engine))

pub returns-in_err-add_var-clause-quiet : goal.returns-in_err-add_var-clause-quiet
returns-in_err-add_var-clause-quiet c =
    let r = c.reset.new.self.propagator in
    let a = c.add_var.new.self.propagator in
    quiet_stays r.links a.links r.trail.steps.items a.trail.steps.items c.reset.ensures.quiet c.reset.ensures.rest.0 c.add_var.ensures.rest.0
    c.add_var.ensures.clauses

pub invariant_of-self-2 : goal.invariant_of-self-2
invariant_of-self-2 c =
    let added = c.self.inside.added.items in
    solver_with added added c.self.inside.empty c.self.inside.engine c.add_var.new.self c.self.invariant refl
    (c.add_var.ensures.engine added (c.reset.ensures.engine added c.self.invariant.engine))

pub returns-clause-number : goal.returns-clause-number
returns-clause-number c =
    let s = c.reset.ensures.engine c.self.inside.added.items c.self.invariant.engine in
    c.len-var.ensures ∙ c.reset.new.self.phases.ok.0 ∙ s.phases ∙ ap (λ (l : WatchLists). l.vars) c.reset.ensures.links
    ∙ ap (λ (v : Solving). v.vars) c.self.view_is

pub returns-clause-quiet : goal.returns-clause-quiet
returns-clause-quiet c =
    let r = c.reset.new.self.propagator in
    let a = c.add_var.new.self.propagator in
    quiet_stays r.links a.links r.trail.steps.items a.trail.steps.items c.reset.ensures.quiet c.reset.ensures.rest.0 c.add_var.ensures.rest.0
    c.add_var.ensures.clauses
