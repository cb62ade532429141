use Rattle.std.proofs.Common.{◌∙◌, map, ap, subst}
use Rattle.clause_links.specs.WatchLists.{WatchLists}
use Rattle.sat_core.specs.Search.{unit_clause}
use Rattle.sat_core.specs.Solving.{Solving, FollowFrom}
use Rattle.sat_core.proofs.Searching.{within_same, within_units}
use Rattle.sat_core.proofs.SolverLaws.{solver_with, follow_answer}
use Rattle.sat_core.proofs.solver.Solver.decide.Goals as goal

pub answer-requires-clause-solver : goal.answer-requires-clause-solver
answer-requires-clause-solver c =
    let added = c.self.inside.added.items in
    solver_with added c.as_slice-added.result.now c.self.inside.empty c.self.inside.engine c.reset.new.self c.self.invariant
    c.as_slice-added.ensures.value (c.reset.ensures.engine added c.self.invariant.engine)

pub answer-requires-clause-assumed : goal.answer-requires-clause-assumed
answer-requires-clause-assumed c =
    within_same c.reset.new.self.propagator.links.vars c.args.self.now.vars (map unit_clause c.args.assumptions.now)
    (ap (λ (l : WatchLists). l.vars) c.reset.ensures.links ∙ ap (λ (v : Solving). v.vars) c.self.view_is)
    (within_units c.args.self.now.vars c.args.assumptions.now c.requires.known)

pub returns-in_err-answer-clause-learnt : goal.returns-in_err-answer-clause-learnt
returns-in_err-answer-clause-learnt c =
    subst (λ (v : Solving). FollowFrom v.vars v.clauses v.kept c.answer.new.self.propagator.links) c.self.view_is
    (follow_answer c.self.inside.added.items c.as_slice-added.result.now c.self.inside.empty c.self.inside.engine c.reset.new.self c.answer.new.self
    c.as_slice-added.ensures.value c.reset.ensures.links c.answer.ensures.longer c.answer.ensures.solver)

pub returns-in_err-log-in-Unsat-clause-learnt : goal.returns-in_err-log-in-Unsat-clause-learnt
returns-in_err-log-in-Unsat-clause-learnt c =
    subst (λ (v : Solving). FollowFrom v.vars v.clauses v.kept c.answer.new.self.propagator.links) c.self.view_is
    (follow_answer c.self.inside.added.items c.as_slice-added.result.now c.self.inside.empty c.self.inside.engine c.reset.new.self c.answer.new.self
    c.as_slice-added.ensures.value c.reset.ensures.links c.answer.ensures.longer c.answer.ensures.solver)

pub returns-clause-learnt : goal.returns-clause-learnt
returns-clause-learnt c =
    subst (λ (v : Solving). FollowFrom v.vars v.clauses v.kept c.answer.new.self.propagator.links) c.self.view_is
    (follow_answer c.self.inside.added.items c.as_slice-added.result.now c.self.inside.empty c.self.inside.engine c.reset.new.self c.answer.new.self
    c.as_slice-added.ensures.value c.reset.ensures.links c.answer.ensures.longer c.answer.ensures.solver)
