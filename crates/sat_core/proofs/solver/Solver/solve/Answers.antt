use Rattle.std.proofs.Common.{◌∙◌, ◌++◌, List, map, ap, subst, refl}
use Rattle.std.specs.Prelude.{IfOk}
use Rattle.cnf.specs.declared.lit.Lit.{Lit}
use Rattle.clause_log.specs.Derivations.{Derives}
use Rattle.sat_core.specs.Outcomes.{IfUnsat}
use Rattle.sat_core.specs.Search.{unit_clause}
use Rattle.sat_core.specs.Numbering.{clauses_with_units}
use Rattle.sat_core.specs.Solving.{Solving}
use Rattle.sat_core.proofs.Refuted.{refuted}
use Rattle.sat_core.proofs.SolverLaws.{solver_with, quiet_to}
use Rattle.sat_core.proofs.solver.Solver.solve.Goals as goal

pub invariant_of-self : goal.invariant_of-self
invariant_of-self c =
    let added = c.self.inside.added.items in
    solver_with added added c.self.inside.empty c.self.inside.engine c.clash.new.self c.self.invariant refl
    (c.clash.ensures.engine added c.self.invariant.engine)

pub returns-in_err-units_log-in-Some-clause-quiet : goal.returns-in_err-units_log-in-Some-clause-quiet
returns-in_err-units_log-in-Some-clause-quiet c =
    quiet_to c.clash.new.self.propagator.links c.clash.new.self.propagator.trail.steps.items c.clash.ensures.quiet

pub invariant_of-self-in-Some : goal.invariant_of-self-in-Some
invariant_of-self-in-Some c =
    let added = c.self.inside.added.items in
    solver_with added added c.self.inside.empty c.self.inside.engine c.clash.new.self c.self.invariant refl
    (c.clash.ensures.engine added c.self.invariant.engine)

pub invariant_of-self-in-None : goal.invariant_of-self-in-None
invariant_of-self-in-None c =
    let added = c.self.inside.added.items in
    solver_with added added c.self.inside.empty c.self.inside.engine c.clash.new.self c.self.invariant refl
    (c.clash.ensures.engine added c.self.invariant.engine)

pub invariant_of-self-in-None-2 : goal.invariant_of-self-in-None-2
invariant_of-self-in-None-2 c =
    let s = c.self-in-None in
    solver_with s.inside.added.items s.inside.added.items s.inside.empty s.inside.engine c.reset.new.self s.invariant refl
    (c.reset.ensures.engine s.inside.added.items s.invariant.engine)

pub returns-in_ok-units_log-in-Some-clause-unsat : goal.returns-in_ok-units_log-in-Some-clause-unsat
returns-in_ok-units_log-in-Some-clause-unsat c =
    let log = c.in_ok-units_log-in-Some.field-0 in
    let same = c.as_slice-added.ensures.value ∙ ap (λ (v : Solving). v.clauses) c.self.view_is in
    let d = subst (λ (x : List (List Lit)). Derives (clauses_with_units x c.args.assumptions.now) log) same c.in_ok-units_log-in-Some.ensures.derives in
    c.derivations_refute.ensures c.args.self.now.vars (c.args.self.now.clauses ++ map unit_clause c.args.assumptions.now) log d

pub returns-in_ok-units_log-in-Some-clause-quiet : goal.returns-in_ok-units_log-in-Some-clause-quiet
returns-in_ok-units_log-in-Some-clause-quiet c =
    quiet_to c.clash.new.self.propagator.links c.clash.new.self.propagator.trail.steps.items c.clash.ensures.quiet

pub returns-in-None-clause-unsat : goal.returns-in-None-clause-unsat
returns-in-None-clause-unsat c =
    let log = subst (λ (l : List (List Lit)). IfOk c.decide-outcome.result
    (λ outcome. IfUnsat outcome (Derives (l ++ map unit_clause c.args.assumptions.now)))) (ap (λ (v : Solving). v.clauses) c.self.view_is)
    c.decide-outcome.ensures.log in
    refuted c.args.self.now.vars (c.args.self.now.clauses ++ map unit_clause c.args.assumptions.now) c.decide-outcome.result
    c.derivations_refute.ensures log

pub returns-in-None-clause-quiet : goal.returns-in-None-clause-quiet
returns-in-None-clause-quiet c =
    quiet_to c.reset.new.self.propagator.links c.reset.new.self.propagator.trail.steps.items c.reset.ensures.quiet
