use Rattle.std.proofs.Common.{◌∙◌, ◌+◌, refl, drop, get_or}
use Rattle.clause_log.specs.Derivations.{clauses_by_number}
use Rattle.clause_log.specs.Members.{marked_lits}
use Rattle.clause_log.proofs.StepLaws.{no_pivot, rest_at, step_refused, step_goes_on, steps_done}
use Rattle.clause_log.proofs.checking.take_steps.Goals as goal

pub returns-then-not-resolve-clause-no : goal.returns-then-not-resolve-clause-no
returns-then-not-resolve-clause-no c = λ h clause leads.
    step_refused (clauses_by_number c.args.cnf.now c.args.log.now) (marked_lits c.loop-step.set) c.in-Some.clause.now
    (drop c.loop-step.step-index c.args.steps.now) (drop (c.loop-step.step-index + 1) c.args.steps.now)
    (get_or c.args.steps.now c.loop-step.step-index no_pivot) clause
    (rest_at c.args.steps.now c.loop-step.step-index no_pivot c.loop-step-test.true) c.in-Some.ensures.1 (c.if-not-resolve.ensures.no refl)
    ((c.loop-step.invariant.leads clause).0 leads)

pub loop-step-preserved : goal.loop-step-preserved
loop-step-preserved c = record {
  vars = c.resolve.ensures.vars ∙ c.loop-step.invariant.vars;
  leads = λ clause.
      step_goes_on (clauses_by_number c.args.cnf.now c.args.log.now) (marked_lits c.args.set.now) (marked_lits c.loop-step.set)
      (marked_lits c.resolve.new.set) c.in-Some.clause.now c.args.steps.now
      (drop c.loop-step.step-index c.args.steps.now) (drop (c.loop-step.step-index + 1) c.args.steps.now)
      (get_or c.args.steps.now c.loop-step.step-index no_pivot) clause
      (rest_at c.args.steps.now c.loop-step.step-index no_pivot c.loop-step-test.true) c.in-Some.ensures.0 c.in-Some.ensures.1
      (c.if-not-resolve.ensures.yes refl) (c.loop-step.invariant.leads clause);
}

pub returns-clause-yes : goal.returns-clause-yes
returns-clause-yes c = λ h clause.
    steps_done (clauses_by_number c.args.cnf.now c.args.log.now) (marked_lits c.args.set.now)
    (marked_lits c.loop-step.set) c.args.steps.now c.loop-step.step-index clause c.loop-step-test.false (c.loop-step.invariant.leads clause)
