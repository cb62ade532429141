use Rattle.std.proofs.Common.{◌≡◌, ℕ, ◌∙◌, ◌*◌, ◌+◌, ◌++◌, sym, subst, ap, length, arith}
use Rattle.tableau.specs.TableauStates.{fairness}
use Rattle.tableau.specs.Copies.{copy_coding}
use Rattle.counter_cert.specs.StepClauses.{step_over}
use Rattle.counter_cert.proofs.Added.{step_whole}
use Rattle.counter_cert.proofs.StepModels.{built_models}
use Rattle.counter_cert.proofs.step.step_cnf.Goals as goal

pub returns-clause-clauses : goal.returns-clause-clauses
returns-clause-clauses c =
    let t = c.args.tab.now in
    let first = copy_coding t 0 in
    step_whole t c.args.k c.as_slice-entries.result.now first (copy_coding t first.vars) c.in_ok-pair.pair.from c.in_ok-pair.pair.to
    c.add_pair.new.cnf.clauses c.add_firsts.new.cnf.clauses c.add_met.new.cnf.clauses c.add_unmet.new.cnf.clauses
    c.add_pair.new.cnf.vars c.in_ok-firsts.firsts.over c.in_ok-firsts.firsts.met c.in_ok-firsts.firsts.over_next c.add_met.new.cnf.vars
    c.in_ok-firsts.firsts.most c.in_ok-pair.ensures.from c.in_ok-pair.ensures.to c.in_ok-pair.ensures.vars c.in_ok-pair.ensures.clauses
    c.add_firsts.ensures.clauses c.in_ok-add_met.ensures.clauses c.in_ok-add_unmet.ensures.clauses
    (c.in_ok-firsts.ensures.most ∙ ap (λ (x : ℕ). c.args.k * x) c.conditions-conditions.ensures.conditions)
    c.in_ok-firsts.ensures.over
    (c.in_ok-firsts.ensures.met ∙ ap (λ (x : ℕ). c.in_ok-firsts.firsts.over + (x + 1)) (sym c.in_ok-firsts.ensures.most))
    (c.in_ok-firsts.ensures.next ∙ ap (λ (x : ℕ). c.in_ok-firsts.firsts.met + x) c.conditions-conditions.ensures.conditions)
    (c.in_ok-add_met.ensures.vars ∙ (c.in_ok-firsts.ensures.vars
    ∙ ap (λ (x : ℕ). c.in_ok-firsts.firsts.over_next + (x + 1)) (sym c.in_ok-firsts.ensures.most)))
    ∙ ap (λ xs. (step_over t c.args.k first (copy_coding t first.vars) xs).clauses) c.as_slice-entries.ensures

pub returns-clause-models : goal.returns-clause-models
returns-clause-models c =
    let t = c.args.tab.now in
    built_models t c.args.k c.args.cert.now c.add_pair.new.cnf.vars c.add_pair.new.cnf.clauses c.in_ok-pair.pair.from c.in_ok-pair.pair.to
    c.in_ok-pair.ensures.pair c.members.ensures.coded.closed
    (omega (arith, c.conditions-conditions.ensures.conditions, c.conditions-conditions.ensures.some)) c.requires.guards c.requires.bounds
    c.add_unmet.new.cnf c.as_slice-entries.result.now c.as_slice-entries.ensures c.add_firsts.new.cnf.clauses c.add_met.new.cnf.clauses
    c.in_ok-firsts.firsts.over c.in_ok-firsts.firsts.met c.in_ok-firsts.firsts.over_next c.add_met.new.cnf.vars c.in_ok-firsts.firsts.most
    (c.in_ok-firsts.ensures.most ∙ ap (λ (x : ℕ). c.args.k * x) c.conditions-conditions.ensures.conditions)
    c.in_ok-firsts.ensures.over
    (c.in_ok-firsts.ensures.met ∙ ap (λ (x : ℕ). c.in_ok-firsts.firsts.over + (x + 1)) (sym c.in_ok-firsts.ensures.most))
    (c.in_ok-firsts.ensures.next ∙ ap (λ (x : ℕ). c.in_ok-firsts.firsts.met + x) c.conditions-conditions.ensures.conditions)
    (c.in_ok-add_met.ensures.vars ∙ (c.in_ok-firsts.ensures.vars
    ∙ ap (λ (x : ℕ). c.in_ok-firsts.firsts.over_next + (x + 1)) (sym c.in_ok-firsts.ensures.most)))
    c.add_firsts.ensures.clauses c.in_ok-add_met.ensures.clauses c.in_ok-add_unmet.ensures.clauses c.in_ok-add_unmet.ensures.vars
