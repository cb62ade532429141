use Rattle.std.proofs.Common.{◌∙◌, ap, refl, arith}
use Rattle.cnf.specs.Gates.{literal}
use Rattle.cnf.proofs.GateSteps.{gate_grows_whole}
use Rattle.cnf.proofs.ListLaws.{new_var_grows, all_begun, all_fits, all_whole, all_gate_means, last_known}
use Rattle.cnf.proofs.lists.gate_all.Goals as goal

pub returns-in_err-push-clause-grows : goal.returns-in_err-push-clause-grows
returns-in_err-push-clause-grows g c = new_var_grows _ _ _ _ c.in_ok-new_var.ensures.ok c.new_var.ensures.clauses

pub returns-in_err-push-2-clause-grows : goal.returns-in_err-push-2-clause-grows
returns-in_err-push-2-clause-grows g c =
    all_begun _ _ c.loop-lit.lit-index _ (g.B.ClauseBase.clauses c.loop-lit.base) _ c.args.lits.now _ c.requires c.loop-lit.invariant.vars
    c.loop-lit.invariant.negated c.loop-lit.invariant.within c.loop-lit.invariant.clauses refl

pub returns-in_err-add-clause-grows : goal.returns-in_err-add-clause-grows
returns-in_err-add-clause-grows g c =
    all_begun _ _ c.loop-lit.lit-index _ (g.B.ClauseBase.clauses c.loop-lit.base) _ c.args.lits.now _ c.requires
    (c.add.ensures.vars ∙ c.loop-lit.invariant.vars) c.loop-lit.invariant.negated c.loop-lit.invariant.within c.loop-lit.invariant.clauses
    c.in_err-add.ensures.err

pub add-requires-2 : goal.add-requires-2
add-requires-2 g c = rw c.deref.ensures.value (last_known _ _ c.loop-lit.lit-index c.args.lits.now _ _ c.loop-lit.invariant.variable
    c.loop-lit.invariant.vars c.requires (omega (arith, c.loop-lit-test.false)) c.loop-lit.invariant.last)

pub returns-in_err-add-2-clause-grows : goal.returns-in_err-add-2-clause-grows
returns-in_err-add-2-clause-grows g c =
    all_begun _ _ c.loop-lit.lit-index _ (g.B.ClauseBase.clauses c.loop-lit.base) _ c.args.lits.now _ c.requires
    (c.add-2.ensures.vars ∙ c.loop-lit.invariant.vars) c.loop-lit.invariant.negated c.loop-lit.invariant.within c.loop-lit.invariant.clauses
    c.in_err-add-2.ensures.err

pub returns-clause-clauses : goal.returns-clause-clauses
returns-clause-clauses g c =
    all_whole _ c.loop-lit.lit-index _ (g.B.ClauseBase.clauses c.loop-lit.base) _ c.args.lits.now _ _ _ c.loop-lit.invariant.variable
    c.loop-lit.invariant.negated (omega (arith, c.loop-lit-test.false)) c.loop-lit.invariant.clauses
    c.loop-lit.invariant.last (rw c.deref.ensures.value at c.in_ok-add-2.ensures.ok)

pub returns-clause-value : goal.returns-clause-value
returns-clause-value g c =
    all_gate_means _ _ _ _ c.args.lits.now _ c.requires (c.add-2.ensures.vars ∙ c.loop-lit.invariant.vars)
    (returns-clause-clauses g c) c.loop-lit.invariant.variable

pub returns-clause-grows : goal.returns-clause-grows
returns-clause-grows g c = gate_grows_whole _ _ _ _ _ (all_fits _ c.args.lits.now c.requires) (c.add-2.ensures.vars ∙ c.loop-lit.invariant.vars)
    (returns-clause-clauses g c)
