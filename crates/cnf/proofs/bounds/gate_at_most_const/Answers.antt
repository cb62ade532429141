use Rattle.std.proofs.Common.{◌∙◌, ap, refl, arith}
use Rattle.cnf.specs.Gates.{literal}
use Rattle.cnf.proofs.GateSteps.{All_later, gate_grows_whole}
use Rattle.cnf.proofs.ListLaws.{new_var_grows}
use Rattle.cnf.proofs.BoundLaws.{at_most_begun, at_most_go_on, at_most_whole, at_most_const_means, at_most_const_fits}
use Rattle.cnf.proofs.bounds.gate_at_most_const.Goals as goal

pub returns-in_err-push-clause-grows : goal.returns-in_err-push-clause-grows
returns-in_err-push-clause-grows g c = new_var_grows _ _ _ _ c.in_ok-new_var.ensures.ok c.new_var.ensures.clauses

pub returns-in_err-push-2-clause-grows : goal.returns-in_err-push-2-clause-grows
returns-in_err-push-2-clause-grows g c = new_var_grows _ _ _ _ c.in_ok-new_var.ensures.ok c.new_var.ensures.clauses

pub add_place-requires-clause-lit : goal.add_place-requires-clause-lit
add_place-requires-clause-lit g c = c.lit_down-lit.ensures.known _ (All_later _ _ c.args.row.now (omega (arith, c.loop-i.invariant.vars)) c.requires.known)

pub returns-in_err-add_place-clause-grows : goal.returns-in_err-add_place-clause-grows
returns-in_err-add_place-clause-grows g c =
    at_most_begun _ _ _ (g.B.ClauseBase.clauses c.loop-i.base) _ c.args.row.now c.args.bound.now c.loop-i.invariant.added.0 _ c.requires.same c.requires.known
    (c.add_place.ensures.vars ∙ c.loop-i.invariant.vars) c.loop-i.invariant.added.1 c.loop-i.invariant.added.2 c.in_err-add_place.ensures.err

pub loop-i-preserved : goal.loop-i-preserved
loop-i-preserved g c = record {
  vars = c.add_place.ensures.vars ∙ c.loop-i.invariant.vars;
  greater = All_later _ _ _ (omega (arith, c.loop-i.invariant.vars)) c.in_ok-add_place.ensures.greater;
  less = All_later _ _ _ (omega (arith, c.loop-i.invariant.vars)) c.in_ok-add_place.ensures.less;
  added = at_most_go_on c.loop-i.i _ (g.B.ClauseBase.clauses c.loop-i.base) _ _ c.loop-i.greater.items c.loop-i.less.items _ _ _ _
      c.lit_down-lit.result c.bit_down-set.result c.loop-i.invariant.added.0 c.in_ok-add_place.ensures.ok.0
      c.lit_down-lit.ensures.at c.bit_down-set.ensures c.loop-i.invariant.added.1 c.loop-i.invariant.added.2 c.in_ok-add_place.ensures.ok.1
      c.in_ok-add_place.ensures.ok.2;
}

pub returns-in_err-add-clause-grows : goal.returns-in_err-add-clause-grows
returns-in_err-add-clause-grows g c =
    at_most_begun _ _ _ (g.B.ClauseBase.clauses c.loop-i.base) _ c.args.row.now c.args.bound.now c.loop-i.invariant.added.0 _ c.requires.same c.requires.known
    (c.add.ensures.vars ∙ c.loop-i.invariant.vars) c.loop-i.invariant.added.1 c.loop-i.invariant.added.2 c.in_err-add.ensures.err

pub returns-clause-clauses : goal.returns-clause-clauses
returns-clause-clauses g c =
    at_most_whole _ c.loop-i.i _ (g.B.ClauseBase.clauses c.loop-i.base) _ c.args.row.now c.args.bound.now c.loop-i.greater.items c.loop-i.less.items
    c.loop-i.invariant.added.0
    c.loop-i-test.false c.loop-i.invariant.added.1 c.loop-i.invariant.added.2 (rw c.deref.ensures.value at c.in_ok-add.ensures.ok)

pub returns-clause-value : goal.returns-clause-value
returns-clause-value g c =
    at_most_const_means _ _ _ _ c.args.row.now c.args.bound.now _ c.requires.same c.requires.known (c.add.ensures.vars ∙ c.loop-i.invariant.vars)
    (returns-clause-clauses g c)
    (ap literal c.in_ok-new_var.ensures.number)

pub returns-clause-grows : goal.returns-clause-grows
returns-clause-grows g c =
    gate_grows_whole _ _ _ _ _ (at_most_const_fits _ c.args.row.now c.args.bound.now c.requires.same c.requires.known)
    (c.add.ensures.vars ∙ c.loop-i.invariant.vars) (returns-clause-clauses g c)
