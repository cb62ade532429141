use Rattle.std.proofs.Common.{◌+◌, ◌-◌, ◌∙◌, length, arith}
use Rattle.cnf.proofs.ModelLaws.{IsConservative_trans}
use Rattle.state_coding.specs.States.{var_row}
use Rattle.state_coding.proofs.CodeLaws.{var_row-within}
use Rattle.state_coding.proofs.RowLaws.{opposites-within}
use Rattle.state_coding.proofs.AtomSteps.{known_later, place_at, differ_go_on, alike_go_on, differ_end, alike_end, same_rows_coded}
use Rattle.state_coding.proofs.compare.code_same_rows.Goals as goal

pub gate_xor-requires-clause-left : goal.gate_xor-requires-clause-left
gate_xor-requires-clause-left g c =
    known_later _ _ c.args.a.now (omega (arith, c.loop-i.invariant.vars)) c.requires.left c.loop-i.i _ (omega (arith, c.loop-i-test.true))

pub gate_xor-requires-clause-right : goal.gate_xor-requires-clause-right
gate_xor-requires-clause-right g c =
    known_later _ _ c.args.b.now (omega (arith, c.loop-i.invariant.vars)) c.requires.right c.loop-i.i _
    (omega (arith, c.loop-i-test.true, c.requires.same))

pub returns-in_err-differ-clause-grows : goal.returns-in_err-differ-clause-grows
returns-in_err-differ-clause-grows g c = IsConservative_trans _ _ _ _ _ _ c.loop-i.invariant.grows c.gate_xor.ensures.grows

pub returns-in_err-push-clause-grows : goal.returns-in_err-push-clause-grows
returns-in_err-push-clause-grows g c = IsConservative_trans _ _ _ _ _ _ c.loop-i.invariant.grows c.gate_xor.ensures.grows

pub loop-i-preserved : goal.loop-i-preserved
loop-i-preserved g c = record {
  vars = omega (arith, c.loop-i.invariant.vars, c.in_ok-differ.ensures.vars, c.loop-i-test.true);
  alike = alike_go_on _ _ (length c.args.a.now - c.loop-i.i) (length c.args.a.now - (c.loop-i.i + 1)) c.loop-i.alike.items _ _ _ _
      (omega (arith, c.loop-i-test.true)) c.in_ok-push.ensures.items c.negated.ensures c.in_ok-differ.ensures.answer c.in_ok-differ.ensures.vars
      c.loop-i.invariant.alike;
  clauses = differ_go_on _ _ (g.B.ClauseBase.clauses c.loop-i.base) _ _ _ _ _ _ _ _
      (place_at c.args.a.now c.loop-i.i _ (omega (arith, c.loop-i-test.true)))
      (place_at c.args.b.now c.loop-i.i _ (omega (arith, c.loop-i-test.true, c.requires.same)))
      c.in_ok-differ.ensures.vars c.in_ok-differ.ensures.clauses c.loop-i.invariant.clauses;
  grows = IsConservative_trans _ _ _ _ _ _ c.loop-i.invariant.grows c.gate_xor.ensures.grows;
}

pub gate_all-requires : goal.gate_all-requires
gate_all-requires g c =
    rw (
      c.deref.ensures.value,
      alike_end (g.B.ClauseBase.vars c.loop-i.base) (length c.args.a.now - c.loop-i.i) c.loop-i.alike.items _
          (omega (arith, c.loop-i-test.false)) c.loop-i.invariant.alike,
    )
    (opposites-within (g.B.ClauseBase.vars c.loop-i.base) (var_row (g.B.ClauseBase.vars c.args.base.now) (length c.args.a.now))
    (var_row-within (g.B.ClauseBase.vars c.loop-i.base) (g.B.ClauseBase.vars c.args.base.now) (length c.args.a.now)
    (omega (arith, c.loop-i.invariant.vars, c.loop-i-test.false))))

pub returns-in_err-lit-clause-grows : goal.returns-in_err-lit-clause-grows
returns-in_err-lit-clause-grows g c = IsConservative_trans _ _ _ _ _ _ c.loop-i.invariant.grows c.gate_all.ensures.grows

pub returns-clause-grows : goal.returns-clause-grows
returns-clause-grows g c = IsConservative_trans _ _ _ _ _ _ c.loop-i.invariant.grows c.gate_all.ensures.grows

pub returns-clause-coded : goal.returns-clause-coded
returns-clause-coded g c =
    same_rows_coded (g.B.ClauseBase.vars c.args.base.now) _ (g.B.ClauseBase.vars c.loop-i.base) (g.B.ClauseBase.clauses c.args.base.now)
    (g.B.ClauseBase.clauses c.loop-i.base) _ c.args.a.now c.args.b.now c.deref.result.now c.in_ok-lit.lit
    (omega (arith, c.loop-i.invariant.vars, c.loop-i-test.false))
    (differ_end _ c.loop-i.i _ _ c.args.a.now c.args.b.now (omega (arith, c.loop-i-test.false)) c.loop-i.invariant.clauses)
    (c.deref.ensures.value ∙ alike_end (g.B.ClauseBase.vars c.loop-i.base) (length c.args.a.now - c.loop-i.i) c.loop-i.alike.items _
    (omega (arith, c.loop-i-test.false)) c.loop-i.invariant.alike)
    c.in_ok-lit.ensures.vars c.in_ok-lit.ensures.clauses c.in_ok-lit.ensures.answer
