use Rattle.std.proofs.Common.{◌+◌, ◌*◌, ◌∙◌, ap, arith}
use Rattle.state_coding.proofs.SumSteps.{wide_rows, both_added}
use Rattle.state_coding.proofs.sums.plus_rows.Goals as goal

pub adder-requires-clause-some : goal.adder-requires-clause-some
adder-requires-clause-some g c =
    (wide_rows (g.B.ClauseBase.vars c.args.base.now) c.args.a.now c.args.b.now c.as_slice.result.now c.as_slice-2.result.now
    (record { left = c.as_slice.ensures ∙ c.in_ok-a.ensures.left; right = c.as_slice-2.ensures ∙ c.in_ok-a.ensures.right })
    (omega (arith, c.if-a-eq0.false)) (omega (arith, c.if-b-eq0.false)) c.requires.left c.requires.right).some

pub adder-requires-clause-same : goal.adder-requires-clause-same
adder-requires-clause-same g c =
    (wide_rows (g.B.ClauseBase.vars c.args.base.now) c.args.a.now c.args.b.now c.as_slice.result.now c.as_slice-2.result.now
    (record { left = c.as_slice.ensures ∙ c.in_ok-a.ensures.left; right = c.as_slice-2.ensures ∙ c.in_ok-a.ensures.right })
    (omega (arith, c.if-a-eq0.false)) (omega (arith, c.if-b-eq0.false)) c.requires.left c.requires.right).same

pub adder-requires-clause-left : goal.adder-requires-clause-left
adder-requires-clause-left g c =
    (wide_rows (g.B.ClauseBase.vars c.args.base.now) c.args.a.now c.args.b.now c.as_slice.result.now c.as_slice-2.result.now
    (record { left = c.as_slice.ensures ∙ c.in_ok-a.ensures.left; right = c.as_slice-2.ensures ∙ c.in_ok-a.ensures.right })
    (omega (arith, c.if-a-eq0.false)) (omega (arith, c.if-b-eq0.false)) c.requires.left c.requires.right).left

pub adder-requires-clause-right : goal.adder-requires-clause-right
adder-requires-clause-right g c =
    (wide_rows (g.B.ClauseBase.vars c.args.base.now) c.args.a.now c.args.b.now c.as_slice.result.now c.as_slice-2.result.now
    (record { left = c.as_slice.ensures ∙ c.in_ok-a.ensures.left; right = c.as_slice-2.ensures ∙ c.in_ok-a.ensures.right })
    (omega (arith, c.if-a-eq0.false)) (omega (arith, c.if-b-eq0.false)) c.requires.left c.requires.right).right

pub returns-clause-added : goal.returns-clause-added
returns-clause-added g c =
    both_added (g.B.ClauseBase.vars c.args.base.now) _ _ _ c.args.a.now c.args.b.now c.as_slice.result.now c.as_slice-2.result.now c.in_ok-sum.sum
    (omega (arith, c.if-a-eq0.false)) (omega (arith, c.if-b-eq0.false))
    (record { left = c.as_slice.ensures ∙ c.in_ok-a.ensures.left; right = c.as_slice-2.ensures ∙ c.in_ok-a.ensures.right })
    c.in_ok-sum.ensures.answer
    (c.in_ok-sum.ensures.vars ∙ ap (λ k. g.B.ClauseBase.vars c.args.base.now + 3 * k)
    (wide_rows (g.B.ClauseBase.vars c.args.base.now) c.args.a.now c.args.b.now c.as_slice.result.now c.as_slice-2.result.now
    (record { left = c.as_slice.ensures ∙ c.in_ok-a.ensures.left; right = c.as_slice-2.ensures ∙ c.in_ok-a.ensures.right })
    (omega (arith, c.if-a-eq0.false)) (omega (arith, c.if-b-eq0.false)) c.requires.left c.requires.right).width)
    c.in_ok-sum.ensures.clauses
