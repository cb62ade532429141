use Rattle.std.proofs.Common.{◌≡◌, ◌+◌, ◌-◌, ◌∙◌, sym, ap, arith, length}
use Rattle.cnf.specs.declared.lit.Lit.{Lit}
use Rattle.cnf.specs.Gates.{literal}
use Rattle.cnf.proofs.ModelLaws.{IsConservative_trans}
use Rattle.cnf.proofs.GateSteps.{All_later, le_goes_on, le_ends, le_means, positive_at}
use Rattle.cnf.proofs.arithmetic.gate_le.Goals as goal

pub gate_and-requires-clause-left : goal.gate_and-requires-clause-left
gate_and-requires-clause-left g c = (c.comparison_pair.ensures.known _ c.requires.left c.requires.right).0

pub gate_and-requires-clause-right : goal.gate_and-requires-clause-right
gate_and-requires-clause-right g c = rw c.negated-not_y.ensures (c.comparison_pair.ensures.known _ c.requires.left c.requires.right).1

pub gate_majority-requires-clause-first : goal.gate_majority-requires-clause-first
gate_majority-requires-clause-first g c =
    (c.comparison_pair-in-loop-place.ensures.known _
    (All_later _ _ c.args.a.now c.loop-place.invariant.grows.vars c.requires.left)
    (All_later _ _ c.args.b.now c.loop-place.invariant.grows.vars c.requires.right)).0

pub gate_majority-requires-clause-second : goal.gate_majority-requires-clause-second
gate_majority-requires-clause-second g c =
    rw c.negated-not_y-in-loop-place.ensures
    (c.comparison_pair-in-loop-place.ensures.known _
    (All_later _ _ c.args.a.now c.loop-place.invariant.grows.vars c.requires.left)
    (All_later _ _ c.args.b.now c.loop-place.invariant.grows.vars c.requires.right)).1

pub returns-in_err-greater-2-clause-grows : goal.returns-in_err-greater-2-clause-grows
returns-in_err-greater-2-clause-grows g c = IsConservative_trans _ _ _ _ _ _ c.loop-place.invariant.grows c.gate_majority.ensures.grows

pub loop-place-preserved : goal.loop-place-preserved
loop-place-preserved g c = record {
  vars = omega (arith, c.in_ok-greater-2.ensures.vars, c.loop-place.invariant.vars);
  greater = ap (λ (l : Lit). l.var + 1) c.in_ok-greater-2.ensures.answer ∙ sym c.in_ok-greater-2.ensures.vars;
  positive = c.in_ok-greater-2.ensures.answer ∙ ap (λ (l : Lit). literal l.var) (sym c.in_ok-greater-2.ensures.answer);
  clauses = le_goes_on _ _ (g.B.ClauseBase.clauses c.loop-place.base) _ _ _ _ c.comparison_pair-in-loop-place.result.0
      c.comparison_pair-in-loop-place.result.1 c.negated-not_y-in-loop-place.result c.loop-place.greater c.in_ok-greater-2.greater
      c.comparison_pair-in-loop-place.ensures.bits c.negated-not_y-in-loop-place.ensures c.in_ok-greater-2.ensures.vars
      c.in_ok-greater-2.ensures.answer c.in_ok-greater-2.ensures.clauses c.loop-place.invariant.clauses;
  grows = IsConservative_trans _ _ _ _ _ _ c.loop-place.invariant.grows c.gate_majority.ensures.grows;
}

pub returns-clause-clauses : goal.returns-clause-clauses
returns-clause-clauses g c = le_ends _ _ _ _ _ c.args.a.now c.args.b.now c.requires.same c.loop-place-test.false c.loop-place.invariant.clauses

pub returns-clause-value : goal.returns-clause-value
returns-clause-value g c =
    let whole : c.loop-place.place ≡ length c.args.a.now = omega (arith, c.loop-place-test.false, c.requires.some) in
    let em : g.B.ClauseBase.vars c.loop-place.base ≡ g.B.ClauseBase.vars c.args.base.now + length c.args.a.now = c.loop-place.invariant.vars ∙ ap
    (λ k. g.B.ClauseBase.vars c.args.base.now + k) whole in
    let at : c.loop-place.greater.var ≡ g.B.ClauseBase.vars c.args.base.now + length c.args.a.now - 1 = omega (arith, em, c.loop-place.invariant.greater) in
    le_means _ _ _ _ c.args.a.now c.args.b.now _ c.loop-place.greater
    (record { same = c.requires.same; some = c.requires.some; left = c.requires.left; right = c.requires.right }) em
    (positive_at _ _ c.loop-place.invariant.positive at)
    c.negated.ensures
    (le_ends _ _ _ _ _ c.args.a.now c.args.b.now c.requires.same c.loop-place-test.false c.loop-place.invariant.clauses)
