use Rattle.std.proofs.Common.{◌++◌, ◌∙◌, List, sym, ap, arith}
use Rattle.cnf.specs.declared.lit.Lit.{Lit}
use Rattle.tableau.proofs.Fronts.{front_piece, piece_done, grown_on}
use Rattle.tableau.proofs.StepFronts.{nexts_left, operand_at}
use Rattle.tableau.proofs.steps.add_nexts.Goals as goal

pub add_next-requires-clause-operand : goal.add_next-requires-clause-operand
add_next-requires-clause-operand g c = λ k e.
    c.requires.operands c.loop-i.i k (operand_at c.args.nodes.now c.loop-i.i _ k (omega (arith, c.loop-i-test.true)) e)

pub returns-in_err-add_next-clause-front : goal.returns-in_err-add_next-clause-front
returns-in_err-add_next-clause-front g c =
    front_piece _ _ _ _ _ _ c.loop-i.invariant.grown.0 c.loop-i.invariant.grown.1
    (ap (λ (l : List (List Lit)). g.B.ClauseBase.clauses c.loop-i.base ++ l)
    (sym (nexts_left c.args.pair.under c.args.pair.from.now c.args.pair.to.now c.args.nodes.now c.loop-i.i _ (omega (arith, c.loop-i-test.true))))
    ∙ c.loop-i.invariant.left) c.add_next.ensures.front

pub loop-i-preserved : goal.loop-i-preserved
loop-i-preserved g c = record {
  vars = c.add_next.ensures.vars ∙ c.loop-i.invariant.vars;
  grown = (_, grown_on _ _ _ c.loop-i.invariant.grown.0 _ c.loop-i.invariant.grown.1 c.in_ok-add_next.ensures.ok);
  left = piece_done _ _ _ _ _ c.in_ok-add_next.ensures.ok
      (ap (λ (l : List (List Lit)). g.B.ClauseBase.clauses c.loop-i.base ++ l)
      (sym (nexts_left c.args.pair.under c.args.pair.from.now c.args.pair.to.now c.args.nodes.now c.loop-i.i _ (omega (arith, c.loop-i-test.true))))
      ∙ c.loop-i.invariant.left);
}
