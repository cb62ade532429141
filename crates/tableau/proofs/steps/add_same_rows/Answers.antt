use Rattle.std.proofs.Common.{◌++◌, ◌∙◌, List, sym, ap, arith}
use Rattle.cnf.specs.declared.lit.Lit.{Lit}
use Rattle.tableau.proofs.Fronts.{front_piece, piece_done, grown_on}
use Rattle.tableau.proofs.StepFronts.{rows_left}
use Rattle.tableau.proofs.steps.add_same_rows.Goals as goal

pub returns-in_err-add_same-clause-front : goal.returns-in_err-add_same-clause-front
returns-in_err-add_same-clause-front g c =
    front_piece _ _ _ _ _ _ c.loop-i.invariant.grown.0 c.loop-i.invariant.grown.1
    (ap (λ (l : List (List Lit)). g.B.ClauseBase.clauses c.loop-i.base ++ l)
    (sym (rows_left c.args.under c.args.row.now c.args.other.now c.loop-i.i _ _ (omega (arith, c.loop-i-test.true)) c.requires.count))
    ∙ c.loop-i.invariant.left) c.add_same.ensures.front

pub loop-i-preserved : goal.loop-i-preserved
loop-i-preserved g c = record {
  vars = c.add_same.ensures.vars ∙ c.loop-i.invariant.vars;
  grown = (_, grown_on _ _ _ c.loop-i.invariant.grown.0 _ c.loop-i.invariant.grown.1 c.in_ok-add_same.ensures.ok);
  left = piece_done _ _ _ _ _ c.in_ok-add_same.ensures.ok
      (ap (λ (l : List (List Lit)). g.B.ClauseBase.clauses c.loop-i.base ++ l)
      (sym (rows_left c.args.under c.args.row.now c.args.other.now c.loop-i.i _ _ (omega (arith, c.loop-i-test.true)) c.requires.count))
      ∙ c.loop-i.invariant.left);
}
