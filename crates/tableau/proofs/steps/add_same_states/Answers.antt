use Rattle.std.proofs.Common.{◌++◌, ◌∙◌, List, sym, ap, arith}
use Rattle.cnf.specs.declared.lit.Lit.{Lit}
use Rattle.tableau.proofs.Fronts.{front_piece, piece_done, grown_on}
use Rattle.tableau.proofs.StepFronts.{states_left, counts_match, row_known, rows_match}
use Rattle.tableau.proofs.steps.add_same_states.Goals as goal

pub add_same_rows-requires-clause-left : goal.add_same_rows-requires-clause-left
add_same_rows-requires-clause-left g c =
    row_known _ _ c.args.tableau.now.ports c.args.bits.now c.loop-i.i _ c.requires.left c.loop-i.invariant.vars c.row.ensures

pub add_same_rows-requires-clause-right : goal.add_same_rows-requires-clause-right
add_same_rows-requires-clause-right g c =
    row_known _ _ c.args.tableau.now.ports c.args.others.now c.loop-i.i _ c.requires.right c.loop-i.invariant.vars c.row-in-loop-i.ensures

pub add_same_rows-requires-clause-count : goal.add_same_rows-requires-clause-count
add_same_rows-requires-clause-count g c =
    rows_match _ c.args.tableau.now.ports c.args.bits.now c.args.others.now c.loop-i.i _ _ c.requires.left c.requires.right
    (omega (arith, c.loop-i-test.true)) c.row.ensures c.row-in-loop-i.ensures

pub returns-in_err-add_same_rows-clause-front : goal.returns-in_err-add_same_rows-clause-front
returns-in_err-add_same_rows-clause-front g c =
    front_piece _ _ _ _ _ _ c.loop-i.invariant.grown.0 c.loop-i.invariant.grown.1
    (ap (λ (l : List (List Lit)). g.B.ClauseBase.clauses c.loop-i.base ++ l)
    (sym (states_left c.args.under c.args.bits.now c.args.others.now c.loop-i.i _ _ (omega (arith, c.loop-i-test.true))
    (counts_match _ c.args.tableau.now.ports _ _ c.requires.left c.requires.right) c.row.ensures c.row-in-loop-i.ensures))
    ∙ c.loop-i.invariant.left) c.add_same_rows.ensures.front

pub loop-i-preserved : goal.loop-i-preserved
loop-i-preserved g c = record {
  vars = c.add_same_rows.ensures.vars ∙ c.loop-i.invariant.vars;
  grown = (_, grown_on _ _ _ c.loop-i.invariant.grown.0 _ c.loop-i.invariant.grown.1 c.in_ok-add_same_rows.ensures.ok);
  left = piece_done _ _ _ _ _ c.in_ok-add_same_rows.ensures.ok
      (ap (λ (l : List (List Lit)). g.B.ClauseBase.clauses c.loop-i.base ++ l)
      (sym (states_left c.args.under c.args.bits.now c.args.others.now c.loop-i.i _ _ (omega (arith, c.loop-i-test.true))
      (counts_match _ c.args.tableau.now.ports _ _ c.requires.left c.requires.right) c.row.ensures c.row-in-loop-i.ensures))
      ∙ c.loop-i.invariant.left);
}
