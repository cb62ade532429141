use Rattle.std.proofs.Common.{◌∙◌, sym}
use Rattle.cnf.proofs.ModelLaws.{IsConservative_trans}
use Rattle.state_coding.proofs.SumSteps.{wide_rows, places_at}
use Rattle.state_coding.proofs.AtomSteps.{rows_some}
use Rattle.state_coding.proofs.compare.code_equal.Goals as goal

pub code_same_rows-requires-clause-same : goal.code_same_rows-requires-clause-same
code_same_rows-requires-clause-same g c =
    let some = rows_some c.args.x.now c.args.y.now (sym c.compares_rows.ensures ∙ c.if-compares_rows.true) in
    (wide_rows (g.B.ClauseBase.vars c.args.base.now) c.args.x.now.row c.args.y.now.row c.as_slice.result.now c.as_slice-then-compares_rows.result.now
    (places_at _ _ _ _ _ _ _ _ c.in_ok-a.ensures c.row.ensures c.row-then-compares_rows.ensures c.as_slice.ensures
    c.as_slice-then-compares_rows.ensures)
    some.0 some.1 c.requires.left c.requires.right).same

pub code_same_rows-requires-clause-left : goal.code_same_rows-requires-clause-left
code_same_rows-requires-clause-left g c =
    let some = rows_some c.args.x.now c.args.y.now (sym c.compares_rows.ensures ∙ c.if-compares_rows.true) in
    (wide_rows (g.B.ClauseBase.vars c.args.base.now) c.args.x.now.row c.args.y.now.row c.as_slice.result.now c.as_slice-then-compares_rows.result.now
    (places_at _ _ _ _ _ _ _ _ c.in_ok-a.ensures c.row.ensures c.row-then-compares_rows.ensures c.as_slice.ensures
    c.as_slice-then-compares_rows.ensures)
    some.0 some.1 c.requires.left c.requires.right).left

pub code_same_rows-requires-clause-right : goal.code_same_rows-requires-clause-right
code_same_rows-requires-clause-right g c =
    let some = rows_some c.args.x.now c.args.y.now (sym c.compares_rows.ensures ∙ c.if-compares_rows.true) in
    (wide_rows (g.B.ClauseBase.vars c.args.base.now) c.args.x.now.row c.args.y.now.row c.as_slice.result.now c.as_slice-then-compares_rows.result.now
    (places_at _ _ _ _ _ _ _ _ c.in_ok-a.ensures c.row.ensures c.row-then-compares_rows.ensures c.as_slice.ensures
    c.as_slice-then-compares_rows.ensures)
    some.0 some.1 c.requires.left c.requires.right).right

pub returns-clause-grows : goal.returns-clause-grows
returns-clause-grows g c = IsConservative_trans _ _ _ _ _ _ c.difference.ensures.grows c.code_is_const.ensures.grows
