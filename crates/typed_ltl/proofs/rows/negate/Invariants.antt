use Rattle.typed_ltl.specs.Rows.{not_row}
use Rattle.typed_ltl.proofs.RowSteps.{Filled}
use Rattle.typed_ltl.proofs.rows.negate.Given as goal

abbrev pub invariant-loop-cell : goal.invariant-loop-cell
invariant-loop-cell l = Filled (not_row l.fn.cells) l.fn.cells l.cells l.cell-index
