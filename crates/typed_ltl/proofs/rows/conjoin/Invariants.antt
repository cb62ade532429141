use Rattle.typed_ltl.specs.Rows.{and_row}
use Rattle.typed_ltl.proofs.RowSteps.{Filled}
use Rattle.typed_ltl.proofs.rows.conjoin.Given as goal

abbrev pub invariant-loop-i : goal.invariant-loop-i
invariant-loop-i l = Filled (and_row l.fn.cells l.others) l.fn.cells l.cells l.i
