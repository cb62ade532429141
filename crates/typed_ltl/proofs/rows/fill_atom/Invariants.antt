use Rattle.std.proofs.Common.{get_or, []}
use Rattle.typed_ltl.specs.Formulas.{proposition_of}
use Rattle.typed_ltl.specs.Rows.{proposition_row}
use Rattle.typed_ltl.proofs.RowSteps.{Filled}
use Rattle.typed_ltl.proofs.rows.fill_atom.Given as goal

abbrev pub invariant-loop-i : goal.invariant-loop-i
invariant-loop-i l = Filled (proposition_row (proposition_of l.atom) (get_or l.states l.loop_at []) l.states) l.fn.cells l.cells l.i
