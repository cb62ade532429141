use Rattle.std.proofs.Common.{◌≡◌, ◌≤◌, false, length, get_or}
use Rattle.typed_ltl.specs.Rows.{then_row}
use Rattle.typed_ltl.proofs.RowSteps.{Settled}
use Rattle.typed_ltl.proofs.rows.shift.Given as goal

abbrev pub invariant-loop-i : goal.invariant-loop-i
invariant-loop-i l = record {
  within : l.i ≤ length l.fn.cells;
  cells : Settled (then_row l.loop_at l.fn.cells) l.fn.cells l.cells l.i;
  later : l.later ≡ get_or l.fn.cells l.i (get_or l.fn.cells l.loop_at false);
}

abbrev pub decreases-loop-i : goal.decreases-loop-i
decreases-loop-i l = l.i
