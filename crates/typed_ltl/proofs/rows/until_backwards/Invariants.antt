use Rattle.std.proofs.Common.{◌≡◌, ◌≤◌, length, get_or}
use Rattle.typed_ltl.specs.Rows.{until_back}
use Rattle.typed_ltl.proofs.RowSteps.{Settled}
use Rattle.typed_ltl.proofs.rows.until_backwards.Given as goal

abbrev pub invariant-loop-i : goal.invariant-loop-i
invariant-loop-i l = record {
  within : l.i ≤ length l.fn.cells;
  cells : Settled (until_back l.after l.fn.cells l.rights) l.fn.cells l.cells l.i;
  holds : l.holds ≡ get_or (until_back l.after l.fn.cells l.rights) l.i l.after;
}

abbrev pub decreases-loop-i : goal.decreases-loop-i
decreases-loop-i l = l.i
