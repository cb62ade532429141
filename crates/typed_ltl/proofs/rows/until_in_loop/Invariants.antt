use Rattle.std.proofs.Common.{◌≡◌, ◌≤◌, false, length, get_or}
use Rattle.typed_ltl.specs.Rows.{until_back}
use Rattle.typed_ltl.proofs.rows.until_in_loop.Given as goal

abbrev pub invariant-loop-i : goal.invariant-loop-i
invariant-loop-i l = record {
  within : l.i ≤ length l.lefts;
  above : l.loop_at ≤ l.i;
  holds : l.holds ≡ get_or (until_back false l.lefts l.rights) l.i false;
}

abbrev pub decreases-loop-i : goal.decreases-loop-i
decreases-loop-i l = l.i
