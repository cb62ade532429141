use Rattle.std.proofs.Common.{ℕ, ◌≤◌, ◌<◌, length, get_or}
use Rattle.strong_components.proofs.strong.join_segments.Given as goal

abbrev pub decreases-scan : goal.decreases-scan
decreases-scan l = l.kept

abbrev pub invariant-scan : goal.invariant-scan
invariant-scan l = record {
  within : l.kept ≤ length l.bounds.items;
  gone : (a : ℕ) → l.kept ≤ a → a < length l.bounds.items → l.place < get_or l.bounds.items a 0;
}
