use Rattle.std.proofs.Common.{◌≡◌, ℕ, ◌+◌, ◌-◌, ◌≤◌, List, length, ◌↔◌}
use Rattle.std.specs.Io.KnownBytes.{Consumes}
use Rattle.oss_io.proofs.reading.read_all.Given as goal

abbrev pub invariant-loop-piece : goal.invariant-loop-piece
invariant-loop-piece g l = record {
  read : Consumes (g.F.Shelf.held l.fn.shelf l.name) (g.F.Shelf.left l.shelf) l.bytes.items;
  held : (n : List ℕ) → g.F.Shelf.held l.shelf n ≡ g.F.Shelf.held l.fn.shelf n;
  admits : (n : List ℕ) → g.F.Shelf.admits l.fn.shelf n ↔ g.F.Shelf.admits l.shelf n;
  later : g.F.Shelf.faults l.fn.shelf ≤ g.F.Shelf.faults l.shelf;
}

abbrev pub decreases-loop-piece : goal.decreases-loop-piece
decreases-loop-piece g l = l.limit + 1 - length l.bytes.items
