use Rattle.std.proofs.Common.{◌≡◌, ◌++◌, drop}
use Rattle.architecture.specs.Assembling.{items_by, IsAt}
use Rattle.architecture.proofs.items.items_of.Given as goal

abbrev pub invariant-loop-place : goal.invariant-loop-place
invariant-loop-place l = record {
  put : l.items ++ items_by l.bytes l.directory l.place (drop l.place l.components) ≡ items_by l.bytes l.directory 0 l.components;
  at : IsAt l.bytes l.cursor;
}
