use Rattle.architecture.specs.Assembling.{item_in, IsAt}
use Rattle.architecture.proofs.Building.{Put}
use Rattle.architecture.proofs.items.put_items.Given as goal

abbrev pub invariant-loop-item : goal.invariant-loop-item
invariant-loop-item l = record {
  put : Put (item_in l.bytes l.directory l.place) l.written l.fn.items l.items l.item-index;
  at : IsAt l.bytes l.cursor;
}
