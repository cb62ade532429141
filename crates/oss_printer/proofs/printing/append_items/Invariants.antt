use Rattle.std.proofs.Common.{◌≡◌, ◌++◌, take}
use Rattle.std.specs.List.{flat_map}
use Rattle.oss_printer.specs.Lines.{item_line}
use Rattle.oss_printer.proofs.printing.append_items.Given as goal

abbrev pub invariant-loop-item : goal.invariant-loop-item
invariant-loop-item l = l.text ≡ l.fn.text ++ flat_map item_line (take l.item-index l.items)
