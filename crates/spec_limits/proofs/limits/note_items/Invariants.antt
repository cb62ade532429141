use Rattle.std.proofs.Common.{◌≡◌, drop}
use Rattle.std.specs.List.{flat_map}
use Rattle.spec_names.specs.Noting.{noted}
use Rattle.spec_limits.specs.Counting.{item_parts_past}
use Rattle.spec_limits.proofs.limits.note_items.Given as goal

abbrev pub invariant-loop-item : goal.invariant-loop-item
invariant-loop-item l = noted (flat_map item_parts_past (drop l.item-index l.items)) l.first ≡ noted (flat_map item_parts_past l.items) l.fn.first
