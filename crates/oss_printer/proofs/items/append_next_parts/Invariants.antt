use Rattle.std.proofs.Common.{◌≡◌, ◌++◌, take}
use Rattle.std.specs.List.{flat_map}
use Rattle.oss_printer.specs.Canonical.{next_part_text}
use Rattle.oss_printer.proofs.items.append_next_parts.Given as goal

abbrev pub invariant-loop-part : goal.invariant-loop-part
invariant-loop-part l = l.text ≡ l.fn.text ++ flat_map next_part_text (take l.part-index l.parts)
