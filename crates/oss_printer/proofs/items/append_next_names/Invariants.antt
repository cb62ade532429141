use Rattle.std.proofs.Common.{◌≡◌, ◌++◌, take}
use Rattle.std.specs.List.{flat_map}
use Rattle.oss_printer.specs.Canonical.{next_name_text}
use Rattle.oss_printer.proofs.items.append_next_names.Given as goal

abbrev pub invariant-loop-name : goal.invariant-loop-name
invariant-loop-name l = l.text ≡ l.fn.text ++ flat_map next_name_text (take l.name-index l.names)
