use Rattle.std.proofs.Common.{◌≡◌, ◌++◌, take}
use Rattle.std.specs.List.{flat_map}
use Rattle.oss_printer.specs.Lines.{next_component_line}
use Rattle.oss_printer.proofs.printing.append_next_components.Given as goal

abbrev pub invariant-loop-component : goal.invariant-loop-component
invariant-loop-component l = l.text ≡ l.fn.text ++ flat_map next_component_line (take l.component-index l.components)
