use Rattle.std.proofs.Common.{◌≡◌, map, take}
use Rattle.strong_components.specs.StrongSearch.{class_of}
use Rattle.strong_components.proofs.strong.classes.Given as goal

abbrev pub invariant-loop-mark : goal.invariant-loop-mark
invariant-loop-mark l = l.list.items ≡ map class_of (take l.mark-index l.marks)
