use Rattle.std.proofs.Common.{◌≡◌, ◌++◌, take}
use Rattle.std.specs.List.{flat_map}
use Rattle.levels.specs.Steps.{part_reads}
use Rattle.levels.proofs.reading.put_parts.Given as goal

abbrev pub invariant-loop-part : goal.invariant-loop-part
invariant-loop-part l = l.ports.items ≡ l.fn.ports.items ++ flat_map part_reads (take l.part-index l.parts)
