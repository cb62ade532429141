use Rattle.std.proofs.Common.{◌≡◌, map, take}
use Rattle.architecture.specs.Assembling.{part_in}
use Rattle.architecture.proofs.items.parts_of.Given as goal

abbrev pub invariant-loop-part : goal.invariant-loop-part
invariant-loop-part l = l.parts ≡ map (part_in l.directory l.number) (take l.part-index l.listed)
