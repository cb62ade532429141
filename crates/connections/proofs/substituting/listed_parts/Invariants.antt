use Rattle.std.proofs.Common.{◌≡◌, take, map}
use Rattle.connections.specs.LevelFormulas.{formulas_of_part, part_over_free}
use Rattle.connections.proofs.substituting.listed_parts.Given as goal

abbrev pub invariant-loop-part : goal.invariant-loop-part
invariant-loop-part l = map formulas_of_part l.made.items ≡ map (part_over_free l.spec l.c) (take l.part-index l.parts)
