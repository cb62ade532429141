use Rattle.std.proofs.Common.{map, take}
use Rattle.connections.specs.LevelFormulas.{formulas_of_part}
use Rattle.core_ltl.specs.Nodes.{members}
use Rattle.levels.specs.Levels.{AreAllPartNodes}
use Rattle.levels.specs.Steps.{AddsFormulas, parts_formulas}
use Rattle.levels.proofs.building.add_parts.Given as goal

abbrev pub invariant-loop-part : goal.invariant-loop-part
invariant-loop-part l = record {
  added : AddsFormulas l.fn.closure l.closure (parts_formulas l.places (map formulas_of_part (take l.part-index l.parts)));
  nodes : AreAllPartNodes (members l.closure) l.places l.nodes.items (map formulas_of_part (take l.part-index l.parts));
}
