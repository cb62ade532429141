use Rattle.std.proofs.Common.{◌≡◌, map, take}
use Rattle.spec_names.specs.Containment.{inner_of}
use Rattle.spec_names.proofs.containment.containment_graph.Given as goal

abbrev pub invariant-loop-tables : goal.invariant-loop-tables
invariant-loop-tables l = l.graph.items ≡ map inner_of (take l.tables-index l.refinements)
