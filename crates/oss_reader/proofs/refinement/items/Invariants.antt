use Rattle.std.proofs.Common.{map, length}
use Rattle.oss_syntax.specs.Items.{IsRefinementItem}
use Rattle.oss_syntax.specs.Trees.{refinement_item_tree}
use Rattle.oss_reader.specs.Rules.{NoRefinementItem}
use Rattle.oss_reader.specs.Reads.{ListsGoOnFrom}
use Rattle.oss_reader.specs.Ahead.{ahead}
use Rattle.oss_reader.proofs.refinement.items.Given as goal

-- what is read so far
abbrev pub invariant-each : goal.invariant-each
invariant-each l = ListsGoOnFrom IsRefinementItem NoRefinementItem (ahead l.terminals) (map refinement_item_tree l.items) (ahead l.rest)

abbrev pub decreases-each : goal.decreases-each
decreases-each l = length (ahead l.rest)
