use Rattle.std.proofs.Common.{length}
use Rattle.oss_syntax.specs.Trees.{component_trees}
use Rattle.oss_reader.specs.Rules.{IsWhole, AtEnd}
use Rattle.oss_reader.specs.Reads.{ListsGoOnFrom}
use Rattle.oss_reader.specs.Ahead.{ahead}
use Rattle.oss_reader.proofs.component.components.Given as goal

-- what is read so far
abbrev pub invariant-each : goal.invariant-each
invariant-each l = ListsGoOnFrom IsWhole AtEnd (ahead l.terminals) (component_trees l.components) (ahead l.rest)

abbrev pub decreases-each : goal.decreases-each
decreases-each l = length (ahead l.rest)
