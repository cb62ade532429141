use Rattle.std.proofs.Common.{take}
use Rattle.oss_syntax.specs.Trees.{component_trees}
use Rattle.spec_names.specs.Enumerators.{IsIndex, IsIndexOf}
use Rattle.spec_names.proofs.enumerators.enumerator_index.Given as goal

abbrev pub invariant-loop-place : goal.invariant-loop-place
invariant-loop-place l = record {
  index : IsIndex l.index;
  told : IsIndexOf (component_trees (take l.place l.components)) l.index;
}
