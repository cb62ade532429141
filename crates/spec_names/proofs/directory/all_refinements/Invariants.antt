use Rattle.std.proofs.Common.{◌≡◌, take, drop}
use Rattle.std.specs.List.{flat_map}
use Rattle.oss_syntax.specs.Trees.{component_trees}
use Rattle.spec_names.specs.Noting.{noted}
use Rattle.spec_names.specs.Directory.{AreRefinements}
use Rattle.spec_names.specs.Whole.{faults_of_refinement}
use Rattle.spec_names.proofs.directory.all_refinements.Given as goal

abbrev pub invariant-loop-place : goal.invariant-loop-place
invariant-loop-place l = record {
  made : AreRefinements (component_trees l.components) (component_trees (take l.place l.components)) l.all.items;
  noted : noted (flat_map (faults_of_refinement (component_trees l.components))
      (component_trees (drop l.place l.components))) l.first
      ≡ noted (flat_map (faults_of_refinement (component_trees l.components)) (component_trees l.components)) l.fn.first;
}
