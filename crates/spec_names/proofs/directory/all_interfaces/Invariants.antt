use Rattle.std.proofs.Common.{◌≡◌, take, drop}
use Rattle.std.specs.List.{flat_map}
use Rattle.oss_syntax.specs.Trees.{component_trees}
use Rattle.spec_names.specs.Directory.{AreInterfaces}
use Rattle.spec_names.specs.Noting.{noted}
use Rattle.spec_names.specs.Whole.{faults_of_interface}
use Rattle.spec_names.proofs.directory.all_interfaces.Given as goal

abbrev pub invariant-loop-component : goal.invariant-loop-component
invariant-loop-component l = record {
  interfaces : AreInterfaces (component_trees (take l.component-index l.components)) l.all.items;
  noted : noted (flat_map faults_of_interface (drop l.component-index l.components)) l.first ≡ noted
      (flat_map faults_of_interface l.components) l.fn.first;
}
