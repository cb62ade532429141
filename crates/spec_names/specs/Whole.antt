-- All components of a specification, one after the other (serves proofs only).
use Rattle.std.specs.Prelude.{◌≡◌, List, map, flat_map, Option}
use Rattle.oss_base.specs.declared.sites.FaultSite.{FaultSite}
use Rattle.oss_syntax.specs.declared.words.Word.{Word}
use Rattle.oss_syntax.specs.declared.component.TreeComponent.{TreeComponent}
use Rattle.oss_syntax.specs.Trees.{Component, item_tree}
use Rattle.spec_names.specs.declared.refinements.RefinementTables.{RefinementTables}
use Rattle.spec_names.specs.NamesFaults.{interface_faults, refinement_faults}
use Rattle.spec_names.specs.Noting.{noted}
use Rattle.spec_names.specs.Directory.{AreRefinements}
use Rattle.spec_names.specs.Scopes.{refinement_parts}

abbrev pub names_in : List Component → List Word
names_in components = map (λ (c : Component). c.name) components

abbrev pub faults_of_interface : TreeComponent → List FaultSite
faults_of_interface c = interface_faults (map item_tree c.interface)

abbrev pub faults_of_refinement : List Component → Component → List FaultSite
faults_of_refinement components c = refinement_faults components c.interface (refinement_parts c)

-- the tables of all refinements are made, and their faults are noted
pub record AreRefinementsNoted (components : List Component) (tables : List RefinementTables)
    (old new : Option FaultSite) : Type 0 where
  pub made : AreRefinements components components tables
  pub noted : new ≡ noted (flat_map (faults_of_refinement components) components) old
