use Rattle.std.proofs.Common.{map, subst, ap, refl, ◌∙◌}
use Rattle.std.specs.List.{flat_map}
use Rattle.std.proofs.lemmas.List.{take_all}
use Rattle.oss_syntax.specs.Trees.{item_tree, component_trees}
use Rattle.spec_names.specs.Directory.{AreInterfaces}
use Rattle.spec_names.specs.NamesFaults.{interface_faults}
use Rattle.spec_names.specs.Noting.{noted}
use Rattle.spec_names.specs.Whole.{faults_of_interface}
use Rattle.spec_names.proofs.NotingFacts.{flat_step}
use Rattle.spec_names.proofs.WholeFacts.{interfaces_step, none_to_come}
use Rattle.spec_names.proofs.directory.all_interfaces.Goals as goal

pub loop-component-preserved : goal.loop-component-preserved
loop-component-preserved c = record {
  interfaces =
      interfaces_step c.args.components.now c.loop-component.component-index c.component-item.result c.as_slice.result.now c.loop-component.all.items
      c.push.new.self.items c.in_ok-tables.tables
      c.loop-component-test.true c.component-item.is c.as_slice.ensures c.in_ok-push.ensures.items c.in_ok-tables.ensures.tables
      c.loop-component.invariant.interfaces;
  noted =
      flat_step faults_of_interface c.args.components.now c.loop-component.component-index c.component-item.result c.loop-component.first
      c.interface_tables.new.first _
      c.loop-component-test.true c.component-item.is
      (c.in_ok-tables.ensures.noted ∙ ap (λ items. noted (interface_faults (map item_tree items)) c.loop-component.first) c.as_slice.ensures)
      c.loop-component.invariant.noted;
}

pub returns-clause-interfaces : goal.returns-clause-interfaces
returns-clause-interfaces c =
    subst (λ cs. AreInterfaces (component_trees cs) c.loop-component.all.items)
    (take_all c.loop-component.component-index c.args.components.now c.loop-component-test.false) c.loop-component.invariant.interfaces

pub returns-clause-noted : goal.returns-clause-noted
returns-clause-noted c =
    none_to_come (flat_map faults_of_interface) c.args.components.now c.loop-component.component-index c.loop-component.first _ refl
    c.loop-component-test.false c.loop-component.invariant.noted
