use Rattle.std.proofs.Common.{◌≡◌, length, subst, refl, ◌∙◌, arith}
use Rattle.std.specs.List.{flat_map}
use Rattle.std.proofs.lemmas.List.{length-map, take_all}
use Rattle.oss_syntax.specs.Trees.{component_tree, component_trees}
use Rattle.spec_names.specs.Directory.{AreRefinements}
use Rattle.spec_names.specs.Refinements.{Around}
use Rattle.spec_names.specs.Whole.{faults_of_refinement}
use Rattle.spec_names.proofs.WholeFacts.{interfaces_length, component_at, one_refinement, refinements_step, refinement_faults_step, none_to_come}
use Rattle.spec_names.proofs.directory.all_refinements.Goals as goal

pub interface_at-own-requires : goal.interface_at-own-requires
interface_at-own-requires c =
    let e : length c.args.interfaces.now ≡ length c.args.components.now =
    interfaces_length (component_trees c.args.components.now) c.args.interfaces.now c.requires.interfaces ∙ length-map c.args.components.now component_tree in
    omega (arith, e)

pub loop-place-preserved : goal.loop-place-preserved
loop-place-preserved c =
    let around : Around =
    record {
      components = c.args.names.now;
      own = c.interface_at-own.result.now;
      subs = c.in_ok-tables.tables;
      interfaces = c.args.interfaces.now;
    } in
    let one =
    one_refinement (component_trees c.args.components.now) c.loop-place.place (component_tree c.index-components-place.result) around
    c.refinement_items-items.result.now c.loop-place.first c.refinement_tables.new.first
    (record {
      component =
          component_at c.args.components.now c.loop-place.place c.index-components-place.result c.loop-place-test.true c.index-components-place.is;
      tables = c.interface_at-own.ensures;
    })
    c.requires.names c.requires.interfaces c.refinement_items-items.ensures c.in_ok-tables.ensures.tables c.in_ok-tables.ensures.noted in
    record {
      made =
          refinements_step c.args.components.now c.loop-place.place c.index-components-place.result c.loop-place.all.items c.push.new.self.items
          c.in_ok-tables.tables
          c.loop-place-test.true c.index-components-place.is c.in_ok-push.ensures.items one.0 c.loop-place.invariant.made;
      noted =
          refinement_faults_step c.args.components.now c.loop-place.place c.index-components-place.result c.loop-place.first c.refinement_tables.new.first _
          c.loop-place-test.true c.index-components-place.is one.1 c.loop-place.invariant.noted;
    }

pub returns : goal.returns
returns c = record {
  made =
      subst (λ cs. AreRefinements (component_trees c.args.components.now) (component_trees cs) c.loop-place.all.items)
      (take_all c.loop-place.place c.args.components.now c.loop-place-test.false) c.loop-place.invariant.made;
  noted =
      none_to_come (λ cs. flat_map (faults_of_refinement (component_trees c.args.components.now)) (component_trees cs)) c.args.components.now c.loop-place.place
      c.loop-place.first _
      refl c.loop-place-test.false c.loop-place.invariant.noted;
}
