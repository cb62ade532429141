use Rattle.std.proofs.Common.{◌≡◌, ◌≤◌, [], length, map, sym, ap, subst, ◌∙◌}
use Rattle.oss_base.specs.Sites.{first_of}
use Rattle.oss_syntax.specs.declared.component.TreeComponent.{TreeComponent}
use Rattle.oss_syntax.specs.Trees.{component_trees}
use Rattle.spec_names.specs.Containment.{inner_of, leads_word}
use Rattle.spec_names.specs.Directory.{IsDirectoryOf}
use Rattle.spec_names.specs.declared.directory.Directory.{Directory}
use Rattle.spec_names.specs.Enumerators.{Indexes}
use Rattle.spec_names.specs.NamesFaults.{containment_from, names_faults}
use Rattle.spec_names.specs.Noting.{noted}
use Rattle.strong_components.specs.Strong.{IsInside}
use Rattle.spec_names.specs.Whole.{names_in}
use Rattle.spec_names.proofs.ContainmentFacts.{graph_inside}
use Rattle.spec_names.proofs.EnumeratorFacts.{indexes}
use Rattle.spec_names.proofs.Gathered.{Gathered, first_is, directory_is, gathered_count}
use Rattle.spec_names.proofs.TableLemmas.{table_along}
use Rattle.spec_names.proofs.WholeFacts.{names_are}
use Rattle.spec_names.proofs.directory.names_of.Goals as goal

pub all_refinements-requires-clause-names : goal.all_refinements-requires-clause-names
all_refinements-requires-clause-names c =
    table_along (map (λ (k : TreeComponent). k.name) c.as_slice-components.result.now) (names_in (component_trees c.as_slice-components.result.now))
    c.in_ok-names.names
    (names_are c.as_slice-components.result.now) c.in_ok-names.ensures.table

pub all_refinements-requires-clause-index : goal.all_refinements-requires-clause-index
all_refinements-requires-clause-index c =
    subst (λ list. Indexes list c.in_ok-index.index) (sym c.as_slice.ensures.value)
    (indexes (component_trees c.as_slice-components.result.now) c.in_ok-interfaces.interfaces.items c.in_ok-index.index
    c.in_ok-interfaces.ensures.interfaces c.in_ok-index.ensures)

pub ranks_of-requires : goal.ranks_of-requires
ranks_of-requires c =
    subst (λ g. IsInside g) (sym (c.as_slice-3.ensures.value ∙ (c.in_ok-graph.ensures ∙ ap (map inner_of) c.as_slice-2.ensures.value)))
    (graph_inside (component_trees c.as_slice-components.result.now) c.in_ok-refinements.refinements.items c.in_ok-refinements.ensures.made)

pub note_containment-requires : goal.note_containment-requires
note_containment-requires c =
    subst (λ list. length c.as_slice-components.result.now ≤ length list) (sym c.as_slice-4.ensures.value)
    (gathered_count c.as_slice-components.result.now
    (record {
      components = c.in_ok-names.names;
      interfaces = c.in_ok-interfaces.interfaces;
      refinements = c.in_ok-refinements.refinements;
      ranks =
          c.in_ok-ranks.ranks;
    })
    c.as_slice-3.result.now c.all_interfaces.new.first c.all_refinements.new.first c.in_ok-refinements.ensures
    (c.as_slice-3.ensures.value ∙ (c.in_ok-graph.ensures ∙ ap (map inner_of) c.as_slice-2.ensures.value)) c.in_ok-ranks.ensures)

pub returns-in-Some : goal.returns-in-Some
returns-in-Some c =
    let comps = c.as_slice-components.result.now in
    let d : Directory = record {
      components = c.in_ok-names.names;
      interfaces = c.in_ok-interfaces.interfaces;
      refinements = c.in_ok-refinements.refinements;
      ranks = c.in_ok-ranks.ranks;
    } in
    let have : Gathered c.args.end comps d c.as_slice-3.result.now c.new-first.result c.component_table.new.first c.all_interfaces.new.first
    c.all_refinements.new.first c.note_containment.new.first =
    record {
      start_is = c.new-first.ensures;
      table = c.in_ok-names.ensures.table;
      named_is = c.in_ok-names.ensures.noted;
      interfaces = c.in_ok-interfaces.ensures.interfaces;
      faced_is = c.in_ok-interfaces.ensures.noted;
      refinements = c.in_ok-refinements.ensures;
      graph_is = c.as_slice-3.ensures.value ∙ (c.in_ok-graph.ensures ∙ ap (map inner_of) c.as_slice-2.ensures.value);
      ranks = c.in_ok-ranks.ensures;
      last_is = c.note_containment.ensures ∙ ap (λ list. noted (containment_from (leads_word c.in_ok-names.names list) 0 (component_trees comps))
          c.all_refinements.new.first) c.as_slice-4.ensures.value;
    } in
    let first = first_is c.args.end comps d c.as_slice-3.result.now c.new-first.result c.component_table.new.first c.all_interfaces.new.first
    c.all_refinements.new.first c.note_containment.new.first have c.first_of_both.ensures in
    ap (λ cs. first_of (names_faults c.args.end (component_trees cs))) (sym c.as_slice-components.ensures) ∙ (sym first ∙ (sym c.get.ensures ∙ c.in-Some.is))

pub returns-in-None : goal.returns-in-None
returns-in-None c =
    let comps = c.as_slice-components.result.now in
    let d : Directory = record {
      components = c.in_ok-names.names;
      interfaces = c.in_ok-interfaces.interfaces;
      refinements = c.in_ok-refinements.refinements;
      ranks = c.in_ok-ranks.ranks;
    } in
    let have : Gathered c.args.end comps d c.as_slice-3.result.now c.new-first.result c.component_table.new.first c.all_interfaces.new.first
    c.all_refinements.new.first c.note_containment.new.first =
    record {
      start_is = c.new-first.ensures;
      table = c.in_ok-names.ensures.table;
      named_is = c.in_ok-names.ensures.noted;
      interfaces = c.in_ok-interfaces.ensures.interfaces;
      faced_is = c.in_ok-interfaces.ensures.noted;
      refinements = c.in_ok-refinements.ensures;
      graph_is = c.as_slice-3.ensures.value ∙ (c.in_ok-graph.ensures ∙ ap (map inner_of) c.as_slice-2.ensures.value);
      ranks = c.in_ok-ranks.ensures;
      last_is = c.note_containment.ensures ∙ ap (λ list. noted (containment_from (leads_word c.in_ok-names.names list) 0 (component_trees comps))
          c.all_refinements.new.first) c.as_slice-4.ensures.value;
    } in
    let first = first_is c.args.end comps d c.as_slice-3.result.now c.new-first.result c.component_table.new.first c.all_interfaces.new.first
    c.all_refinements.new.first c.note_containment.new.first have c.first_of_both.ensures in
    let none = (c.first_is_least.ensures.none (names_faults c.args.end (component_trees comps))).0 (sym first ∙ (sym c.get.ensures ∙ c.in-None.is)) in
    let directory = directory_is c.args.end comps d c.as_slice-3.result.now c.new-first.result c.component_table.new.first c.all_interfaces.new.first
    c.all_refinements.new.first c.note_containment.new.first have none in
    subst (λ cs. (names_faults c.args.end (component_trees cs) ≡ []) × IsDirectoryOf (component_trees cs) d) c.as_slice-components.ensures (none, directory)
