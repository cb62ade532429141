-- What was gathered of the names of a specification, and what follows: the first fault, or the directory.
use Rattle.std.proofs.Common.{◌≡◌, ℕ, ◌≤◌, List, [], ◌++◌, length, map, flat_map, Option, None, sym, ap, subst, ◌∙◌, arith}
use Rattle.std.proofs.lemmas.List.{length-map}
use Rattle.oss_base.specs.declared.fault.FaultKind.TheVariants.{F6}
use Rattle.oss_base.specs.declared.sites.FaultSite.{FaultSite}
use Rattle.oss_base.specs.Sites.{earlier_site, first_of}
use Rattle.oss_syntax.specs.declared.component.TreeComponent.{TreeComponent}
use Rattle.oss_syntax.specs.Trees.{Component, component_tree, component_trees}
use Rattle.spec_names.specs.declared.directory.Directory.{Directory}
use Rattle.spec_names.specs.Components.{system_faults}
use Rattle.spec_names.specs.Containment.{inner_of, leads_word}
use Rattle.spec_names.specs.Directory.{IsDirectoryOf, AreInterfaces}
use Rattle.spec_names.specs.NamesFaults.{again, same_name, start_of, containment_from, names_faults}
use Rattle.spec_names.specs.Noting.{noted}
use Rattle.strong_components.specs.Strong.{IsInside, IsRanking}
use Rattle.spec_names.specs.Tables.{IsPlaceTable}
use Rattle.spec_names.specs.Whole.{names_in, faults_of_interface, AreRefinementsNoted}
use Rattle.spec_names.proofs.ContainmentFacts.{graph_length, graph_inside, containment_is, ranks_fall}
use Rattle.spec_names.proofs.TableLemmas.{table_along}
use Rattle.spec_names.proofs.WholeFacts.{names_are, names_tell, all_noted, first_noted, no_containment}

-- the graph of the refinements' tables is inside itself
pub gathered_inside : (comps : List TreeComponent) (d : Directory) (graph : List (List ℕ)) (old new : Option FaultSite)
    → AreRefinementsNoted (component_trees comps) d.refinements.items old new → graph ≡ map inner_of d.refinements.items
    → IsInside graph
gathered_inside comps d graph old new refined is = subst (λ g. IsInside g) (sym is) (graph_inside (component_trees comps) d.refinements.items refined.made)

pub record Gathered (end : ℕ) (comps : List TreeComponent) (d : Directory) (graph : List (List ℕ)) (start named faced refined last : Option FaultSite) : Type
    0 where
  pub start_is : start ≡ None
  pub table : IsPlaceTable (map (λ (c : TreeComponent). c.name) comps) d.components
  pub named_is : named ≡ noted (again F6 same_name start_of (map (λ (c : TreeComponent). c.name) comps) ++ system_faults
      end comps) start
  pub interfaces : AreInterfaces (component_trees comps) d.interfaces.items
  pub faced_is : faced ≡ noted (flat_map faults_of_interface comps) named
  pub refinements : AreRefinementsNoted (component_trees comps) d.refinements.items faced refined
  pub graph_is : graph ≡ map inner_of d.refinements.items
  pub ranks : IsRanking graph d.ranks.items
  pub last_is : last ≡ noted (containment_from (leads_word d.components d.ranks.items) 0
      (component_trees comps)) refined

module _ (end : ℕ) (comps : List TreeComponent) (d : Directory) (graph : List (List ℕ)) (start named faced refined last : Option FaultSite)
    (have : Gathered end comps d graph start named faced refined last) where
  abbrev all : List Component
  all = component_trees comps

  table_is : IsPlaceTable (names_in all) d.components
  table_is = table_along (map (λ (c : TreeComponent). c.name) comps) (names_in all) d.components (names_are comps) have.table

  ranking : IsRanking (map inner_of d.refinements.items) d.ranks.items
  ranking = subst (λ g. IsRanking g d.ranks.items) have.graph_is have.ranks

  pub first_is : ((a b : List FaultSite) → first_of (a ++ b) ≡ earlier_site (first_of a) (first_of b))
      → last ≡ first_of (names_faults end all)
  first_is law =
      all_noted end comps named faced refined last
      (have.named_is ∙ ap (noted (again F6 same_name start_of (map (λ (c : TreeComponent). c.name) comps) ++ system_faults end comps)) have.start_is)
      have.faced_is have.refinements.noted
      (have.last_is ∙ ap (λ list. noted list refined)
      (containment_is all d.refinements.items have.refinements.made d.ranks.items ranking d.components (names_tell all d.components table_is)))
      ∙ first_noted law (names_faults end all)

  pub directory_is : names_faults end all ≡ [] → IsDirectoryOf all d
  directory_is none = record {
    names = names_tell all d.components table_is;
    interfaces = have.interfaces;
    refinements = have.refinements.made;
    ranks = ranks_fall all d.refinements.items have.refinements.made d.ranks.items ranking (no_containment end all none);
  }

-- there are ranks for all components
pub gathered_count : (comps : List TreeComponent) (d : Directory) (graph : List (List ℕ)) (old new : Option FaultSite)
    → AreRefinementsNoted (component_trees comps) d.refinements.items old new → graph ≡ map inner_of d.refinements.items
    → IsRanking graph d.ranks.items → length comps ≤ length d.ranks.items
gathered_count comps d graph old new refined is ranking =
    let a = ranking.count in
    let b : length graph ≡ length (component_trees comps) = ap length is ∙ graph_length (component_trees comps) d.refinements.items refined.made in
    let e = length-map comps component_tree in
    omega (arith, a, b, e)
