-- All components of a specification, one after the other: the tables of all, and all faults.
use Rattle.std.proofs.Common.{◌≡◌, ℕ, suc, ◌+◌, ◌<◌, ◌≤◌, Bool, true, false, not, ◌&&◌, cond, List, [], ◌∷◌, ◌++◌, length, map, filter_map, flat_map, slice_get}
use Rattle.std.proofs.Common.{take, drop, get_or, option_map, Option, Some, None, is_none, refl, sym, ap, subst, ◌∙◌, append_assoc}
use Rattle.std.specs.List.{list_all}
use Rattle.std.specs.Option.{option_map_or}
use Rattle.std.proofs.lemmas.List.{append-nil}
use Rattle.std.proofs.lemmas.Option.{slice_get-map, slice_get_read}
use Rattle.std.proofs.Math.ListN.{drop_of_length-le}
use Rattle.std.proofs.lemmas.List.Folds.{flat_map-map}
use Rattle.oss_base.specs.declared.fault.FaultKind.TheVariants.{F6, F7, F8}
use Rattle.oss_base.specs.declared.place.Span.{Span}
use Rattle.oss_base.specs.declared.sites.FaultSite.{FaultSite}
use Rattle.oss_base.specs.Sites.{earlier_site, first_of}
use Rattle.oss_syntax.specs.declared.component.TreeComponent.{TreeComponent}
use Rattle.oss_syntax.specs.declared.interface.InterfaceItem.{InterfaceItem}
use Rattle.oss_syntax.specs.declared.refinement.RefinementItem.{RefinementItem}
use Rattle.oss_syntax.specs.Trees.{Component, component_tree, component_trees, item_tree, refinement_item_tree}
use Rattle.spec_names.specs.declared.interfaces.InterfaceTables.{InterfaceTables}
use Rattle.spec_names.specs.declared.refinements.RefinementTables.{RefinementTables}
use Rattle.spec_names.specs.Components.{system_faults}
use Rattle.spec_names.specs.Containment.{leads_word, inner_faults}
use Rattle.spec_names.specs.Directory.{AreRefinements, IsInterface, AreInterfaces, IsRefinementOf}
use Rattle.spec_names.specs.NamesFaults.{containment_of_part, containment_from, again, same_name, start_of, site, past, no_system, interface_faults}
use Rattle.spec_names.specs.NamesFaults.{refinement_faults, containment_faults, names_faults}
use Rattle.spec_names.specs.Noting.{noted, none_if}
use Rattle.spec_names.specs.Refinements.{Around, AreTablesOf, AreNoted, Fits, IsAround}
use Rattle.spec_names.specs.Scopes.{is_named, component_place, interface_at, refinement_parts}
use Rattle.spec_names.specs.Tables.{entry_place, IsPlaceTable}
use Rattle.spec_names.specs.Whole.{names_in, faults_of_interface, faults_of_refinement}
use Rattle.spec_names.proofs.Lists.{position-map, filter_map-map, map_taken, drop_here}
use Rattle.spec_names.proofs.NotingFacts.{noted_two, noted_step}
use Rattle.spec_names.proofs.ContainmentFacts.{append_empty}
use Rattle.spec_names.proofs.RefinementFacts.{interface_fits, refinement_is, refinement_noted}

-- one more component

pub interfaces_push : (cs : List Component) (ts : List InterfaceTables) (c : Component) (t : InterfaceTables)
    → AreInterfaces cs ts → IsInterface c.interface t → AreInterfaces (cs ++ c ∷ []) (ts ++ t ∷ [])
interfaces_push [] [] c t are is = (is, tt)
interfaces_push [] (x ∷ ts) c t are is = absurd are
interfaces_push (d ∷ cs) [] c t are is = absurd are
interfaces_push (d ∷ cs) (x ∷ ts) c t are is = (are.0, interfaces_push cs ts c t are.1 is)

pub refinements_push : (all cs : List Component) (ts : List RefinementTables) (c : Component) (t : RefinementTables)
    → AreRefinements all cs ts → IsRefinementOf all (refinement_parts c) t
    → AreRefinements all (cs ++ c ∷ []) (ts ++ t ∷ [])
refinements_push all [] [] c t are is = (is, tt)
refinements_push all [] (x ∷ ts) c t are is = absurd are
refinements_push all (d ∷ cs) [] c t are is = absurd are
refinements_push all (d ∷ cs) (x ∷ ts) c t are is = (are.0, refinements_push all cs ts c t are.1 is)

pub interfaces_length : (cs : List Component) (ts : List InterfaceTables) → AreInterfaces cs ts → length ts ≡ length cs
interfaces_length [] [] are = refl
interfaces_length [] (t ∷ ts) are = absurd are
interfaces_length (c ∷ cs) [] are = absurd are
interfaces_length (c ∷ cs) (t ∷ ts) are = ap suc (interfaces_length cs ts are.1)

-- the table of names tells the places of components
pub names_tell : (components : List Component) (names : List (List ℕ × ℕ)) → IsPlaceTable (names_in components) names
    → (text : List ℕ) → entry_place names text ≡ component_place components text
names_tell components names tells text = tells text ∙ position-map (is_named text) (λ (c : Component). c.name) components

-- the interface of the component at a place
own_interface : (all : List Component) (interfaces : List InterfaceTables) (place : ℕ) (c : Component)
    (own : InterfaceTables)
    → AreInterfaces all interfaces → slice_get all place ≡ Some c → slice_get interfaces place ≡ Some own
    → IsInterface c.interface own
own_interface all interfaces place c own are at own_at =
    let fits : Fits (interface_at all place) (Some own) = subst (λ o. Fits (interface_at all place) o) own_at (interface_fits all interfaces place are) in
    let same : interface_at all place ≡ c.interface = ap (λ (o : Option Component). option_map_or (λ (d : Component). d.interface) o []) at in
    subst (λ items. IsInterface items own) same fits

-- a component at a place, with the tables of its interface
pub record IsOwnInterface (all : List Component) (interfaces : List InterfaceTables) (place : ℕ) (c : Component)
    (own : InterfaceTables) : Type 0 where
  pub component : slice_get all place ≡ Some c
  pub tables : slice_get interfaces place ≡ Some own

pub one_refinement : (all : List Component) (place : ℕ) (c : Component) (s : Around) (items : List RefinementItem)
    (first now : Option FaultSite)
    → IsOwnInterface all s.interfaces place c s.own → IsPlaceTable (names_in all) s.components
    → AreInterfaces all s.interfaces → map refinement_item_tree items ≡ refinement_parts c
    → AreTablesOf s.components items s.subs → AreNoted s items first now
    → IsRefinementOf all (refinement_parts c) s.subs × (now ≡ noted (faults_of_refinement all c) first)
one_refinement all place c s items first now at tells are parts_are made is =
    let told = names_tell all s.components tells in
    let refinement = refinement_is s.components all items s.subs told made in
    let known : IsAround all c.interface (map refinement_item_tree items) s =
    record { names = told; own = own_interface all s.interfaces place c s.own are at.component at.tables; subs = refinement; interfaces = are } in (
      subst (λ ps. IsRefinementOf all ps s.subs) parts_are refinement,
      refinement_noted all c.interface items s first now known is ∙ ap (λ ps. noted (refinement_faults all c.interface ps) first) parts_are,
    )

-- components as they stand in the code

pub names_are : (cs : List TreeComponent) → map (λ (c : TreeComponent). c.name) cs ≡ map (λ (c : Component). c.name)
    (component_trees cs)
names_are [] = refl
names_are (c ∷ cs) = ap (λ list. c.name ∷ list) (names_are cs)

systems_are : (cs : List TreeComponent) → list_all (λ (c : TreeComponent). is_none c.system) cs ≡ list_all
    (λ (c : Component). is_none c.system) (component_trees cs)
systems_are [] = refl
systems_are (c ∷ cs) = ap (λ b. is_none c.system && b) (systems_are cs)

lack_is : (b : Bool) (s : FaultSite) → none_if (not b) s ≡ cond b (s ∷ []) []
lack_is true s = refl
lack_is false s = refl

pub system_faults_are : (end : ℕ) (cs : List TreeComponent)
    → system_faults end cs ≡ no_system end (component_trees cs) ++ past F8 (λ (span : Span). span.start) 1
    (filter_map (λ (c : Component). c.system) (component_trees cs))
system_faults_are end cs = λ j.
    (lack_is (list_all (λ (c : TreeComponent). is_none c.system) cs) (site F7 end) ∙ ap (λ b. cond b (site F7 end ∷ []) []) (systems_are cs)) j
    ++ past F8 (λ (span : Span). span.start) 1 (sym (filter_map-map (λ (c : Component). c.system) component_tree cs) j)

-- all faults, noted one part after the other
pub all_noted : (end : ℕ) (cs : List TreeComponent) (named interfaces refinements last : Option FaultSite)
    → named ≡ noted (again F6 same_name start_of (map (λ (c : TreeComponent). c.name) cs) ++ system_faults end cs) None
    → interfaces ≡ noted (flat_map faults_of_interface cs) named
    → refinements ≡ noted (flat_map (faults_of_refinement (component_trees cs)) (component_trees cs)) interfaces
    → last ≡ noted (containment_faults (component_trees cs)) refinements
    → last ≡ noted (names_faults end (component_trees cs)) None
all_noted end cs n i r last en ei er el =
    let all : List Component = component_trees cs in
    let inner : List FaultSite = containment_faults all in
    let parts : List FaultSite = flat_map (faults_of_refinement all) all in
    let faces : List FaultSite = flat_map (λ (c : Component). interface_faults c.interface) all in
    let second : List FaultSite = past F8 (λ (span : Span). span.start) 1 (filter_map (λ (c : Component). c.system) all) in
    let names : List FaultSite = again F6 same_name start_of (map (λ (c : Component). c.name) all) in
    let systems : List FaultSite = no_system end all ++ second in
    let named : n ≡ noted (names ++ systems) None =
    en ∙ (λ j. noted (again F6 same_name start_of (names_are cs j) ++ system_faults_are end cs j) None) in
    let faced : i ≡ noted faces n = ei ∙ ap (λ list. noted list n) (sym (flat_map-map (λ (c : Component). interface_faults c.interface) component_tree cs)) in
    noted_two (names ++ systems) (faces ++ (parts ++ inner)) None n last named
    (noted_two faces (parts ++ inner) n i last faced (noted_two parts inner i r last er el))
    ∙ ap (λ list. noted list None) (append_assoc names systems (faces ++ (parts ++ inner)) ∙ ap (λ list. names ++ list)
    (append_assoc (no_system end all) second (faces ++ (parts ++ inner))))

-- what is noted is the first
noted_first : ((a b : List FaultSite) → first_of (a ++ b) ≡ earlier_site (first_of a) (first_of b))
    → (ys xs : List FaultSite) → noted xs (first_of ys) ≡ first_of (ys ++ xs)
noted_first law ys [] = ap first_of (sym (append-nil ys))
noted_first law ys (x ∷ xs) =
    ap (noted xs) (sym (law ys (x ∷ []))) ∙ (noted_first law (ys ++ x ∷ []) xs ∙ ap first_of (append_assoc ys (x ∷ []) xs))

pub first_noted : ((a b : List FaultSite) → first_of (a ++ b) ≡ earlier_site (first_of a) (first_of b))
    → (xs : List FaultSite) → noted xs None ≡ first_of xs
first_noted law xs = noted_first law [] xs

-- where no name has a fault, no component contains itself
pub no_containment : (end : ℕ) (all : List Component) → names_faults end all ≡ [] → containment_faults all ≡ []
no_containment end all none =
    let second : List FaultSite = past F8 (λ (span : Span). span.start) 1 (filter_map (λ (c : Component). c.system) all) in
    let faces : List FaultSite = flat_map (λ (c : Component). interface_faults c.interface) all in
    let parts : List FaultSite = flat_map (faults_of_refinement all) all in
    (append_empty parts (containment_faults all)
    (append_empty faces (parts ++ containment_faults all)
    (append_empty second (faces ++ (parts ++ containment_faults all))
    (append_empty (no_system end all) (second ++ (faces ++ (parts ++ containment_faults all)))
    (append_empty (again F6 same_name start_of (map (λ (c : Component). c.name) all))
    (no_system end all ++ (second ++ (faces ++ (parts ++ containment_faults all)))) none).1).1).1).1).1

-- steps of the loops over components

pub component_at : (comps : List TreeComponent) (i : ℕ) (c : TreeComponent) → i < length comps → c ≡ get_or comps i c
    → slice_get (component_trees comps) i ≡ Some (component_tree c)
component_at comps i c l e = slice_get-map component_tree comps i ∙ ap (option_map component_tree) (slice_get_read comps (length comps) i c refl l e)

pub interfaces_step : (comps : List TreeComponent) (i : ℕ) (c : TreeComponent) (items : List InterfaceItem)
    (all new : List InterfaceTables)
    (tables : InterfaceTables)
    → i < length comps → c ≡ get_or comps i c → items ≡ c.interface → new ≡ all ++ tables ∷ []
    → IsInterface (map item_tree items) tables
    → AreInterfaces (component_trees (take i comps)) all → AreInterfaces (component_trees (take (i + 1) comps)) new
interfaces_step comps i c items all new tables l e same put is are =
    subst (λ list. AreInterfaces (component_trees (take (i + 1) comps)) list) (sym put)
    (subst (λ cs. AreInterfaces cs (all ++ tables ∷ [])) (sym (map_taken component_tree comps i c l e))
    (interfaces_push (component_trees (take i comps)) all (component_tree c) tables are (subst (λ list. IsInterface (map item_tree list) tables) same is)))

pub refinements_step : (comps : List TreeComponent) (i : ℕ) (c : TreeComponent) (all new : List RefinementTables)
    (tables : RefinementTables)
    → i < length comps → c ≡ get_or comps i c → new ≡ all ++ tables ∷ []
    → IsRefinementOf (component_trees comps) (refinement_parts (component_tree c)) tables
    → AreRefinements (component_trees comps) (component_trees (take i comps)) all
    → AreRefinements (component_trees comps) (component_trees (take (i + 1) comps)) new
refinements_step comps i c all new tables l e put is are =
    subst (λ list. AreRefinements (component_trees comps) (component_trees (take (i + 1) comps)) list) (sym put)
    (subst (λ cs. AreRefinements (component_trees comps) cs (all ++ tables ∷ [])) (sym (map_taken component_tree comps i c l e))
    (refinements_push (component_trees comps) (component_trees (take i comps)) all (component_tree c) tables are is))

pub refinement_faults_step : (comps : List TreeComponent) (i : ℕ) (c : TreeComponent)
    (first now whole : Option FaultSite)
    → i < length comps → c ≡ get_or comps i c → now ≡ noted
    (faults_of_refinement (component_trees comps) (component_tree c)) first
    → noted (flat_map (faults_of_refinement (component_trees comps)) (component_trees (drop i comps))) first ≡ whole
    → noted (flat_map (faults_of_refinement (component_trees comps)) (component_trees (drop (i + 1) comps))) now ≡ whole
refinement_faults_step comps i c first now whole l e is so =
    noted_step (flat_map (faults_of_refinement (component_trees comps)) (component_trees (drop i comps)))
    (faults_of_refinement (component_trees comps) (component_tree c))
    (flat_map (faults_of_refinement (component_trees comps)) (component_trees (drop (i + 1) comps))) first now whole
    (ap (λ cs. flat_map (faults_of_refinement (component_trees comps)) (component_trees cs)) (drop_here comps i c l e)) is so

pub inner_step : (names : List (List ℕ × ℕ)) (ranks : List ℕ) (comps : List TreeComponent) (own : ℕ) (c : TreeComponent)
    (items : List RefinementItem)
    (first now whole : Option FaultSite)
    → own < length comps → c ≡ get_or comps own c → map refinement_item_tree items ≡ refinement_parts (component_tree c)
    → now ≡ noted (flat_map (inner_faults names ranks own) items) first
    → noted (containment_from (leads_word names ranks) own (component_trees (drop own comps))) first ≡ whole
    → noted (containment_from (leads_word names ranks) (own + 1) (component_trees (drop (own + 1) comps))) now ≡ whole
inner_step names ranks comps own c items first now whole l e parts_are is so =
    let here : flat_map (inner_faults names ranks own) items ≡ flat_map (containment_of_part (leads_word names ranks own)) (refinement_parts (component_tree c))
    =
    sym (flat_map-map (containment_of_part (leads_word names ranks own)) refinement_item_tree items) ∙ ap
    (flat_map (containment_of_part (leads_word names ranks own)))
    parts_are in
    noted_step (containment_from (leads_word names ranks) own (component_trees (drop own comps)))
    (flat_map (containment_of_part (leads_word names ranks own)) (refinement_parts (component_tree c)))
    (containment_from (leads_word names ranks) (own + 1) (component_trees (drop (own + 1) comps))) first now whole
    (ap (λ cs. containment_from (leads_word names ranks) own (component_trees cs)) (drop_here comps own c l e)) (is ∙ ap (λ list. noted list first) here) so

-- nothing is left to note at the end
pub none_to_come : {X : Type 0} (F : List X → List FaultSite) (xs : List X) (i : ℕ) (first whole : Option FaultSite)
    → F [] ≡ [] → length xs ≤ i → noted (F (drop i xs)) first ≡ whole → first ≡ whole
none_to_come F xs i first whole nothing past so =
    ap (λ list. noted list first) (sym nothing) ∙ (ap (λ list. noted (F list) first) (sym (drop_of_length-le xs past)) ∙ so)
