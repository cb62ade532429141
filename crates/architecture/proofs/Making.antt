-- What is made by the tables of names is what the tree stands for.
use Rattle.std.proofs.Common.{◌≡◌, ℕ, zero, suc, ◌+◌, Bool, true, false, ◌&&◌, ◌||◌, if◌then◌else◌, List, [], ◌∷◌, ◌++◌, map, filter_map, position, slice_get}
use Rattle.std.proofs.Common.{Option, Some, None, is_some, is_none}
use Rattle.std.proofs.Common.{option_map, option_and_then, unwrap_or, refl, ap, subst, ◌∙◌, arith}
use Rattle.std.proofs.lemmas.Bool.{false≢true, true≢false}
use Rattle.std.proofs.lemmas.Option.{slice_get-map}
use Rattle.std.specs.List.{list_all, list_any}
use Rattle.std.specs.Option.{option_map_or}
use Rattle.oss_base.specs.declared.fault.FaultKind.TheVariants.{F6, F7}
use Rattle.oss_base.specs.declared.place.Span.{Span}
use Rattle.oss_base.specs.declared.sites.FaultSite.{FaultSite}
use Rattle.oss_syntax.specs.Trees.{RefinementItemTree, Sub, Connection, Refined, Component, component_tree, component_trees}
use Rattle.oss_syntax.specs.declared.component.TreeComponent.{TreeComponent}
use Rattle.oss_syntax.specs.declared.words.PartWord.{PartWord}
use Rattle.spec_limits.specs.LimitFaults.{system_place}
use Rattle.spec_model.specs.declared.contract.Contract.{Contract}
use Rattle.spec_model.specs.declared.port.OwnPort.{OwnPort}
use Rattle.spec_model.specs.declared.sub.Sub as spec_sub
use Rattle.spec_model.specs.declared.wire.Wire.{Wire}
use Rattle.spec_model.specs.Meanings.{contract_meaning, wire_meaning}
use Rattle.spec_names.specs.Directory.{AreInterfaces, IsRefinementOf, IsDirectoryOf}
use Rattle.spec_names.specs.NamesFaults.{names_faults, again, same_name, start_of, no_system, site}
use Rattle.spec_names.specs.Scopes.{SubDeclaration, sub_declaration, sub_declarations, refinement_parts, component_place, contract_place, interface_at}
use Rattle.spec_names.specs.Scopes.{declared_interface, sub_interface_at, part_meaning}
use Rattle.spec_names.specs.Tables.{entry_place}
use Rattle.spec_names.specs.declared.directory.Directory.{Directory}
use Rattle.spec_names.specs.declared.interfaces.InterfaceTables.{InterfaceTables}
use Rattle.spec_names.specs.declared.refinements.RefinementTables.{RefinementTables}
use Rattle.spec_names.proofs.Lists.{filter_map-option_map, position-any, position-map}
use Rattle.spec_names.proofs.TablesAt.{refinement_tables_at}
use Rattle.spec_types.specs.TreeComponents.{own_ports, tree_contracts, tree_wires}
use Rattle.architecture.specs.Standing.{component_meaning, place_or_first, tree_sub, tree_component, tree_part, part_ids, tree_item, tree_items_from}
use Rattle.architecture.specs.Assembling.{sub_by, components_by, named_contract, component_of_sub, contract_of_sub, part_by, part_in, refined_by, item_by}
use Rattle.architecture.specs.Assembling.{items_by, has_system}
use Rattle.architecture.proofs.Listing.{kept_same, both_empty}

-- subcomponents

module _ (names : List (List ℕ × ℕ)) (all : List Component)
    (tells : (text : List ℕ) → entry_place names text ≡ component_place all text) where
  sub_each : (p : RefinementItemTree) → sub_by names p ≡ option_map (tree_sub all) (sub_declaration p)
  sub_each (Sub name component) =
      ap (λ (o : Option ℕ). let made : spec_sub.Sub = record { name = name.text; component = record { 0 = place_or_first o } } in Some made)
      (tells component.text)
  sub_each (Connection target source) = refl
  sub_each (Refined name listed) = refl

  subs_made : (parts : List RefinementItemTree) → filter_map (sub_by names) parts ≡ map (tree_sub all)
      (sub_declarations parts)
  subs_made parts =
      kept_same (sub_by names) (λ p. option_map (tree_sub all) (sub_declaration p)) sub_each parts
      ∙ filter_map-option_map (tree_sub all) sub_declaration parts

  -- components

  pub components_made : (cs : List TreeComponent) (ps : List (List OwnPort)) (ks : List (List Contract))
      (ws : List (List Wire))
      → ps ≡ map (λ (c : Component). own_ports c.interface) (component_trees cs)
      → map (λ (list : List Contract). map contract_meaning list) ks ≡ map
      (λ (c : Component). tree_contracts c.interface) (component_trees cs)
      → map (λ (list : List Wire). map wire_meaning list) ws ≡ map (tree_wires all) (component_trees cs)
      → map component_meaning (components_by names cs ps ks ws) ≡ map (tree_component all) (component_trees cs)
  components_made [] ps ks ws ep ek ew = refl
  components_made (c ∷ cs) [] ks ws ep ek ew = cc
  components_made (c ∷ cs) (p ∷ ps) [] ws ep ek ew = cc
  components_made (c ∷ cs) (p ∷ ps) (k ∷ ks) [] ep ek ew = cc
  components_made (c ∷ cs) (p ∷ ps) (k ∷ ks) (w ∷ ws) ep ek ew =
      let rest = components_made cs ps ks ws (tails ep) (tails ek) (tails ew) in
      let ports = heads ep in
      let contracts = heads ek in
      let wires = heads ew in
      let subs = subs_made (refinement_parts (component_tree c)) in
      λ j. record { name = c.name.text; ports = ports j; contracts = contracts j; subs = subs j; wires = wires j } ∷ rest j
    where
      heads : {X : Type 0} {x y : X} {xs ys : List X} → x ∷ xs ≡ y ∷ ys → x ≡ y
      heads e = cc

      tails : {X : Type 0} {x y : X} {xs ys : List X} → x ∷ xs ≡ y ∷ ys → xs ≡ ys
      tails e = cc

-- contracts of interfaces

contracts_at : (cs : List Component) (ts : List InterfaceTables) → AreInterfaces cs ts → (place : ℕ) (text : List ℕ)
    → named_contract ts place text ≡ contract_place (interface_at cs place) text
contracts_at [] [] are zero text = refl
contracts_at [] [] are (suc place) text = refl
contracts_at [] (t ∷ ts) are place text = absurd are
contracts_at (c ∷ cs) [] are place text = absurd are
contracts_at (c ∷ cs) (t ∷ ts) are zero text = are.0.contracts text
contracts_at (c ∷ cs) (t ∷ ts) are (suc place) text = contracts_at cs ts are.1 place text

-- listed parts

module _ (all : List Component) (ts : List InterfaceTables) (are : AreInterfaces all ts) where
  declared_contract : (text : List ℕ) (o : Option ℕ)
      → option_and_then (λ (place : ℕ). named_contract ts place text) o ≡ contract_place
      (option_map_or (interface_at all) o []) text
  declared_contract text None = refl
  declared_contract text (Some place) = contracts_at all ts are place text

  sub_contract : (text : List ℕ) (o : Option SubDeclaration)
      → option_and_then (λ (place : ℕ). named_contract ts place text)
      (option_and_then (λ (place : Option ℕ). place) (option_map (λ (sub : SubDeclaration). component_place all sub.component.text) o))
      ≡ contract_place (option_map_or (λ (sub : SubDeclaration). declared_interface all sub.component.text) o []) text
  sub_contract text None = refl
  sub_contract text (Some sub) = declared_contract text (component_place all sub.component.text)

  module _ (parts : List RefinementItemTree) (t : RefinementTables) (is : IsRefinementOf all parts t) where
    component_is : (sub : ℕ) → component_of_sub t sub
        ≡ option_and_then (λ (place : Option ℕ). place)
        (option_map (λ (s : SubDeclaration). component_place all s.component.text) (slice_get (sub_declarations parts) sub))
    component_is sub =
        ap (option_and_then (λ (place : Option ℕ). place))
        (ap (λ list. slice_get list sub) is.places
        ∙ slice_get-map (λ (s : SubDeclaration). component_place all s.component.text) (sub_declarations parts) sub)

    contract_is : (text : List ℕ) (sub : ℕ) → contract_of_sub ts t text sub
        ≡ option_map (λ (contract : ℕ). (sub, contract)) (contract_place (sub_interface_at all parts sub) text)
    contract_is text sub =
        ap (option_map (λ (contract : ℕ). (sub, contract)))
        (ap (option_and_then (λ (place : ℕ). named_contract ts place text)) (component_is sub)
        ∙ sub_contract text (slice_get (sub_declarations parts) sub))

    part_is : (part : PartWord) → part_by ts t part ≡ part_meaning all parts part
    part_is part = λ j. option_and_then (λ sub. contract_is part.contract.text sub j) (is.subs part.sub.text j)

-- refined contracts

module _ (bytes : List ℕ) (all : List Component) (d : Directory) (is : IsDirectoryOf all d) where
  part_made : (number : ℕ) (c : Component) → slice_get all number ≡ Some c → (part : PartWord)
      → part_in d number part ≡ tree_part all c part
  part_made number c at part =
      let t = refinement_tables_at all all d.refinements.items number c is.refinements at in
      ap (λ (o : Option RefinementTables). part_ids (option_and_then (λ (tables : RefinementTables). part_by d.interfaces.items tables part) o)) t.1
      ∙ ap part_ids (part_is all d.interfaces.items is.interfaces (refinement_parts c) t.0 t.2 part)

  contract_made : (number : ℕ) (c : Component) → slice_get all number ≡ Some c → (text : List ℕ)
      → named_contract d.interfaces.items number text ≡ contract_place c.interface text
  contract_made number c at text =
      contracts_at all d.interfaces.items is.interfaces number text
      ∙ ap (λ (o : Option Component). contract_place (option_map_or (λ (k : Component). k.interface) o []) text) at

  item_made : (number : ℕ) (c : Component) → slice_get all number ≡ Some c → (p : RefinementItemTree)
      → item_by bytes d number p ≡ tree_item bytes all number c p
  item_made number c at (Sub name component) = refl
  item_made number c at (Connection target source) = refl
  item_made number c at (Refined name listed) =
      let contract = ap place_or_first (contract_made number c at name.text) in
      let parts : map (part_in d number) listed ≡ map (tree_part all c) listed =
      ap (λ (f : PartWord → _). map f listed) (λ j part. part_made number c at part j) in
      λ j. Some (record (refined_by bytes d number name listed) { contract = record { 0 = contract j }; parts = parts j })

  pub items_made : (number : ℕ) (cs : List TreeComponent)
      → ((k : ℕ) → slice_get all (number + k) ≡ slice_get (component_trees cs) k)
      → items_by bytes d number cs ≡ tree_items_from bytes all number (component_trees cs)
  items_made number [] at = refl
  items_made number (c ∷ cs) at =
      let here : slice_get all number ≡ Some (component_tree c) =
      (let none : number + 0 ≡ number = omega arith in subst (λ n. slice_get all n ≡ Some (component_tree c)) none (at 0)) in
      let rest = items_made (number + 1) cs
      (λ k. let more : number + suc k ≡ number + 1 + k = omega arith in subst (λ n. slice_get all n ≡ slice_get (component_trees cs) k) more (at (suc k))) in
      let first = kept_same (item_by bytes d number) (tree_item bytes all number (component_tree c)) (item_made number (component_tree c) here)
      (refinement_parts (component_tree c)) in
      λ j. first j ++ rest j

-- the system

some_has : (cs : List Component) → list_all (λ (c : Component). is_none c.system) cs ≡ false
    → list_any (λ (c : Component). is_some c.system) cs ≡ true
some_has [] e = absurd (true≢false e)
some_has (c ∷ cs) e = one c.system (list_all (λ (k : Component). is_none k.system) cs) (list_any (λ (k : Component). is_some k.system) cs) e (some_has cs)
  where
    one : (o : Option Span) (none some : Bool) → (is_none o && none) ≡ false → (none ≡ false → some ≡ true) →
        (is_some o || some) ≡ true
    one None none some h more = more h
    one (Some span) none some h more = refl

told : (b : Bool) (s : FaultSite) → (if b then s ∷ [] else []) ≡ [] → b ≡ false
told true s e = cc
told false s e = refl

some_is : (o : Option ℕ) → is_some o ≡ true → o ≡ Some (unwrap_or o 0)
some_is None e = absurd (false≢true e)
some_is (Some place) e = refl

pub system_found : (end : ℕ) (cs : List TreeComponent) → names_faults end (component_trees cs) ≡ []
    → system_place (component_trees cs) ≡ Some (unwrap_or (position has_system cs) 0)
system_found end cs none =
    let all : List Component = component_trees cs in
    let twice = both_empty (again F6 same_name start_of (map (λ (c : Component). c.name) all)) _ none in
    let here = both_empty (no_system end all) _ twice.1 in
    let lacks = told (list_all (λ (c : Component). is_none c.system) all) (site F7 end) here.0 in
    let there : is_some (system_place all) ≡ true = position-any (λ (c : Component). is_some c.system) all ∙ some_has all lacks in
    some_is (system_place all) there
    ∙ ap (λ (o : Option ℕ). Some (unwrap_or o 0)) (position-map (λ (c : Component). is_some c.system) component_tree cs)
