-- The tables around a refinement tell what its names mean, and its faults are those that are noted by them.
use Rattle.std.proofs.Common.{◌≡◌, ℕ, zero, suc, Bool, true, false, ◌||◌, cond, List, [], ◌∷◌, ◌++◌, map, filter_map, flat_map, position, slice_get, Option}
use Rattle.std.proofs.Common.{Some, None, is_some, option_map, option_and_then, refl, sym, ap, subst, ◌∙◌}
use Rattle.std.proofs.lemmas.List.{append-nil}
use Rattle.std.proofs.lemmas.List.Folds.{flat_map-map}
use Rattle.std.proofs.lemmas.Option.{slice_get-map}
use Rattle.std.specs.List.{list_any}
use Rattle.std.specs.Option.{option_map_or}
use Rattle.oss_base.specs.declared.fault.FaultKind.TheVariants.{F12, F13, F15, F19, F20, F21, F24}
use Rattle.oss_syntax.specs.declared.words.Word.{Word}
use Rattle.oss_syntax.specs.declared.words.PartWord.{PartWord}
use Rattle.oss_syntax.specs.declared.refinement.TargetTree.{TargetTree}
use Rattle.oss_syntax.specs.declared.refinement.TargetTree.TheVariants as targets
use Rattle.oss_syntax.specs.declared.refinement.RefinementItem.{RefinementItem}
use Rattle.oss_syntax.specs.Trees.{Item, RefinementItemTree, Refined, Component, refinement_item_tree}
use Rattle.spec_names.specs.Directory.{IsInterface, AreInterfaces, IsRefinementOf}
use Rattle.spec_names.specs.declared.interfaces.InterfaceTables.{InterfaceTables}
use Rattle.spec_names.specs.declared.refinements.RefinementTables.{RefinementTables}
use Rattle.spec_names.specs.declared.words.RefinementWord.TheVariants as words
use Rattle.oss_base.specs.declared.sites.FaultSite.{FaultSite}
use Rattle.spec_names.specs.Scopes.{is_named, PortDeclaration, port_declarations, port_place, contract_place, is_enumerator, has_direction, directed_place}
use Rattle.spec_names.specs.Scopes.{directed_port, component_place, interface_at, declared_interface, SubDeclaration, sub_declaration, sub_declarations}
use Rattle.spec_names.specs.Scopes.{sub_place, sub_interface_at, sub_interface, sub_port, sub_sees, sees_enumerator, SubPort, OwnPort, enumerator_if}
use Rattle.spec_names.specs.Scopes.{connection_scope, target_meaning}
use Rattle.spec_names.specs.NamesFaults.{NameUse, Bare, OfSub, Wanted, part_tests, part_faults, refinement_faults, use_means, use_start, source_uses, again}
use Rattle.spec_names.specs.NamesFaults.{lacking, same_name, start_of, same_dotted, dotted_start, own_target_word, sub_target_pair, refined_word, site}
use Rattle.spec_names.specs.NamesFaults.{words_of_part}
use Rattle.spec_names.specs.Interfaces.{same_bool, directed_in}
use Rattle.spec_names.specs.Noting.{noted, none_if}
use Rattle.spec_names.specs.Refinements.{Around, component_of_item, interface_in, sub_directed_in, is_driven_in, is_listed_in, tests_in, has_enumerator_in}
use Rattle.spec_names.specs.Refinements.{sees_in, is_read_by, uses_of_source, faults_of_item, item_faults, AreTablesOf, AreNoted, Fits, IsAround}
use Rattle.spec_names.specs.Tables.{entry_place}
use Rattle.spec_names.specs.Words.{word_of_part, sub_target_of_item}
use Rattle.spec_names.proofs.Lists.{position-map, filter_map-map, filter_map-option_map, list_any-map, list_any-same}
use Rattle.spec_names.proofs.NotingFacts.{lacking-same, lacking-cons, noted_two}

-- ports of one direction

some_if : (b : Bool) (place : ℕ) → is_some (cond b (Some place) None) ≡ b
some_if true place = refl
some_if false place = refl

same_direction : (input : Bool) (port : PortDeclaration) → same_bool input port.input ≡ has_direction input port
same_direction true port = refl
same_direction false port = refl

directed_there : (input : Bool) (o : Option PortDeclaration)
    → option_map_or (same_bool input) (option_map (λ (port : PortDeclaration). port.input) o) false ≡ option_map_or
    (has_direction input) o false
directed_there input None = refl
directed_there input (Some port) = same_direction input port

directed_at : (input : Bool) (interface : List Item) (inputs : List Bool) (o : Option ℕ)
    → inputs ≡ map (λ (port : PortDeclaration). port.input) (port_declarations interface)
    → option_map_or (same_bool input) (option_and_then (slice_get inputs) o) false ≡ is_some
    (option_and_then (directed_place input interface) o)
directed_at input interface inputs None are = refl
directed_at input interface inputs (Some place) are =
    ap (λ o. option_map_or (same_bool input) o false) (ap (λ list. slice_get list place) are ∙ slice_get-map (λ (port : PortDeclaration). port.input)
    (port_declarations interface) place)
    ∙ (directed_there input (slice_get (port_declarations interface) place)
    ∙ sym (some_if (option_map_or (has_direction input) (slice_get (port_declarations interface) place) false) place))

pub directed_is : (input : Bool) (interface : List Item) (tables : InterfaceTables) (text : List ℕ)
    → IsInterface interface tables
    → directed_in input tables text ≡ is_some (directed_port input interface text)
directed_is input interface tables text is =
    ap (λ o. option_map_or (same_bool input) (option_and_then (slice_get tables.inputs.items) o) false) (is.ports text)
    ∙ directed_at input interface tables.inputs.items (port_place interface text) is.inputs

-- the interfaces of components, which may be missing

pub interface_fits : (components : List Component) (interfaces : List InterfaceTables) (place : ℕ)
    → AreInterfaces components interfaces → Fits (interface_at components place) (slice_get interfaces place)
interface_fits [] [] place are = refl
interface_fits [] (t ∷ interfaces) place are = absurd are
interface_fits (c ∷ components) [] place are = absurd are
interface_fits (c ∷ components) (t ∷ interfaces) zero are = are.0
interface_fits (c ∷ components) (t ∷ interfaces) (suc place) are = interface_fits components interfaces place are.1

declared_fits : (components : List Component) (a : Around) (o : Option ℕ) → AreInterfaces components a.interfaces
    → Fits (option_map_or (interface_at components) o []) (interface_in a o)
declared_fits components a None are = refl
declared_fits components a (Some place) are = interface_fits components a.interfaces place are

-- what an interface that may be missing tells

directed_fits : (input : Bool) (interface : List Item) (o : Option InterfaceTables) (text : List ℕ) → Fits interface o
    → option_map_or (λ (tables : InterfaceTables). directed_in input tables text) o false ≡ is_some
    (directed_port input interface text)
directed_fits input interface None text fits = ap (λ items. is_some (directed_port input items text)) (sym fits)
directed_fits input interface (Some tables) text fits = directed_is input interface tables text fits

contract_fits : (interface : List Item) (o : Option InterfaceTables) (text : List ℕ) → Fits interface o
    → option_map_or (λ (tables : InterfaceTables). is_some (entry_place tables.contracts text)) o false ≡ is_some
    (contract_place interface text)
contract_fits interface None text fits = ap (λ items. is_some (contract_place items text)) (sym fits)
contract_fits interface (Some tables) text fits = ap is_some (fits.contracts text)

pub enumerator_fits : (interface : List Item) (o : Option InterfaceTables) (text : List ℕ) → Fits interface o
    → has_enumerator_in text o ≡ is_enumerator interface text
enumerator_fits interface None text fits = ap (λ items. is_enumerator items text) (sym fits)
enumerator_fits interface (Some tables) text fits = fits.enumerators text

-- subcomponents

module _ (components : List Component) (interface : List Item) (parts : List RefinementItemTree) (a : Around) (is : IsAround components interface parts a) where
  sub_fits_step : (o : Option SubDeclaration)
      → Fits (option_map_or (λ (sub : SubDeclaration). declared_interface components sub.component.text) o [])
      (option_and_then (interface_in a) (option_map (λ (sub : SubDeclaration). component_place components sub.component.text) o))
  sub_fits_step None = refl
  sub_fits_step (Some sub) = declared_fits components a (component_place components sub.component.text) is.interfaces

  sub_fits : (s : ℕ) → Fits (sub_interface_at components parts s)
      (option_and_then (interface_in a) (slice_get a.subs.components.items s))
  sub_fits s =
      subst (λ o. Fits (sub_interface_at components parts s) (option_and_then (interface_in a) o))
      (sym (ap (λ list. slice_get list s) is.subs.places ∙ slice_get-map (λ (sub : SubDeclaration). component_place components sub.component.text)
      (sub_declarations parts) s))
      (sub_fits_step (slice_get (sub_declarations parts) s))

  sub_port_at : (input : Bool) (port : List ℕ) (o : Option ℕ)
      → option_map_or (λ (tables : InterfaceTables). directed_in input tables port)
      (option_and_then (interface_in a) (option_and_then (slice_get a.subs.components.items) o)) false
      ≡ is_some (option_and_then (λ (s : ℕ). option_map (SubPort s) (directed_port input (sub_interface_at components parts s) port)) o)
  sub_port_at input port None = refl
  sub_port_at input port (Some s) =
      directed_fits input (sub_interface_at components parts s) (option_and_then (interface_in a) (slice_get a.subs.components.items s)) port (sub_fits s)
      ∙ some_mapped (directed_port input (sub_interface_at components parts s) port)
    where
      some_mapped : (o : Option ℕ) → is_some o ≡ is_some (option_map (SubPort s) o)
      some_mapped None = refl
      some_mapped (Some p) = refl

  sub_port_is : (input : Bool) (sub port : List ℕ) → sub_directed_in input a sub port ≡ is_some
      (sub_port input components parts sub port)
  sub_port_is input sub port =
      ap (λ o. option_map_or (λ (tables : InterfaceTables). directed_in input tables port)
      (option_and_then (interface_in a) (option_and_then (slice_get a.subs.components.items) o)) false) (is.subs.subs sub)
      ∙ sub_port_at input port (sub_place parts sub)

  own_port : (o : Option ℕ) → is_some o ≡ is_some (option_map OwnPort o)
  own_port None = refl
  own_port (Some p) = refl

  target_is : (target : TargetTree) → is_driven_in a target ≡ is_some (target_meaning components interface parts target)
  target_is (targets.Own port) = directed_is false interface a.own port.text is.own ∙ own_port (directed_port false interface port.text)
  target_is (targets.OfSub sub port) = sub_port_is true sub.text port.text

  listed_at : (contract : List ℕ) (o : Option ℕ)
      → option_map_or (λ (tables : InterfaceTables). is_some (entry_place tables.contracts contract))
      (option_and_then (interface_in a) (option_and_then (slice_get a.subs.components.items) o)) false
      ≡ is_some (contract_place (option_map_or (sub_interface_at components parts) o []) contract)
  listed_at contract None = refl
  listed_at contract (Some s) = contract_fits (sub_interface_at components parts s) (option_and_then (interface_in a) (slice_get a.subs.components.items s))
      contract (sub_fits s)

  listed_is : (part : PartWord) → is_listed_in a part ≡ is_some
      (contract_place (sub_interface components parts part.sub.text) part.contract.text)
  listed_is part =
      ap (λ o. option_map_or (λ (tables : InterfaceTables). is_some (entry_place tables.contracts part.contract.text))
      (option_and_then (interface_in a) (option_and_then (slice_get a.subs.components.items) o)) false) (is.subs.subs part.sub.text)
      ∙ listed_at part.contract.text (sub_place parts part.sub.text)

  tests_are : tests_in a ≡ part_tests components interface parts
  tests_are = λ j. record {
    component = λ word. is_some (is.names word.text j);
    target = λ target. target_is target j;
    contract = λ word. is_some (is.own.contracts word.text j);
    sub = λ part. is_some (is.subs.subs part.sub.text j);
    listed = λ part. listed_is part j;
  }

  sees_is : (text : List ℕ) → sees_in a text ≡ sees_enumerator components interface parts text
  sees_is text =
      (λ j. is.own.enumerators text j || list_any (λ component. has_enumerator_in text (interface_in a component)) (is.subs.places j))
      ∙ ap (λ b. is_enumerator interface text || b)
      (list_any-map (λ component. has_enumerator_in text (interface_in a component)) (λ (sub : SubDeclaration). component_place components sub.component.text)
      (sub_declarations parts)
      ∙ list_any-same _ (sub_sees components text)
      (λ (sub : SubDeclaration). enumerator_fits (declared_interface components sub.component.text)
      (interface_in a (component_place components sub.component.text)) text
      (declared_fits components a (component_place components sub.component.text) is.interfaces)) (sub_declarations parts))

  some_seen : (b : Bool) → b ≡ is_some (enumerator_if b)
  some_seen true = refl
  some_seen false = refl

  bare_is : (b : Bool) (o : Option ℕ) (seen : Bool) → cond b (is_some o) seen ≡ is_some
      (cond b (option_map OwnPort o) (enumerator_if seen))
  bare_is true o seen = own_port o
  bare_is false o seen = some_seen seen

  read_is : (name : NameUse) → is_read_by a name ≡ use_means (connection_scope components interface parts) name
  read_is (Bare name) =
      (λ j. cond (is_some (is.own.ports name.text j)) (directed_is true interface a.own name.text is.own j) (sees_is name.text j))
      ∙ bare_is (is_some (port_place interface name.text)) (directed_port true interface name.text) (sees_enumerator components interface parts name.text)
  read_is (OfSub sub port) = sub_port_is false sub.text port.text
  read_is (Wanted port) = directed_is true interface a.own port.text is.own

-- the items of the code and the parts that they stand for

pub sub_words_are : (items : List RefinementItem) → filter_map (word_of_part words.Sub) items ≡ map
    (λ (sub : SubDeclaration). sub.name) (sub_declarations (map refinement_item_tree items))
sub_words_are items =
    filter_map-option_map (λ (sub : SubDeclaration). sub.name) (λ item. sub_declaration (refinement_item_tree item)) items
    ∙ ap (map (λ (sub : SubDeclaration). sub.name)) (sym (filter_map-map sub_declaration refinement_item_tree items))

pub sub_places_are : (names : List (List ℕ × ℕ)) (components : List Component) (items : List RefinementItem)
    → ((text : List ℕ) → entry_place names text ≡ component_place components text)
    → filter_map (component_of_item names) items ≡ map
    (λ (sub : SubDeclaration). component_place components sub.component.text) (sub_declarations (map refinement_item_tree items))
sub_places_are names components items tells =
    filter_map-option_map (λ (sub : SubDeclaration). entry_place names sub.component.text) (λ item. sub_declaration (refinement_item_tree item)) items
    ∙ ((λ j. map (λ (sub : SubDeclaration). tells sub.component.text j) (filter_map (λ item. sub_declaration (refinement_item_tree item)) items))
    ∙ ap (map (λ (sub : SubDeclaration). component_place components sub.component.text)) (sym (filter_map-map sub_declaration refinement_item_tree items)))

pub refinement_is : (names : List (List ℕ × ℕ)) (components : List Component) (items : List RefinementItem)
    (tables : RefinementTables)
    → ((text : List ℕ) → entry_place names text ≡ component_place components text) → AreTablesOf names items tables
    → IsRefinementOf components (map refinement_item_tree items) tables
refinement_is names components items tables tells are = record {
  subs = λ text. are.subs text ∙ (ap (position (is_named text)) (sub_words_are items) ∙ position-map (is_named text) (λ (sub : SubDeclaration). sub.name)
      (sub_declarations (map refinement_item_tree items)));
  places = are.places ∙ sub_places_are names components items tells;
}

-- the faults of the names of a refinement
pub refinement_noted : (components : List Component) (interface : List Item) (items : List RefinementItem) (a : Around)
    (old new : Option FaultSite)
    → IsAround components interface (map refinement_item_tree items) a → AreNoted a items old new
    → new ≡ noted (refinement_faults components interface (map refinement_item_tree items)) old
refinement_noted components interface items a old new is are =
    are ∙ ap (λ list. noted list old) (λ j.
    again F12 same_name start_of (sub_words_are items j)
    ++ (parts_are j
    ++ (again F15 same_name start_of (sym (filter_map-map own_target_word refinement_item_tree items) j)
    ++ (again F15 same_dotted dotted_start (sym (filter_map-map sub_target_pair refinement_item_tree items) j)
    ++ (again F20 same_name start_of (sym (filter_map-map refined_word refinement_item_tree items) j)
    ++ uses_are j)))))
  where
    parts_are : flat_map (faults_of_item a) items ≡ flat_map
        (part_faults (part_tests components interface (map refinement_item_tree items)))
        (map refinement_item_tree items)
    parts_are =
        ap (λ tests. flat_map (λ item. part_faults tests (refinement_item_tree item)) items)
        (tests_are components interface (map refinement_item_tree items) a is)
        ∙ sym (flat_map-map (part_faults (part_tests components interface (map refinement_item_tree items))) refinement_item_tree items)

    uses_are : lacking F13 (is_read_by a) use_start (flat_map uses_of_source items)
        ≡ lacking F13 (use_means (connection_scope components interface (map refinement_item_tree items))) use_start
        (flat_map source_uses (map refinement_item_tree items))
    uses_are =
        lacking-same F13 (is_read_by a) (use_means (connection_scope components interface (map refinement_item_tree items))) use_start
        (read_is components interface (map refinement_item_tree items) a is) (flat_map uses_of_source items)
        ∙ ap (lacking F13 (use_means (connection_scope components interface (map refinement_item_tree items))) use_start)
        (sym (flat_map-map source_uses refinement_item_tree items))

-- the faults of items, noted one part after the other
pub items_noted : (a : Around) (items : List RefinementItem) (first parts own subs refined last : Option FaultSite)
    → parts ≡ noted (flat_map (faults_of_item a) items) first
    → own ≡ noted (again F15 same_name start_of (filter_map (word_of_part words.OwnTarget) items)) parts
    → subs ≡ noted (again F15 same_dotted dotted_start (filter_map sub_target_of_item items)) own
    → refined ≡ noted (again F20 same_name start_of (filter_map (word_of_part words.Refined) items)) subs
    → last ≡ noted (lacking F13 (is_read_by a) use_start (flat_map uses_of_source items)) refined
    → last ≡ noted (item_faults a items) first
items_noted a items first p o s r last ep eo es er el =
    let uses : List FaultSite = lacking F13 (is_read_by a) use_start (flat_map uses_of_source items) in
    let refined : List FaultSite = again F20 same_name start_of (filter_map (word_of_part words.Refined) items) in
    let subs : List FaultSite = again F15 same_dotted dotted_start (filter_map sub_target_of_item items) in
    let own : List FaultSite = again F15 same_name start_of (filter_map (word_of_part words.OwnTarget) items) in
    noted_two (flat_map (faults_of_item a) items) (own ++ (subs ++ (refined ++ uses))) first p last ep
    (noted_two own (subs ++ (refined ++ uses)) p o last eo
    (noted_two subs (refined ++ uses) o s last es (noted_two refined uses s r last er el)))

-- the faults of a refined contract, noted one part after the other
pub contract_noted : (a : Around) (name : Word) (listed : List PartWord) (well : Bool)
    (first own subs contracts last : Option FaultSite)
    → well ≡ (tests_in a).contract name
    → own ≡ noted (none_if well (site F19 (start_of name))) first
    → subs ≡ noted (lacking F24 (tests_in a).sub (λ (part : PartWord). start_of part.sub) listed) own
    → contracts ≡ noted (lacking F19 (tests_in a).listed (λ (part : PartWord). start_of part.contract) listed) subs
    → last ≡ noted (again F21 same_dotted dotted_start (map words_of_part listed)) contracts
    → last ≡ noted (part_faults (tests_in a) (Refined name listed)) first
contract_noted a name listed well first o s k last tells eo es ek el =
    let twice : List FaultSite = again F21 same_dotted dotted_start (map words_of_part listed) in
    let missing : List FaultSite = lacking F19 (tests_in a).listed (λ (part : PartWord). start_of part.contract) listed in
    let lost : List FaultSite = lacking F24 (tests_in a).sub (λ (part : PartWord). start_of part.sub) listed in
    let own : o ≡ noted (lacking F19 (tests_in a).contract start_of (name ∷ [])) first =
    eo ∙ (ap (λ b. noted (none_if b (site F19 (start_of name))) first) tells
    ∙ ap (λ list. noted list first) (sym (append-nil (none_if ((tests_in a).contract name) (site F19 (start_of name)))) ∙ sym
    (lacking-cons F19 (tests_in a).contract start_of name []))) in
    noted_two (lacking F19 (tests_in a).contract start_of (name ∷ [])) (lost ++ (missing ++ twice)) first o last own
    (noted_two lost (missing ++ twice) o s last es (noted_two missing twice s k last ek el))
