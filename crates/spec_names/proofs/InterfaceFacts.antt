-- The tables of an interface tell what its names mean, and its faults are those that are noted by them.
use Rattle.std.proofs.Common.{◌≡◌, ℕ, Bool, true, false, ◌||◌, max, List, ◌++◌, map, filter_map, flat_map, slice_get, Option, Some, None, is_some, option_map}
use Rattle.std.proofs.Common.{option_and_then, refl, sym, ap, ◌∙◌}
use Rattle.std.proofs.lemmas.List.Folds.{flat_map-map}
use Rattle.oss_base.specs.declared.fault.FaultKind.TheVariants.{F9, F13}
use Rattle.oss_syntax.specs.declared.words.Word.{Word}
use Rattle.oss_syntax.specs.declared.interface.InterfaceItem.{InterfaceItem}
use Rattle.oss_syntax.specs.Trees.{Item, item_tree}
use Rattle.spec_names.specs.Directory.{IsInterface}
use Rattle.spec_names.specs.declared.interfaces.InterfaceTables.{InterfaceTables}
use Rattle.spec_names.specs.declared.words.InterfaceWord.TheVariants as words
use Rattle.oss_base.specs.declared.sites.FaultSite.{FaultSite}
use Rattle.spec_names.specs.Scopes.{is_named, PortDeclaration, port_declaration, port_declarations, contract_word, contract_words, item_enumerators}
use Rattle.spec_names.specs.Scopes.{enumerators, is_enumerator, port_place, port_or, enumerator_if, contract_scope}
use Rattle.spec_names.specs.NamesFaults.{site, start_of, same_name, again, lacking, NameUse, Bare, OfSub, Wanted, use_means, use_start, item_uses}
use Rattle.spec_names.specs.NamesFaults.{port_name_words}
use Rattle.spec_names.specs.NamesFaults.{clash_with, clashes, enumerators_again, interface_faults}
use Rattle.spec_names.specs.Interfaces.{input_of_item, uses_of_item, enumerator_faults, is_known_in, clash_by}
use Rattle.spec_names.specs.Noting.{noted}
use Rattle.spec_names.specs.Tables.{IsPlaceTable}
use Rattle.spec_names.specs.Words.{word_of_item, enumerators_of_item}
use Rattle.spec_names.proofs.Lists.{position-any, position-map, find-by_position, filter_map-map, filter_map-option_map}
use Rattle.spec_names.proofs.NotingFacts.{noted_two, lacking-same}

-- the words of the items of the code are those of the items that they stand for

pub port_words_are : (items : List InterfaceItem) → filter_map (word_of_item words.Port) items ≡ port_name_words
    (map item_tree items)
port_words_are items =
    filter_map-option_map (λ (port : PortDeclaration). port.name) (λ item. port_declaration (item_tree item)) items
    ∙ ap (map (λ (port : PortDeclaration). port.name)) (sym (filter_map-map port_declaration item_tree items))

pub inputs_are : (items : List InterfaceItem) → filter_map input_of_item items ≡ map
    (λ (port : PortDeclaration). port.input) (port_declarations (map item_tree items))
inputs_are items =
    filter_map-option_map (λ (port : PortDeclaration). port.input) (λ item. port_declaration (item_tree item)) items
    ∙ ap (map (λ (port : PortDeclaration). port.input)) (sym (filter_map-map port_declaration item_tree items))

pub contract_words_are : (items : List InterfaceItem) → filter_map (word_of_item words.Contract) items ≡ contract_words
    (map item_tree items)
contract_words_are items = sym (filter_map-map contract_word item_tree items)

pub enumerators_are : (items : List InterfaceItem) → flat_map enumerators_of_item items ≡ enumerators
    (map item_tree items)
enumerators_are items = sym (flat_map-map item_enumerators item_tree items)

pub enumerator_faults_are : (items : List InterfaceItem)
    → flat_map enumerator_faults items ≡ flat_map enumerators_again (map item_tree items)
enumerator_faults_are items = sym (flat_map-map enumerators_again item_tree items)

pub uses_are : (items : List InterfaceItem) → flat_map uses_of_item items ≡ flat_map item_uses (map item_tree items)
uses_are items = sym (flat_map-map item_uses item_tree items)

-- the tables

pub interface_is : (interface : List Item) (tables : InterfaceTables)
    → IsPlaceTable (port_name_words interface) tables.ports → IsPlaceTable (contract_words interface) tables.contracts
    → IsPlaceTable (enumerators interface) tables.enumerators
    → tables.inputs.items ≡ map (λ (port : PortDeclaration). port.input) (port_declarations interface)
    → IsInterface interface tables
interface_is interface tables ports contracts names inputs = record {
  ports = λ text. ports text ∙ position-map (is_named text) (λ (port : PortDeclaration). port.name) (port_declarations interface);
  inputs = inputs;
  contracts = contracts;
  enumerators = λ text. ap is_some (names text) ∙ position-any (is_named text) (enumerators interface);
}

known_bare : (o : Option ℕ) (b : Bool) → is_some o || b ≡ is_some (port_or o (enumerator_if b))
known_bare (Some place) b = refl
known_bare None true = refl
known_bare None false = refl

pub known_is : (interface : List Item) (tables : InterfaceTables) → IsInterface interface tables → (name : NameUse)
    → is_known_in tables name ≡ use_means (contract_scope interface) name
known_is interface tables is (Bare name) =
    (λ j. is_some (is.ports name.text j) || is.enumerators name.text j) ∙ known_bare (port_place interface name.text) (is_enumerator interface name.text)
known_is interface tables is (OfSub sub port) = refl
known_is interface tables is (Wanted port) = ap is_some (is.ports port.text)

-- a clash, found by the table of enumerators
pub clash_is : (names : List Word) (table : List (List ℕ × ℕ)) (port : Word) → IsPlaceTable names table
    → clash_by table names port ≡ clash_with names port
clash_is names table port tells =
    ap (option_map (λ (name : Word). site F9 (max (start_of port) (start_of name))))
    (ap (option_and_then (slice_get names)) (tells port.text) ∙ sym (find-by_position (is_named port.text) names))

-- the faults, noted one part after the other
pub interface_noted : (interface : List Item) (tables : InterfaceTables)
    (first after_ports after_contracts after_clashes after_types last : Option FaultSite)
    → IsInterface interface tables
    → after_ports ≡ noted (again F9 same_name start_of (port_name_words interface)) first
    → after_contracts ≡ noted (again F9 same_name start_of (contract_words interface)) after_ports
    → after_clashes ≡ noted (clashes interface) after_contracts
    → after_types ≡ noted (flat_map enumerators_again interface) after_clashes
    → last ≡ noted (lacking F13 (is_known_in tables) use_start (flat_map item_uses interface)) after_types
    → last ≡ noted (interface_faults interface) first
interface_noted interface tables first p k c t l is ep ek ec et el =
    let uses : List FaultSite = lacking F13 (use_means (contract_scope interface)) use_start (flat_map item_uses interface) in
    let types : List FaultSite = flat_map enumerators_again interface in
    let again_contracts : List FaultSite = again F9 same_name start_of (contract_words interface) in
    noted_two (again F9 same_name start_of (port_name_words interface)) (again_contracts ++ (clashes interface ++ (types ++ uses))) first p l ep
    (noted_two again_contracts (clashes interface ++ (types ++ uses)) p k l ek
    (noted_two (clashes interface) (types ++ uses) k c l ec
    (noted_two types uses c t l et
    (el ∙ ap (λ list. noted list t) (lacking-same F13 (is_known_in tables) (use_means (contract_scope interface)) use_start (known_is interface tables is)
    (flat_map item_uses interface))))))
