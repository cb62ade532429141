-- Serves proofs only: what a specification is made of, told by the tables of its names.
use Rattle.std.specs.Prelude.{◌≡◌, ℕ, ◌+◌, Bool, List, [], ◌∷◌, ◌++◌, map, filter_map, take, Option, Some, None}
use Rattle.std.specs.Prelude.{is_some, option_map, option_and_then, slice_get}
use Rattle.std.specs.List.{zip}
use Rattle.architecture.specs.declared.text_places.Cursor.{Cursor}
use Rattle.oss_base.specs.Places.{place_after}
use Rattle.oss_base.specs.declared.fault.Stop.{Stop}
use Rattle.oss_base.specs.declared.fault.Stop.TheVariants as stop
use Rattle.oss_base.specs.declared.place.Place.{Place}
use Rattle.oss_base.specs.declared.sites.FaultSite.{FaultSite}
use Rattle.oss_syntax.specs.Trees.{RefinementItemTree, Sub, Connection, Refined, component_tree}
use Rattle.oss_syntax.specs.Trees as trees
use Rattle.oss_syntax.specs.declared.component.TreeComponent.{TreeComponent}
use Rattle.oss_syntax.specs.declared.refinement.RefinementItem.{RefinementItem}
use Rattle.oss_syntax.specs.declared.words.PartWord.{PartWord}
use Rattle.oss_syntax.specs.declared.words.Word.{Word}
use Rattle.oss_base.specs.declared.ids.ContractId.{ContractId}
use Rattle.oss_base.specs.declared.ids.SubId.{SubId}
use Rattle.spec_model.specs.declared.contract.Contract.{Contract}
use Rattle.spec_model.specs.declared.item.Item.{Item}
use Rattle.spec_model.specs.declared.port.OwnPort.{OwnPort}
use Rattle.spec_model.specs.declared.spec.Component.{Component}
use Rattle.spec_model.specs.declared.sub.Sub as spec_sub
use Rattle.spec_model.specs.declared.wire.Wire.{Wire}
use Rattle.spec_names.specs.Scopes.{refinement_parts}
use Rattle.spec_names.specs.Tables.{entry_place}
use Rattle.spec_names.specs.declared.interfaces.InterfaceTables.{InterfaceTables}
use Rattle.spec_names.specs.declared.refinements.RefinementTables.{RefinementTables}
use Rattle.spec_names.specs.declared.directory.Directory.{Directory}
use Rattle.architecture.specs.FirstFaults.{fault_at}
use Rattle.architecture.specs.Standing.{place_or_first, part_ids}

-- places in a text

-- the cursor stands at its place in the text
abbrev pub IsAt : List ℕ → Cursor → Type 0
IsAt bytes cursor = cursor.place ≡ place_after (take cursor.offset bytes)

-- the place of what follows one more byte
abbrev pub IsNext : Place → ℕ → Place → Type 0
IsNext place byte next = (before : List ℕ) → place ≡ place_after before → next ≡ place_after (before ++ byte ∷ [])

-- the fault of this site is answered, or want of memory
abbrev pub RefusesAt : List ℕ → FaultSite → Stop → Type 0
RefusesAt bytes s (stop.Fault fault) = fault ≡ fault_at bytes s
RefusesAt bytes s stop.NoMemory = Unit {0}

-- components

-- a subcomponent, by the table of the names of components
abbrev pub sub_by : List (List ℕ × ℕ) → RefinementItemTree → Option spec_sub.Sub
sub_by names (Sub name component) =
    Some (record { name = name.text; component = record { 0 = place_or_first (entry_place names component.text) } })
sub_by names (Connection target source) = None
sub_by names (Refined name listed) = None

abbrev pub sub_in : List (List ℕ × ℕ) → RefinementItem → Option spec_sub.Sub
sub_in names item = sub_by names (trees.refinement_item_tree item)

-- a component, by that table and by what its ports, contracts and connections are
abbrev pub component_by : List (List ℕ × ℕ) → TreeComponent → List OwnPort → List Contract → List Wire → Component
component_by names c ports contracts wires = record {
  name = c.name.text;
  ports = ports;
  contracts = contracts;
  subs = filter_map (sub_by names) (refinement_parts (component_tree c));
  wires = wires;
}

-- the same of a component beside these
abbrev pub made_by : List (List ℕ × ℕ) → TreeComponent × ((List OwnPort × List Contract) × List Wire) → Component
made_by names parts = component_by names parts.0 parts.1.0.0 parts.1.0.1 parts.1.1

-- components, as far as there are ports, contracts and connections for them
abbrev pub components_by :
    List (List ℕ × ℕ) → List TreeComponent → List (List OwnPort) → List (List Contract) → List (List Wire)
    → List Component
components_by names components ports contracts wires =
    map (made_by names) (zip components (zip (zip ports contracts) wires))

abbrev pub has_system : TreeComponent → Bool
has_system c = is_some c.system

-- refined contracts

-- the place of the contract of a name in the interface of the component at a place
abbrev pub named_contract : List InterfaceTables → ℕ → List ℕ → Option ℕ
named_contract interfaces component text = option_and_then (λ (own : InterfaceTables). entry_place own.contracts text)
    (slice_get interfaces component)

-- the places of a subcomponent and of its component
abbrev pub component_of_sub : RefinementTables → ℕ → Option ℕ
component_of_sub tables sub = option_and_then (λ (place : Option ℕ). place) (slice_get tables.components.items sub)

-- the places of a listed part
abbrev pub contract_of_sub : List InterfaceTables → RefinementTables → List ℕ → ℕ → Option (ℕ × ℕ)
contract_of_sub interfaces tables text sub =
    option_map (λ (contract : ℕ). (sub, contract))
    (option_and_then (λ (component : ℕ). named_contract interfaces component text) (component_of_sub tables sub))

abbrev pub part_by : List InterfaceTables → RefinementTables → PartWord → Option (ℕ × ℕ)
part_by interfaces tables part =
    option_and_then (contract_of_sub interfaces tables part.contract.text) (entry_place tables.subs part.sub.text)

abbrev pub part_in : Directory → ℕ → PartWord → SubId × ContractId
part_in d number part =
    part_ids (option_and_then (λ (tables : RefinementTables). part_by d.interfaces.items tables part)
    (slice_get d.refinements.items number))

abbrev pub refined_by : List ℕ → Directory → ℕ → Word → List PartWord → Item
refined_by bytes d number name listed = record {
  component = record { 0 = number };
  contract = record { 0 = place_or_first (named_contract d.interfaces.items number name.text) };
  place = place_after (take name.span.start bytes);
  parts = map (part_in d number) listed;
}

abbrev pub item_by : List ℕ → Directory → ℕ → RefinementItemTree → Option Item
item_by bytes d number (Sub name component) = None
item_by bytes d number (Connection target source) = None
item_by bytes d number (Refined name listed) = Some (refined_by bytes d number name listed)

abbrev pub item_in : List ℕ → Directory → ℕ → RefinementItem → Option Item
item_in bytes d number item = item_by bytes d number (trees.refinement_item_tree item)

-- those of the components from this number on
abbrev pub items_by : List ℕ → Directory → ℕ → List TreeComponent → List Item
items_by bytes d number [] = []
items_by bytes d number (c ∷ cs) =
    filter_map (item_by bytes d number) (refinement_parts (component_tree c)) ++ items_by bytes d (number + 1) cs
