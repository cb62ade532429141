-- The specification that the tree of a text stands for (the textual language of components and contracts of
-- Cimatti, Dorigatti and Tonetta, OCRA: a tool for checking the refinement of temporal contracts, 2013).
--
-- Every name stands for the place of the first thing of that name. A name that means nothing counts as the
-- first place: a tree with such a name is refused before.
use Rattle.std.specs.Prelude.{◌≡◌, ℕ, ◌+◌, List, [], ◌∷◌, ◌++◌, map, filter_map, take, Option, Some, None, unwrap_or}
use Rattle.oss_base.specs.Places.{place_after}
use Rattle.oss_base.specs.declared.ids.ContractId.{ContractId}
use Rattle.oss_base.specs.declared.ids.SubId.{SubId}
use Rattle.oss_syntax.specs.declared.words.PartWord.{PartWord}
use Rattle.oss_syntax.specs.Trees.{RefinementItemTree, Sub, Connection, Refined, Component}
use Rattle.spec_limits.specs.LimitFaults.{system_place}
use Rattle.spec_model.specs.declared.item.Item.{Item}
use Rattle.spec_model.specs.declared.port.OwnPort.{OwnPort}
use Rattle.spec_model.specs.declared.spec.Spec.{Spec}
use Rattle.spec_model.specs.declared.spec.Component as spec
use Rattle.spec_model.specs.declared.sub.Sub as spec_sub
use Rattle.spec_model.specs.Meanings.{ContractMeaning, contract_meaning, WireMeaning, wire_meaning}
use Rattle.spec_names.specs.Scopes.{SubDeclaration, sub_declarations, refinement_parts, component_place}
use Rattle.spec_names.specs.Scopes.{contract_place, part_meaning}
use Rattle.spec_types.specs.TreeComponents.{own_ports, tree_contracts, tree_wires}

-- components

-- a component, with its contracts and connections by what they mean
pub record ComponentMeaning : Type 0 where
  pub name : List ℕ
  pub ports : List OwnPort
  pub contracts : List ContractMeaning
  pub subs : List spec_sub.Sub
  pub wires : List WireMeaning

abbrev pub component_meaning : spec.Component → ComponentMeaning
component_meaning c = record {
  name = c.name;
  ports = c.ports;
  contracts = map contract_meaning c.contracts;
  subs = c.subs;
  wires = map wire_meaning c.wires;
}

abbrev pub place_or_first : Option ℕ → ℕ
place_or_first place = unwrap_or place 0

-- a subcomponent: its name, and the place of its component
abbrev pub tree_sub : List Component → SubDeclaration → spec_sub.Sub
tree_sub all sub = record {
  name = sub.name.text;
  component = record { 0 = place_or_first (component_place all sub.component.text) };
}

-- one of these components
abbrev pub tree_component : List Component → Component → ComponentMeaning
tree_component all c = record {
  name = c.name.text;
  ports = own_ports c.interface;
  contracts = tree_contracts c.interface;
  subs = map (tree_sub all) (sub_declarations (refinement_parts c));
  wires = tree_wires all c;
}

-- refined contracts

-- a listed part: the places of the subcomponent and of the contract
abbrev pub part_ids : Option (ℕ × ℕ) → SubId × ContractId
part_ids None = (record { 0 = 0 }, record { 0 = 0 })
part_ids (Some places) = (record { 0 = places.0 }, record { 0 = places.1 })

abbrev pub tree_part : List Component → Component → PartWord → SubId × ContractId
tree_part all c part = part_ids (part_meaning all (refinement_parts c) part)

-- The contract that an item of the refinement of the component with this number refines, if it does: the place of
-- the contract, that of its name in the text, and the listed parts.
abbrev pub tree_item : List ℕ → List Component → ℕ → Component → RefinementItemTree → Option Item
tree_item bytes all number c (Sub name component) = None
tree_item bytes all number c (Connection target source) = None
tree_item bytes all number c (Refined name listed) = Some (record {
  component = record { 0 = number };
  contract = record { 0 = place_or_first (contract_place c.interface name.text) };
  place = place_after (take name.span.start bytes);
  parts = map (tree_part all c) listed;
})

-- those of the components from this number on, in text order
abbrev pub tree_items_from : List ℕ → List Component → ℕ → List Component → List Item
tree_items_from bytes all number [] = []
tree_items_from bytes all number (c ∷ components) =
    filter_map (tree_item bytes all number c) (refinement_parts c)
    ++ tree_items_from bytes all (number + 1) components

abbrev pub tree_items : List ℕ → List Component → List Item
tree_items bytes all = tree_items_from bytes all 0 all

-- The specification is what these components of a text of these bytes stand for.
pub record Stands (bytes : List ℕ) (all : List Component) (spec : Spec) : Type 0 where
  pub components : map component_meaning spec.components ≡ map (tree_component all) all
  pub items : spec.items ≡ tree_items bytes all
  pub system : system_place all ≡ Some spec.system.0
