-- What the tables give is what the components of a text stand for.

use Rattle.std.proofs.Common.{◌≡◌, ℕ, List, [], ◌∷◌, ◌++◌, map, filter_map, length, Option, Some, None, option_map, refl, sym, ap, ◌∙◌}
use Rattle.std.proofs.lemmas.List.{length-map}
use Rattle.std.specs.List.{flat_map, zip}
use Rattle.std.specs.Option.{option_map_or}
use Rattle.oss_base.specs.declared.sites.FaultSite.{FaultSite}
use Rattle.oss_syntax.specs.declared.interface.InterfaceItem.{InterfaceItem}
use Rattle.oss_syntax.specs.declared.refinement.TargetTree.{TargetTree}
use Rattle.oss_syntax.specs.declared.refinement.RefinementItem.{RefinementItem}
use Rattle.oss_syntax.specs.declared.refinement.RefinementItem.TheVariants as refinement
use Rattle.oss_syntax.specs.declared.component.TreeComponent.{TreeComponent}
use Rattle.oss_syntax.specs.Trees.{item_tree, refinement_item_tree, Component, component_tree, component_trees, RefinementItemTree}
use Rattle.spec_model.specs.declared.wire.Target.{Target}
use Rattle.spec_model.specs.FreeRows.{free_among}
use Rattle.spec_names.specs.declared.interfaces.InterfaceTables.{InterfaceTables}
use Rattle.spec_names.specs.declared.refinements.RefinementTables.{RefinementTables}
use Rattle.spec_names.specs.Scopes.{is_named, port_declarations, SubDeclaration, sub_declarations, refinement_parts, component_place, declared_interface}
use Rattle.spec_names.specs.Scopes.{interface_at}
use Rattle.spec_names.specs.Directory.{AreInterfaces}
use Rattle.spec_names.specs.Directory.{AreRefinements}
use Rattle.spec_types.specs.Typing.{ExpressionReading}
use Rattle.spec_model.specs.Meanings.{WireMeaning}
use Rattle.spec_types.specs.TreeComponents.{typed_port, own_ports, interface_item_faults, contract_faults, refinement_item_faults, connection_faults}
use Rattle.spec_types.specs.TreeComponents.{tree_contract, tree_contracts, tree_wire, tree_wires, tree_target, target_kind_of, driven_target, sub_port_counts}
use Rattle.spec_types.specs.TreeComponents.{free_order}
use Rattle.spec_types.specs.TreeComponents as tree
use Rattle.spec_types.specs.Making.{contract_in, item_faults_by, targets_in, wire_in, wire_faults_by}
use Rattle.spec_types.specs.Tables.{interface_by, contracts_by, contract_faults_by, scope_port_count, order_by, wires_by, wire_faults_in, written_items}
use Rattle.spec_types.specs.Tables.{seen_by, wires_of_pair, wire_faults_of_pair}
use Rattle.spec_types.specs.Walks.{Interface, Refinement, component_ports, target_by, kind_by, ArePortsOf, AreAllPorts, IsSeenBy}
use Rattle.spec_types.specs.Walks as code
use Rattle.spec_types.proofs.Making.{filter_map-map, flat_map-map}
use Rattle.spec_types.proofs.Zips.{map_of_map}
use Rattle.spec_types.proofs.Readings.{contract_reading_is, connection_reading_is, target_is, target_kind_is, position-within, there, standing}

-- ports

pub all_ports_are : (cs : List Component) (tables : List InterfaceTables) → AreInterfaces cs tables
    → AreAllPorts cs (map interface_by (zip tables (map (λ (c : Component). own_ports c.interface) cs)))
all_ports_are [] [] are = tt
all_ports_are [] (t ∷ tables) are = absurd are
all_ports_are (c ∷ cs) [] are = absurd are
all_ports_are (c ∷ cs) (t ∷ tables) are = (record { places = are.0.ports; ports_are = refl }, all_ports_are cs tables are.1)

-- contracts

interface_contracts : (items : List InterfaceItem) (i : Interface) → ArePortsOf (map item_tree items) i
    → filter_map (contract_in (code.contract_reading_by i)) items ≡ tree_contracts (map item_tree items)
interface_contracts items i is =
    ap (λ (r : ExpressionReading). filter_map (contract_in r) items) (contract_reading_is (map item_tree items) i is)
    ∙ sym (filter_map-map (tree_contract (tree.contract_reading (map item_tree items))) item_tree items)

interface_faults : (items : List InterfaceItem) (i : Interface) → ArePortsOf (map item_tree items) i
    → flat_map (item_faults_by (code.contract_reading_by i)) items ≡ contract_faults (map item_tree items)
interface_faults items i is =
    ap (λ (r : ExpressionReading). flat_map (item_faults_by r) items) (contract_reading_is (map item_tree items) i is)
    ∙ sym (flat_map-map (interface_item_faults (tree.contract_reading (map item_tree items))) item_tree items)

pub contracts_are : (tcs : List TreeComponent) (scopes : List Interface) → AreAllPorts (component_trees tcs) scopes
    → map contracts_by (zip tcs scopes) ≡ map (λ (c : Component). tree_contracts c.interface) (component_trees tcs)
contracts_are [] scopes are = refl
contracts_are (c ∷ tcs) [] are = absurd are
contracts_are (c ∷ tcs) (i ∷ scopes) are = λ j. interface_contracts c.interface i are.0 j ∷ contracts_are tcs scopes are.1 j

pub contract_faults_are : (tcs : List TreeComponent) (scopes : List Interface)
    → AreAllPorts (component_trees tcs) scopes
    → flat_map contract_faults_by (zip tcs scopes) ≡ flat_map (λ (c : Component). contract_faults c.interface)
    (component_trees tcs)
contract_faults_are [] scopes are = refl
contract_faults_are (c ∷ tcs) [] are = absurd are
contract_faults_are (c ∷ tcs) (i ∷ scopes) are = λ j. interface_faults c.interface i are.0 j ++ contract_faults_are tcs scopes are.1 j

-- connections

counted_by : (all : List Component) (scopes : List Interface) → AreAllPorts all scopes → (text : List ℕ) (o : Option ℕ)
    → component_place all text ≡ o
    → scope_port_count scopes o ≡ length (port_declarations (option_map_or (interface_at all) o []))
counted_by all scopes are text None e = refl
counted_by all scopes are text (Some k) e =
    let found = there all k (position-within (λ (x : Component). is_named text x.name) all k e) in
    let stand = standing all scopes are k found.0 found.1 in
    ap (λ o. option_map_or (λ (i : Interface). length i.ports) o 0) stand.stands
    ∙ (ap length stand.ports.ports_are
    ∙ (length-map (port_declarations found.0.interface) typed_port
    ∙ ap (λ o. length (port_declarations (option_map_or (λ (x : Component). x.interface) o []))) (sym found.1)))

count_is : (all : List Component) (scopes : List Interface) → AreAllPorts all scopes → (text : List ℕ)
    → scope_port_count scopes (component_place all text) ≡ length (port_declarations (declared_interface all text))
count_is all scopes are text = counted_by all scopes are text (component_place all text) refl

parts_of : (o : Option (List RefinementItem))
    → option_map_or (λ (parts : List RefinementItemTree). parts) (option_map (map refinement_item_tree) o) []
    ≡ map refinement_item_tree (option_map_or (λ (items : List RefinementItem). items) o [])
parts_of None = refl
parts_of (Some items) = refl

parts_are : (tc : TreeComponent) → refinement_parts (component_tree tc) ≡ map refinement_item_tree (written_items tc)
parts_are tc = parts_of tc.refinement

target_at : (all : List Component) (c : Component) (item : RefinementItem)
    → targets_in (tree_target all c) item ≡ driven_target all c (refinement_item_tree item)
target_at all c (refinement.Sub name component) = refl
target_at all c (refinement.Connection t e) = refl
target_at all c (refinement.Contract name parts) = refl

wire_at : (all : List Component) (c : Component) (r : ExpressionReading) (item : RefinementItem)
    → wire_in (tree_target all c) r item ≡ tree_wire all c r (refinement_item_tree item)
wire_at all c r (refinement.Sub name component) = refl
wire_at all c r (refinement.Connection t e) = refl
wire_at all c r (refinement.Contract name parts) = refl

wire_faults_at : (all : List Component) (c : Component) (r : ExpressionReading) (item : RefinementItem)
    → wire_faults_by (target_kind_of all c) r item ≡ refinement_item_faults all c r (refinement_item_tree item)
wire_faults_at all c r (refinement.Sub name component) = refl
wire_faults_at all c r (refinement.Connection t e) = refl
wire_faults_at all c r (refinement.Contract name parts) = refl

module _ (all : List Component) (tc : TreeComponent) (r : Refinement) (is : IsSeenBy all (component_tree tc) r) where
  abbrev c : Component
  c = component_tree tc

  abbrev items : List RefinementItem
  items = written_items tc

  own_count : length r.own.ports ≡ length (port_declarations c.interface)
  own_count = ap length is.own_is.ports_are ∙ length-map (port_declarations c.interface) typed_port

  sub_counts : map (scope_port_count r.scopes) r.components ≡ sub_port_counts all c
  sub_counts =
      ap (map (scope_port_count r.scopes)) is.components_are
      ∙ (map_of_map (scope_port_count r.scopes) (λ (sub : SubDeclaration). component_place all sub.component.text) (sub_declarations (refinement_parts c))
      ∙ ap (λ (f : SubDeclaration → ℕ). map f (sub_declarations (refinement_parts c))) (λ j sub. count_is all r.scopes is.scopes_are sub.component.text j))

  targets_are : filter_map (targets_in (target_by r)) items ≡ filter_map (driven_target all c) (refinement_parts c)
  targets_are =
      ap (λ (f : TargetTree → Target). filter_map (targets_in f) items) (λ j t. target_is all c r is t j)
      ∙ (ap (λ (f : RefinementItem → Option Target). filter_map f items) (λ j item. target_at all c item j)
      ∙ (sym (filter_map-map (driven_target all c) refinement_item_tree items) ∙ ap (filter_map (driven_target all c)) (sym (parts_are tc))))

  order_is : order_by r items ≡ free_order all c
  order_is = λ j. free_among (own_count j) (sub_counts j) (targets_are j)

  reading_is : code.connection_reading_by r (order_by r items) ≡ tree.connection_reading all c
  reading_is = connection_reading_is all c r (order_by r items) order_is is

  pub wires_are : wires_by r items ≡ tree_wires all c
  wires_are =
      (λ j. filter_map (wire_in (λ t. target_is all c r is t j) (reading_is j)) items)
      ∙ (ap (λ (f : RefinementItem → Option WireMeaning). filter_map f items) (λ j item. wire_at all c (tree.connection_reading all c) item j)
      ∙ (sym (filter_map-map (tree_wire all c (tree.connection_reading all c)) refinement_item_tree items)
      ∙ ap (filter_map (tree_wire all c (tree.connection_reading all c))) (sym (parts_are tc))))

  pub wire_faults_are : wire_faults_in r items ≡ connection_faults all c
  wire_faults_are =
      (λ j. flat_map (wire_faults_by (λ t. target_kind_is all c r is t j) (reading_is j)) items)
      ∙ (ap (λ (f : RefinementItem → List FaultSite). flat_map f items) (λ j item. wire_faults_at all c (tree.connection_reading all c) item j)
      ∙ (sym (flat_map-map (refinement_item_faults all c (tree.connection_reading all c)) refinement_item_tree items)
      ∙ ap (flat_map (refinement_item_faults all c (tree.connection_reading all c))) (sym (parts_are tc))))

module _ (all : List Component) (scopes : List Interface) (are_all : AreAllPorts all scopes) where
  seen : (tc : TreeComponent) (i : Interface) (t : RefinementTables) (cs : List Component) (is : List Interface) (ts : List RefinementTables)
      → AreAllPorts (component_tree tc ∷ cs) (i ∷ is) → AreRefinements all (component_tree tc ∷ cs) (t ∷ ts)
      → IsSeenBy all (component_tree tc) (seen_by scopes i t)
  seen tc i t cs is ts ports tables = record {
    own_is = ports.0;
    subs_are = tables.0.subs;
    components_are = tables.0.places;
    scopes_are = are_all;
  }

  pub all_wires_are : (tcs : List TreeComponent) (is : List Interface) (ts : List RefinementTables)
      → AreAllPorts (component_trees tcs) is
      → AreRefinements all (component_trees tcs) ts
      → map (wires_of_pair scopes) (zip (zip tcs is) ts) ≡ map (tree_wires all) (component_trees tcs)
  all_wires_are [] is ts ports tables = refl
  all_wires_are (tc ∷ tcs) [] ts ports tables = absurd ports
  all_wires_are (tc ∷ tcs) (i ∷ is) [] ports tables = absurd tables
  all_wires_are (tc ∷ tcs) (i ∷ is) (t ∷ ts) ports tables = λ j.
      wires_are all tc (seen_by scopes i t) (seen tc i t (component_trees tcs) is ts ports tables) j ∷ all_wires_are tcs is ts ports.1 tables.1 j

  pub all_wire_faults_are : (tcs : List TreeComponent) (is : List Interface) (ts : List RefinementTables)
      → AreAllPorts (component_trees tcs) is
      → AreRefinements all (component_trees tcs) ts → flat_map (wire_faults_of_pair scopes) (zip (zip tcs is) ts)
      ≡ flat_map (connection_faults all) (component_trees tcs)
  all_wire_faults_are [] is ts ports tables = refl
  all_wire_faults_are (tc ∷ tcs) [] ts ports tables = absurd ports
  all_wire_faults_are (tc ∷ tcs) (i ∷ is) [] ports tables = absurd tables
  all_wire_faults_are (tc ∷ tcs) (i ∷ is) (t ∷ ts) ports tables = λ j.
      wire_faults_are all tc (seen_by scopes i t) (seen tc i t (component_trees tcs) is ts ports tables) j ++ all_wire_faults_are tcs is ts ports.1 tables.1 j
