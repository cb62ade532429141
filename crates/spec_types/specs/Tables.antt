-- Serves proofs only: what the tables of the names of a text tell.

use Rattle.std.specs.Prelude.{ℕ, List, [], length, map, filter_map, Option, Some, None}
use Rattle.std.specs.List.{flat_map}
use Rattle.std.specs.Option.{option_map_or}
use Rattle.oss_syntax.specs.declared.refinement.RefinementItem.{RefinementItem}
use Rattle.oss_syntax.specs.declared.component.TreeComponent.{TreeComponent}
use Rattle.oss_syntax.specs.Trees.{component_tree}
use Rattle.spec_names.specs.declared.interfaces.InterfaceTables.{InterfaceTables}
use Rattle.spec_names.specs.declared.refinements.RefinementTables.{RefinementTables}
use Rattle.spec_model.specs.declared.port.OwnPort.{OwnPort}
use Rattle.spec_model.specs.declared.contract.Contract.{Contract}
use Rattle.spec_model.specs.declared.wire.Target.{Target}
use Rattle.spec_model.specs.declared.wire.Wire.{Wire}
use Rattle.spec_model.specs.FreeRows.{free_among}
use Rattle.oss_base.specs.declared.sites.FaultSite.{FaultSite}
use Rattle.spec_types.specs.Typing.{ExpressionReading}
use Rattle.spec_model.specs.Meanings.{ContractMeaning, contract_meaning, WireMeaning, wire_meaning}
use Rattle.spec_types.specs.TreeComponents.{own_ports, range_faults_in}
use Rattle.spec_types.specs.Making.{contract_in, item_faults_by, targets_in, wire_in, wire_faults_by}
use Rattle.spec_types.specs.Walks.{Interface, Refinement, component_ports, contract_reading_by, connection_reading_by}
use Rattle.spec_types.specs.Walks.{target_by, kind_by}

-- both of two, if they are there
abbrev pub both : {A B : Type 0} → Option A → Option B → Option (A × B)
both None o = None
both (Some a) None = None
both (Some a) (Some b) = Some (a, b)

abbrev pub interface_by : InterfaceTables × List OwnPort → Interface
interface_by pair = record { table = pair.0.ports; ports = pair.1 }

-- the ports of a component and its empty ranges

abbrev pub ports_in : TreeComponent → List OwnPort
ports_in c = own_ports (component_tree c).interface

abbrev pub range_faults_of : TreeComponent → List FaultSite
range_faults_of c = range_faults_in (component_tree c).interface

-- the contracts of a component and their faults, by its interface
abbrev pub contracts_by : TreeComponent × Interface → List ContractMeaning
contracts_by pair = filter_map (contract_in (contract_reading_by pair.1)) pair.0.interface

abbrev pub contract_faults_by : TreeComponent × Interface → List FaultSite
contract_faults_by pair = flat_map (item_faults_by (contract_reading_by pair.1)) pair.0.interface

abbrev pub contract_meanings : List Contract → List ContractMeaning
contract_meanings contracts = map contract_meaning contracts

-- how many ports a component has, none where it is missing
abbrev pub scope_port_count : List Interface → Option ℕ → ℕ
scope_port_count scopes component =
    option_map_or (λ (i : Interface). length i.ports) (component_ports scopes component) 0

-- the free order, the connections and their faults, by tables

abbrev pub order_by : Refinement → List RefinementItem → List Target
order_by r items =
    free_among (length r.own.ports) (map (scope_port_count r.scopes) r.components) (filter_map (targets_in
    (target_by r)) items)

abbrev pub reading_by : Refinement → List RefinementItem → ExpressionReading
reading_by r items = connection_reading_by r (order_by r items)

abbrev pub wires_by : Refinement → List RefinementItem → List WireMeaning
wires_by r items = filter_map (wire_in (target_by r) (reading_by r items)) items

abbrev pub wire_faults_in : Refinement → List RefinementItem → List FaultSite
wire_faults_in r items = flat_map (wire_faults_by (kind_by r) (reading_by r items)) items

-- the connections of a component and their faults; a component without a refinement has none

abbrev pub written_items : TreeComponent → List RefinementItem
written_items c = option_map_or (λ (items : List RefinementItem). items) c.refinement []

abbrev pub wires_in : TreeComponent → Refinement → List WireMeaning
wires_in c r = wires_by r (written_items c)

abbrev pub wire_faults_of : TreeComponent → Refinement → List FaultSite
wire_faults_of c r = wire_faults_in r (written_items c)

abbrev pub wire_meanings : List Wire → List WireMeaning
wire_meanings wires = map wire_meaning wires

abbrev pub seen_by : List Interface → Interface → RefinementTables → Refinement
seen_by scopes own tables = record {
  own = own;
  subs = tables.subs;
  components = tables.components.items;
  scopes = scopes;
}

abbrev pub wires_of_pair : List Interface → (TreeComponent × Interface) × RefinementTables → List WireMeaning
wires_of_pair scopes pair = wires_in pair.0.0 (seen_by scopes pair.0.1 pair.1)

abbrev pub wire_faults_of_pair : List Interface → (TreeComponent × Interface) × RefinementTables → List FaultSite
wire_faults_of_pair scopes pair = wire_faults_of pair.0.0 (seen_by scopes pair.0.1 pair.1)
