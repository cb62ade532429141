-- What the components of a text stand for: their ports with their types, their contracts and connections
-- with typed expressions, and where their types do not fit (components, contracts and their refinement: Cimatti and
-- Tonetta, Contracts-refinement proof system for component-based embedded systems, 2015).

use Rattle.std.specs.Prelude.{◌≡◌, ℕ, ℤ, pos, neg_ℤ, Bool, true, false, ◌++◌, List, [], ◌∷◌, length, map, filter_map}
use Rattle.std.specs.Prelude.{Option, Some, None, unwrap_or, option_map, position, slice_get, int_le}
use Rattle.std.specs.Option.{option_map_or}
use Rattle.std.specs.List.{flat_map}
use Rattle.oss_base.specs.declared.fault.FaultKind.TheVariants as kinds
use Rattle.port_types.specs.declared.types.PortType.{PortType}
use Rattle.port_types.specs.declared.types.PortType.TheVariants as kind
use Rattle.oss_syntax.specs.declared.words.Word.{Word}
use Rattle.oss_syntax.specs.declared.types.BoundTree.{BoundTree}
use Rattle.oss_syntax.specs.declared.types.TypeTree.{TypeTree}
use Rattle.oss_syntax.specs.declared.types.TypeTree.TheVariants as types
use Rattle.oss_syntax.specs.declared.refinement.TargetTree.{TargetTree}
use Rattle.oss_syntax.specs.Trees.{Item, Port, RefinementItemTree, Sub, Connection, Refined, Component}
use Rattle.oss_syntax.specs.Trees as trees
use Rattle.spec_model.specs.declared.port.OwnPort.{OwnPort}
use Rattle.spec_model.specs.declared.contract.Contract.{Contract}
use Rattle.spec_model.specs.declared.wire.Target.{Target}
use Rattle.spec_model.specs.declared.wire.Wire.{Wire}
use Rattle.spec_model.specs.Architecture.{target, same_target}
use Rattle.spec_model.specs.Meanings.{ContractMeaning, contract_meaning, SourceMeaning, TruthSource, NumberSource}
use Rattle.spec_model.specs.Meanings.{ChoiceSource, WireMeaning, wire_meaning}
use Rattle.spec_model.specs.FreeRows.{free_among}
use Rattle.spec_names.specs.Scopes.{PortDeclaration, port_declarations, SubDeclaration, sub_declarations}
use Rattle.spec_names.specs.Scopes.{refinement_parts, sub_interface_at, NameMeaning, Scope, target_meaning}
use Rattle.spec_names.specs.Scopes.{contract_scope, connection_scope}
use Rattle.spec_names.specs.Scopes as names
use Rattle.oss_base.specs.declared.sites.FaultSite.{FaultSite}
use Rattle.oss_base.specs.Sites.{first_of}
use Rattle.spec_types.specs.declared.components.TypedComponents.{TypedComponents}
use Rattle.spec_types.specs.declared.components.Types.{Types}
use Rattle.spec_types.specs.declared.components.Types.TheVariants as outcome
use Rattle.spec_types.specs.Typing.{Typed, PortReading, ExpressionReading, typed_of, formula_in}
use Rattle.spec_types.specs.Typing as typed
use Rattle.spec_types.specs.TypeFaults.{formula_faults, source_faults}
use Rattle.spec_types.specs.Uses.{expression_uses}

-- types

abbrev pub signed : Bool → ℕ → ℤ
signed true value = neg_ℤ (pos value)
signed false value = pos value

abbrev pub bound : BoundTree → ℤ
bound b = signed b.negative b.value

abbrev pub type_of : TypeTree → PortType
type_of types.Boolean = kind.Bool
type_of types.Event = kind.Bool
type_of (types.Range lo hi) = kind.Range (bound lo) (bound hi)
type_of (types.Enum words) = kind.Enum (map (λ (w : Word). w.text) words)

-- a range is empty where its first bound is over its second
abbrev pub empty_unless : Bool → ℕ → List FaultSite
empty_unless true offset = []
empty_unless false offset = record { kind = kinds.F17; offset = offset } ∷ []

abbrev pub range_faults : TypeTree → List FaultSite
range_faults types.Boolean = []
range_faults types.Event = []
range_faults (types.Range lo hi) = empty_unless (int_le (bound lo) (bound hi)) lo.span.start
range_faults (types.Enum words) = []

-- ports

abbrev pub typed_port : PortDeclaration → OwnPort
typed_port port = record { name = port.name.text; input = port.input; kind = type_of port.kind }

abbrev pub own_ports : List Item → List OwnPort
own_ports interface = map typed_port (port_declarations interface)

-- the type of the port at a place; a place without a port counts as boolean
abbrev pub kind_at : List Item → ℕ → PortType
kind_at interface place = option_map_or (λ (port : PortDeclaration). type_of port.kind) (slice_get
    (port_declarations interface) place) kind.Bool

-- What a name means as a port: an enumerator and a name that means nothing are none.
abbrev pub port_meant : (ℕ → PortReading) → (ℕ → ℕ → PortReading) → Option NameMeaning → Option PortReading
port_meant own of_sub None = None
port_meant own of_sub (Some (names.OwnPort place)) = Some (own place)
port_meant own of_sub (Some (names.SubPort sub place)) = Some (of_sub sub place)
port_meant own of_sub (Some names.Enumerator) = None

abbrev pub reading_in : (ℕ → PortReading) → (ℕ → ℕ → PortReading) → Scope → ExpressionReading
reading_in own of_sub scope = record {
  bare = λ text. port_meant own of_sub (scope.bare text);
  dotted = λ sub port. port_meant own of_sub (scope.dotted sub port);
  wanted = λ text. option_map own (scope.wanted_port text);
}

-- contracts: a port has its place among the own ports

abbrev pub own_reading : List Item → ℕ → PortReading
own_reading interface place = record { number = place; kind = kind_at interface place }

abbrev pub no_reading : ℕ → ℕ → PortReading
no_reading sub place = record { number = place; kind = kind.Bool }

abbrev pub contract_reading : List Item → ExpressionReading
contract_reading interface = reading_in (own_reading interface) no_reading (contract_scope interface)

-- connections: a port has its place in the free order

-- a target that means nothing has been refused before; it counts as the first own port
abbrev pub target_of_meaning : Option NameMeaning → Target
target_of_meaning None = target None 0
target_of_meaning (Some (names.OwnPort place)) = target None place
target_of_meaning (Some (names.SubPort sub place)) = target (Some (record { 0 = sub })) place
target_of_meaning (Some names.Enumerator) = target None 0

abbrev pub tree_target : List Component → Component → TargetTree → Target
tree_target all c t = target_of_meaning (target_meaning all c.interface (refinement_parts c) t)

abbrev pub driven_target : List Component → Component → RefinementItemTree → Option Target
driven_target all c (Sub name component) = None
driven_target all c (Connection t e) = Some (tree_target all c t)
driven_target all c (Refined name parts) = None

-- the ports of the component of the subcomponent at a place
abbrev pub ports_of_sub : List Component → Component → ℕ → List PortDeclaration
ports_of_sub all c sub = port_declarations (sub_interface_at all (refinement_parts c) sub)

abbrev pub sub_port_counts : List Component → Component → List ℕ
sub_port_counts all c = map (λ (s : SubDeclaration). length (port_declarations
    (names.declared_interface all s.component.text))) (sub_declarations (refinement_parts c))

abbrev pub free_order : List Component → Component → List Target
free_order all c = free_among (length (port_declarations c.interface)) (sub_port_counts all c) (filter_map
    (driven_target all c) (refinement_parts c))

-- The place of a port in the free order. A port that a connection drives is not read by one, so it has been
-- refused before; it counts as the first.
abbrev pub free_number : List Target → Target → ℕ
free_number order t = unwrap_or (position (same_target t) order) 0

abbrev pub own_free_reading : List Component → Component → ℕ → PortReading
own_free_reading all c place = record {
  number = free_number (free_order all c) (target None place);
  kind = kind_at c.interface place;
}

abbrev pub sub_free_reading : List Component → Component → ℕ → ℕ → PortReading
sub_free_reading all c sub place = record {
  number = free_number (free_order all c) (target (Some (record { 0 = sub })) place);
  kind = kind_at (sub_interface_at all (refinement_parts c) sub) place;
}

abbrev pub connection_reading : List Component → Component → ExpressionReading
connection_reading all c =
    reading_in (own_free_reading all c) (sub_free_reading all c) (connection_scope all c.interface (refinement_parts c))

-- the type of a connection's target
abbrev pub target_kind : List Component → Component → Option NameMeaning → PortType
target_kind all c None = kind.Bool
target_kind all c (Some (names.OwnPort place)) = kind_at c.interface place
target_kind all c (Some (names.SubPort sub place)) = kind_at (sub_interface_at all (refinement_parts c) sub) place
target_kind all c (Some names.Enumerator) = kind.Bool

-- faults

abbrev pub range_faults_in : List Item → List FaultSite
range_faults_in interface = flat_map (λ (port : PortDeclaration). range_faults port.kind) (port_declarations interface)

abbrev pub interface_item_faults : ExpressionReading → Item → List FaultSite
interface_item_faults reading (Port input name kind) = []
interface_item_faults reading (trees.Contract name assume guarantee) = formula_faults reading assume
    ++ formula_faults reading guarantee

abbrev pub contract_faults : List Item → List FaultSite
contract_faults interface = flat_map (interface_item_faults (contract_reading interface)) interface

abbrev pub target_kind_of : List Component → Component → TargetTree → PortType
target_kind_of all c t = target_kind all c (target_meaning all c.interface (refinement_parts c) t)

abbrev pub refinement_item_faults : List Component → Component → ExpressionReading → RefinementItemTree → List FaultSite
refinement_item_faults all c reading (Sub name component) = []
refinement_item_faults all c reading (Connection t e) = source_faults reading (target_kind_of all c t) e
refinement_item_faults all c reading (Refined name parts) = []

abbrev pub connection_faults : List Component → Component → List FaultSite
connection_faults all c = flat_map (refinement_item_faults all c (connection_reading all c)) (refinement_parts c)

abbrev pub types_faults : List Component → List FaultSite
types_faults all =
    flat_map (λ (c : Component). range_faults_in c.interface) all
    ++ (flat_map (λ (c : Component). contract_faults c.interface) all ++ flat_map (connection_faults all) all)

-- what contracts and connections stand for

abbrev pub tree_contract : ExpressionReading → Item → Option ContractMeaning
tree_contract reading (Port input name kind) = None
tree_contract reading (trees.Contract name assume guarantee) = Some (record {
  name = name.text;
  assume = formula_in (typed_of reading assume);
  assume_uses = expression_uses reading assume;
  guarantee = formula_in (typed_of reading guarantee);
  guarantee_uses = expression_uses reading guarantee;
})

abbrev pub tree_contracts : List Item → List ContractMeaning
tree_contracts interface = filter_map (tree_contract (contract_reading interface)) interface

abbrev pub typed_source : Typed → SourceMeaning
typed_source (typed.Formula f) = TruthSource f
typed_source (typed.Term t values) = NumberSource t
typed_source (typed.Pick p names) = ChoiceSource p

abbrev pub tree_wire : List Component → Component → ExpressionReading → RefinementItemTree → Option WireMeaning
tree_wire all c reading (Sub name component) = None
tree_wire all c reading (Connection t e) =
    Some (record {
      target = tree_target all c t;
      source = typed_source (typed_of reading e);
      uses = expression_uses reading e;
    })
tree_wire all c reading (Refined name parts) = None

abbrev pub tree_wires : List Component → Component → List WireMeaning
tree_wires all c = filter_map (tree_wire all c (connection_reading all c)) (refinement_parts c)

-- what all components stand for, and what is answered of a text without a fault of names

abbrev pub contract_lists : List (List Contract) → List (List ContractMeaning)
contract_lists lists = map (λ (contracts : List Contract). map contract_meaning contracts) lists

abbrev pub wire_lists : List (List Wire) → List (List WireMeaning)
wire_lists lists = map (λ (wires : List Wire). map wire_meaning wires) lists

pub record AreTyped (all : List Component) (typed : TypedComponents) : Type 0 where
  pub ports_are : typed.ports ≡ map (λ (c : Component). own_ports c.interface) all
  pub contracts_are : contract_lists typed.contracts ≡ map (λ (c : Component). tree_contracts c.interface) all
  pub wires_are : wire_lists typed.wires ≡ map (tree_wires all) all

abbrev pub AnswersTypes : List Component → Types → Type 0
AnswersTypes all (outcome.Fault site) = first_of (types_faults all) ≡ Some site
AnswersTypes all (outcome.Typed typed) = (types_faults all ≡ []) × AreTyped all typed
