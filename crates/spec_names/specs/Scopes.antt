-- What the names of a specification mean where they stand (the textual language of components and
-- contracts of Cimatti, Dorigatti and Tonetta, OCRA: a tool for checking the refinement of temporal
-- contracts, 2013).
--
-- Where a name stands twice, the first counts for every reference. A component that does not exist has
-- no ports and no contracts. Components, ports, contracts and subcomponents are told by their places
-- among those of their list, counted from 0.
use Rattle.std.specs.Prelude.{ℕ, Bool, true, false, ◌||◌, not, if◌then◌else◌, List, [], filter_map, flat_map, Option}
use Rattle.std.specs.Prelude.{Some, None, is_some, option_map, option_and_then, slice_get, position, bytes_eq}
use Rattle.std.specs.Option.{option_map_or}
use Rattle.std.specs.List.{list_any}
use Rattle.oss_syntax.specs.declared.words.Word.{Word}
use Rattle.oss_syntax.specs.declared.words.PartWord.{PartWord}
use Rattle.oss_syntax.specs.declared.types.TypeTree.{TypeTree}
use Rattle.oss_syntax.specs.declared.types.TypeTree.TheVariants as type
use Rattle.oss_syntax.specs.declared.refinement.TargetTree.{TargetTree}
use Rattle.oss_syntax.specs.declared.refinement.TargetTree.TheVariants as targets
use Rattle.oss_syntax.specs.Trees.{Item, Port, Contract, RefinementItemTree, Sub, Connection, Refined, Component}

-- the word is this name
abbrev pub is_named : List ℕ → Word → Bool
is_named text word = bytes_eq text word.text

-- interfaces

-- a port as it is declared
pub record PortDeclaration : Type 0 where
  pub input : Bool
  pub name : Word
  pub kind : TypeTree

abbrev pub port_declaration : Item → Option PortDeclaration
port_declaration (Port input name kind) = Some (record { input = input; name = name; kind = kind })
port_declaration (Contract name assume guarantee) = None

abbrev pub port_declarations : List Item → List PortDeclaration
port_declarations interface = filter_map port_declaration interface

abbrev pub contract_word : Item → Option Word
contract_word (Port input name kind) = None
contract_word (Contract name assume guarantee) = Some name

abbrev pub contract_words : List Item → List Word
contract_words interface = filter_map contract_word interface

-- the enumerators of a type, and those of all port types of an interface
abbrev pub type_enumerators : TypeTree → List Word
type_enumerators type.Boolean = []
type_enumerators type.Event = []
type_enumerators (type.Range lo hi) = []
type_enumerators (type.Enum names) = names

abbrev pub item_enumerators : Item → List Word
item_enumerators (Port input name kind) = type_enumerators kind
item_enumerators (Contract name assume guarantee) = []

abbrev pub enumerators : List Item → List Word
enumerators interface = flat_map item_enumerators interface

abbrev pub is_enumerator : List Item → List ℕ → Bool
is_enumerator interface text = list_any (is_named text) (enumerators interface)

-- the first port of this name, and the first contract
abbrev pub port_place : List Item → List ℕ → Option ℕ
port_place interface text = position (λ (port : PortDeclaration). is_named text port.name) (port_declarations interface)

abbrev pub contract_place : List Item → List ℕ → Option ℕ
contract_place interface text = position (is_named text) (contract_words interface)

-- the first port of this name, if it is an input (where this is asked), or if it is an output
abbrev pub has_direction : Bool → PortDeclaration → Bool
has_direction true port = port.input
has_direction false port = not port.input

abbrev pub directed_place : Bool → List Item → ℕ → Option ℕ
directed_place input interface place =
    if option_map_or (has_direction input) (slice_get (port_declarations interface) place) false then Some place else
    None

abbrev pub directed_port : Bool → List Item → List ℕ → Option ℕ
directed_port input interface text = option_and_then (directed_place input interface) (port_place interface text)

-- components

-- the first component of this name
abbrev pub component_place : List Component → List ℕ → Option ℕ
component_place components text = position (λ (c : Component). is_named text c.name) components

-- the interface of the component at a place, and of the component of a name
abbrev pub interface_at : List Component → ℕ → List Item
interface_at components place = option_map_or (λ (c : Component). c.interface) (slice_get components place) []

abbrev pub declared_interface : List Component → List ℕ → List Item
declared_interface components text = option_map_or (interface_at components) (component_place components text) []

-- refinements

abbrev pub refinement_parts : Component → List RefinementItemTree
refinement_parts c = option_map_or (λ (parts : List RefinementItemTree). parts) c.refinement []

-- a subcomponent, and the name of its component
pub record SubDeclaration : Type 0 where
  pub name : Word
  pub component : Word

abbrev pub sub_declaration : RefinementItemTree → Option SubDeclaration
sub_declaration (Sub name component) = Some (record { name = name; component = component })
sub_declaration (Connection target source) = None
sub_declaration (Refined name parts) = None

abbrev pub sub_declarations : List RefinementItemTree → List SubDeclaration
sub_declarations parts = filter_map sub_declaration parts

-- the first subcomponent of this name
abbrev pub sub_place : List RefinementItemTree → List ℕ → Option ℕ
sub_place parts text = position (λ (sub : SubDeclaration). is_named text sub.name) (sub_declarations parts)

-- the interface of the component of the subcomponent at a place, and of the one of a name
abbrev pub sub_interface_at : List Component → List RefinementItemTree → ℕ → List Item
sub_interface_at components parts place =
    option_map_or (λ (sub : SubDeclaration). declared_interface components sub.component.text)
    (slice_get (sub_declarations parts) place) []

abbrev pub sub_interface : List Component → List RefinementItemTree → List ℕ → List Item
sub_interface components parts text = option_map_or (sub_interface_at components parts) (sub_place parts text) []

-- meanings

pub data NameMeaning : Type 0 where
  OwnPort : ℕ → NameMeaning  -- a port of the own interface
  SubPort : ℕ → ℕ → NameMeaning  -- a subcomponent, and a port of its component
  Enumerator : NameMeaning

abbrev pub enumerator_if : Bool → Option NameMeaning
enumerator_if true = Some Enumerator
enumerator_if false = None

-- What the names of an expression mean: a bare name, `SUB.PORT`, and the port that `next` and its kin
-- want.
pub record Scope : Type 0 where
  pub bare : List ℕ → Option NameMeaning
  pub dotted : List ℕ → List ℕ → Option NameMeaning
  pub wanted_port : List ℕ → Option ℕ

-- In a contract a name is a port of the own interface, else an enumerator of a port type of it.
abbrev pub port_or : Option ℕ → Option NameMeaning → Option NameMeaning
port_or (Some place) other = Some (OwnPort place)
port_or None other = other

abbrev pub contract_scope : List Item → Scope
contract_scope interface = record {
  bare = λ text. port_or (port_place interface text) (enumerator_if (is_enumerator interface text));
  dotted = λ sub port. None;
  wanted_port = port_place interface;
}

-- the port of this direction of a subcomponent
abbrev pub sub_port : Bool → List Component → List RefinementItemTree → List ℕ → List ℕ → Option NameMeaning
sub_port input components parts sub port =
    option_and_then (λ (s : ℕ). option_map (SubPort s) (directed_port input (sub_interface_at components parts s) port))
    (sub_place parts sub)

-- a refinement sees the enumerators of its own interface and of the components of all its subcomponents
abbrev pub sub_sees : List Component → List ℕ → SubDeclaration → Bool
sub_sees components text sub = is_enumerator (declared_interface components sub.component.text) text

abbrev pub sees_enumerator : List Component → List Item → List RefinementItemTree → List ℕ → Bool
sees_enumerator components interface parts text =
    is_enumerator interface text || list_any (sub_sees components text) (sub_declarations parts)

-- In a connection a bare name that is a port of the own interface must be an input, else it is an
-- enumerator; `SUB.PORT` is an output of a subcomponent.
abbrev pub connection_scope : List Component → List Item → List RefinementItemTree → Scope
connection_scope components interface parts = record {
  bare = λ text. (if is_some (port_place interface text) then option_map OwnPort (directed_port true interface text)
      else enumerator_if (sees_enumerator components interface parts text));
  dotted = sub_port false components parts;
  wanted_port = directed_port true interface;
}

-- A connection's target is an own output or an input of a subcomponent.
abbrev pub target_meaning : List Component → List Item → List RefinementItemTree → TargetTree → Option NameMeaning
target_meaning components interface parts (targets.Own port) = option_map OwnPort
    (directed_port false interface port.text)
target_meaning components interface parts (targets.OfSub sub port) = sub_port true components parts sub.text port.text

-- A part of a refined contract is a contract of a subcomponent: the places of both.
abbrev pub part_meaning : List Component → List RefinementItemTree → PartWord → Option (ℕ × ℕ)
part_meaning components parts part =
    option_and_then (λ (s : ℕ). option_map (λ (k : ℕ). (s, k))
    (contract_place (sub_interface_at components parts s) part.contract.text)) (sub_place parts part.sub.text)
