-- Serves proofs only: ports that are told by places, and which of them may be the value of which.

use Rattle.std.specs.Prelude.{◌≡◌, ℕ, Bool, true, false, List, Option, Some, None, option_map, option_and_then}
use Rattle.std.specs.Prelude.{◌&&◌, nat_eq, map, slice_get}
use Rattle.std.specs.List.{All}
use Rattle.port_types.specs.declared.types.PortType.{PortType}
use Rattle.spec_model.specs.declared.port.OwnPort.{OwnPort}
use Rattle.oss_syntax.specs.declared.expression.PortWord.{PortWord}
use Rattle.oss_syntax.specs.declared.expression.PortWord.TheVariants as port_word
use Rattle.oss_syntax.specs.declared.refinement.TargetTree.{TargetTree}
use Rattle.oss_syntax.specs.declared.refinement.TargetTree.TheVariants as targets
use Rattle.oss_syntax.specs.Expressions.{Tree, Name, Dotted, Numeral, Truth, Brackets, OfPort, Prefix, Binary}
use Rattle.spec_types.specs.declared.scope.RefinementScope.{RefinementScope}
use Rattle.spec_types.specs.declared.port_places.PortPlace.{PortPlace}
use Rattle.spec_types.specs.declared.known_fits.FittingPorts.{FittingPorts}
use Rattle.spec_types.specs.Typing.{Typed, port_as}
use Rattle.spec_types.specs.TypeFaults.{admits_source}
use Rattle.spec_types.specs.Walks.{Placed, Interface, interface, Refinement, find_port, PlacedInSub, find_sub_port, same_direction}

-- the type of the port at a place of a component, if it is there
abbrev pub kind_in_interface : ℕ → Interface → Option PortType
kind_in_interface port i = option_map (λ (p : OwnPort). p.kind) (slice_get i.ports port)

abbrev pub kind_of_place : List Interface → ℕ → ℕ → Option PortType
kind_of_place scopes component port = option_and_then (kind_in_interface port) (slice_get scopes component)

abbrev pub kind_in : List Interface → PortPlace → Option PortType
kind_in scopes place = kind_of_place scopes place.component place.port

-- two ports are told by the same places
abbrev pub is_same_port : PortPlace → PortPlace → Bool
is_same_port p q = nat_eq p.component q.component && nat_eq p.port q.port

-- a port of the one type may be the value of a port of the other, by whatever number it is read
abbrev pub admits_kind : PortType → PortType → Bool
admits_kind target source = admits_source target (port_as 0 false source)

-- the port at the one place may be the value of that at the other
abbrev pub AreFitting : List Interface → PortPlace → PortPlace → Type 0
AreFitting scopes target source = (wanted given : PortType) → kind_in scopes target ≡ Some wanted
    → kind_in scopes source ≡ Some given → admits_kind wanted given ≡ true

abbrev pub IsFitting : List Interface → FittingPorts → Type 0
IsFitting scopes pair = AreFitting scopes pair.target pair.source

-- the own ports are those at their place, and the pairs that are kept fit
pub record KnowsFits (scope : RefinementScope) (kept : List FittingPorts) : Type 0 where
  pub own_is : slice_get (map interface scope.scopes.now) scope.place ≡ Some (interface scope.own)
  pub fit : All (IsFitting (map interface scope.scopes.now)) kept

-- the port of a name in a component that may be missing
abbrev pub find_if_there : Option Interface → List ℕ → Option Placed
find_if_there o text = option_and_then (λ (i : Interface). find_port i text) o

-- what was found is a port of this direction, which stands at the place
pub record IsPortAt (scopes : List Interface) (place : PortPlace) (input : Bool) (o : Option Placed) : Type 0 where
  pub placed : Placed
  pub placed_is : o ≡ Some placed
  pub directed : same_direction placed.port.input input ≡ true
  pub kind_is : kind_in scopes place ≡ Some placed.port.kind

-- the expression is the port at the place
pub record IsPortRead (scopes : List Interface) (place : PortPlace) (e : Typed) : Type 0 where
  pub number : ℕ
  pub next : Bool
  pub kind : PortType
  pub read_is : e ≡ port_as number next kind
  pub kind_is : kind_in scopes place ≡ Some kind

-- the port that a target is, and its direction

abbrev pub placed_port : PlacedInSub → Placed
placed_port f = f.placed

abbrev pub found_target : Refinement → TargetTree → Option Placed
found_target r (targets.Own port) = find_port r.own port.text
found_target r (targets.OfSub sub port) = option_map placed_port (find_sub_port r sub.text port.text)

abbrev pub wants_input : TargetTree → Bool
wants_input (targets.Own port) = false
wants_input (targets.OfSub sub port) = true

-- the port that an expression reads and nothing else, and its direction

abbrev pub found_under : PortWord → Option Placed → Option Placed
found_under port_word.Next o = o
found_under port_word.Change o = None
found_under port_word.Rise o = None
found_under port_word.Fall o = None

abbrev pub found_source : Refinement → Tree → Option Placed
found_source r (Name name) = find_port r.own name.text
found_source r (Dotted sub port) = option_map placed_port (find_sub_port r sub.text port.text)
found_source r (Numeral value span) = None
found_source r (Truth value span) = None
found_source r (Brackets inside span) = found_source r inside
found_source r (OfPort word port span) = found_under word (find_port r.own port.text)
found_source r (Prefix word operand span) = None
found_source r (Binary word left right span) = None

abbrev pub reads_input : Tree → Bool
reads_input (Dotted sub port) = false
reads_input (Brackets inside span) = reads_input inside
reads_input _ = true
