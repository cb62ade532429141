-- Serves proofs only: what the typed expressions and the ports of the code stand for.

use Rattle.std.specs.Prelude.{◌≡◌, ℕ, Bool, true, false, not, Option, Some, None, option_map, option_and_then, cond}
use Rattle.std.specs.Prelude.{nat_eq, List, [], ◌∷◌, map, slice_get}
use Rattle.oss_base.specs.declared.ids.SubId.{SubId}
use Rattle.port_types.specs.declared.types.PortId.{PortId}
use Rattle.port_types.specs.declared.types.PortType.{PortType}
use Rattle.port_types.specs.declared.types.PortType.TheVariants as kind
use Rattle.oss_syntax.specs.declared.refinement.TargetTree.{TargetTree}
use Rattle.oss_syntax.specs.declared.refinement.TargetTree.TheVariants as targets
use Rattle.spec_types.specs.declared.operators.Comparison.{Comparison}
use Rattle.spec_types.specs.declared.operators.Comparison.TheVariants as compare
use Rattle.spec_types.specs.declared.operators.Connective.{Connective}
use Rattle.spec_types.specs.declared.operators.Connective.TheVariants as connect
use Rattle.typed_ltl.specs.Formulas.{Ltl, meaning, number_of, choice_of}
use Rattle.typed_ltl.specs.Formulas as ltl
use Rattle.spec_types.specs.declared.typed.Typed.{Typed}
use Rattle.spec_types.specs.declared.typed.Typed.TheVariants as code
use Rattle.spec_types.specs.declared.ports.PortRead.{PortRead}
use Rattle.spec_types.specs.declared.scope.FoundPort.{FoundPort}
use Rattle.spec_types.specs.declared.scope.PortScope.{PortScope}
use Rattle.spec_types.specs.declared.scope.RefinementScope.{RefinementScope}
use Rattle.spec_types.specs.declared.scope.Scope.{Scope}
use Rattle.spec_types.specs.declared.scope.Scope.TheVariants as scopes
use Rattle.spec_model.specs.declared.port.OwnPort.{OwnPort}
use Rattle.spec_model.specs.declared.wire.Target.{Target}
use Rattle.spec_model.specs.Architecture.{target}
use Rattle.oss_syntax.specs.Trees.{Item, Component}
use Rattle.spec_names.specs.Tables.{entry_place}
use Rattle.spec_names.specs.Scopes.{SubDeclaration, sub_declarations, refinement_parts, port_place, sub_place}
use Rattle.spec_names.specs.Scopes.{component_place}
use Rattle.spec_types.specs.TreeComponents.{own_ports, free_number}
use Rattle.spec_types.specs.Typing.{PortReading, ExpressionReading, equality, at_most}
use Rattle.spec_types.specs.Typing as specs

abbrev pub typed : Typed → specs.Typed
typed (code.Truth f) = specs.Formula (meaning f)
typed (code.Number t values) = specs.Term (number_of t) values
typed (code.Choice p set) = specs.Pick (choice_of p) set.names.now

abbrev pub port : PortRead → PortReading
port p = record { number = p.number.0; kind = p.kind.now }

-- a comparison of two operands
abbrev pub compared_by : Comparison → specs.Typed → specs.Typed → Ltl
compared_by compare.Equal a b = equality a b
compared_by compare.NotEqual a b = ltl.Not (equality a b)
compared_by compare.Less a b = ltl.Not (at_most b a)
compared_by compare.AtMost a b = at_most a b
compared_by compare.Greater a b = ltl.Not (at_most a b)
compared_by compare.AtLeast a b = at_most b a

-- a connective between two formulas
abbrev pub connected_by : Connective → Ltl → Ltl → Ltl
connected_by connect.Until f g = ltl.Until f g
connected_by connect.Releases f g = ltl.Releases f g
connected_by connect.And f g = ltl.And f g
connected_by connect.Or f g = ltl.Or f g
connected_by connect.Implies f g = ltl.Implies f g
connected_by connect.Iff f g = ltl.Iff f g

-- a port's number with its count
abbrev pub counted_port : ℕ × ℕ → PortId × ℕ
counted_port entry = (record { 0 = entry.0 }, entry.1)

-- how often a port has occurred
abbrev pub occurrences : List (PortId × ℕ) → ℕ → ℕ
occurrences [] port = 0
occurrences (read ∷ uses) port = cond (nat_eq port read.0.0) read.1 (occurrences uses port)

-- scopes

-- a port with its place among those of its interface
pub record Placed : Type 0 where
  pub place : ℕ
  pub port : OwnPort

abbrev pub found : FoundPort → Placed
found f = record { place = f.place; port = f.port.now }

-- the ports of an interface with a table of their places
pub record Interface : Type 0 where
  pub table : List (List ℕ × ℕ)
  pub ports : List OwnPort

abbrev pub interface : PortScope → Interface
interface scope = record { table = scope.table.now; ports = scope.ports.now }

abbrev pub placed_at : List OwnPort → ℕ → Option Placed
placed_at ports place = option_map (λ (p : OwnPort). record { place = place; port = p }) (slice_get ports place)

abbrev pub find_port : Interface → List ℕ → Option Placed
find_port i text = option_and_then (placed_at i.ports) (entry_place i.table text)

pub record Refinement : Type 0 where
  pub own : Interface
  pub subs : List (List ℕ × ℕ)
  pub components : List (Option ℕ)
  pub scopes : List Interface

abbrev pub refinement : RefinementScope → Refinement
refinement scope = record {
  own = interface scope.own;
  subs = scope.subs.now;
  components = scope.components.now;
  scopes = map interface scope.scopes.now;
}

abbrev pub component_ports : List Interface → Option ℕ → Option Interface
component_ports scopes component = option_and_then (slice_get scopes) component

abbrev pub sub_interface_by : Refinement → ℕ → Option Interface
sub_interface_by r sub = option_and_then (component_ports r.scopes) (slice_get r.components sub)

-- a subcomponent with a port of its component

pub record PlacedInSub : Type 0 where
  pub sub : ℕ
  pub placed : Placed

abbrev pub found_sub : ℕ × FoundPort → PlacedInSub
found_sub f = record { sub = f.0; placed = found f.1 }

abbrev pub placed_in : List ℕ → ℕ → Interface → Option PlacedInSub
placed_in port s i = option_map (λ (p : Placed). record { sub = s; placed = p }) (find_port i port)

abbrev pub placed_in_sub : Refinement → List ℕ → ℕ → Option PlacedInSub
placed_in_sub r port s = option_and_then (placed_in port s) (sub_interface_by r s)

abbrev pub find_sub_port : Refinement → List ℕ → List ℕ → Option PlacedInSub
find_sub_port r sub port = option_and_then (placed_in_sub r port) (entry_place r.subs sub)

-- readings

abbrev pub own_port_read : Option Placed → Option PortReading
own_port_read o = option_map (λ (p : Placed). record { number = p.place; kind = p.port.kind }) o

abbrev pub same_direction : Bool → Bool → Bool
same_direction true input = input
same_direction false input = not input

abbrev pub free_port_read : List Target → Option SubId → Bool → Option Placed → Option PortReading
free_port_read order sub input None = None
free_port_read order sub input (Some p) =
    cond (same_direction p.port.input input) (Some (record {
      number = free_number order (target sub p.place);
      kind = p.port.kind;
    })) None

abbrev pub free_sub_port : List Target → Option PlacedInSub → Option PortReading
free_sub_port order o = option_and_then (λ (f : PlacedInSub). free_port_read order (Some (record { 0 = f.sub })) false
    (Some f.placed)) o

abbrev pub contract_reading_by : Interface → ExpressionReading
contract_reading_by i = record {
  bare = λ text. own_port_read (find_port i text);
  dotted = λ sub port. None;
  wanted = λ text. own_port_read (find_port i text);
}

abbrev pub connection_reading_by : Refinement → List Target → ExpressionReading
connection_reading_by r order = record {
  bare = λ text. free_port_read order None true (find_port r.own text);
  dotted = λ sub port. free_sub_port order (find_sub_port r sub port);
  wanted = λ text. free_port_read order None true (find_port r.own text);
}

abbrev pub scope_reading : Scope → ExpressionReading
scope_reading (scopes.Contract own) = contract_reading_by (interface own)
scope_reading (scopes.Connection scope order) = connection_reading_by (refinement scope) order.now

-- targets

abbrev pub directed_target : Bool → Option SubId → Option Placed → Target
directed_target input sub None = target None 0
directed_target input sub (Some p) = cond (same_direction p.port.input input) (target sub p.place) (target None 0)

abbrev pub placed_target : Option PlacedInSub → Target
placed_target None = target None 0
placed_target (Some f) = directed_target true (Some (record { 0 = f.sub })) (Some f.placed)

abbrev pub target_by : Refinement → TargetTree → Target
target_by r (targets.Own port) = directed_target false None (find_port r.own port.text)
target_by r (targets.OfSub sub port) = placed_target (find_sub_port r sub.text port.text)

abbrev pub directed_kind : Bool → Option Placed → PortType
directed_kind input None = kind.Bool
directed_kind input (Some p) = cond (same_direction p.port.input input) p.port.kind kind.Bool

abbrev pub kind_by : Refinement → TargetTree → PortType
kind_by r (targets.Own port) = directed_kind false (find_port r.own port.text)
kind_by r (targets.OfSub sub port) = directed_kind true (option_map (λ (f : PlacedInSub). f.placed)
    (find_sub_port r sub.text port.text))

-- tables that tell what a text declares

-- the ports of an interface with a table of the places of their names
pub record ArePortsOf (items : List Item) (i : Interface) : Type 0 where
  pub places : (text : List ℕ) → entry_place i.table text ≡ port_place items text
  pub ports_are : i.ports ≡ own_ports items

-- each component has the ports at its place
abbrev pub AreAllPorts : List Component → List Interface → Type 0
AreAllPorts [] [] = Unit {0}
AreAllPorts [] (i ∷ is) = ⊥
AreAllPorts (c ∷ cs) [] = ⊥
AreAllPorts (c ∷ cs) (i ∷ is) = ArePortsOf c.interface i × AreAllPorts cs is

-- what a refinement sees, by tables
pub record IsSeenBy (all : List Component) (c : Component) (r : Refinement) : Type 0 where
  pub own_is : ArePortsOf c.interface r.own
  pub subs_are : (text : List ℕ) → entry_place r.subs text ≡ sub_place (refinement_parts c) text
  pub components_are : r.components
      ≡ map (λ (sub : SubDeclaration). component_place all sub.component.text) (sub_declarations (refinement_parts c))
  pub scopes_are : AreAllPorts all r.scopes
