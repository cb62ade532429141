-- Ports that a property reads, among all ports, and lassos widened from those to all: an abstraction that drops the
-- variables on which a property does not depend (Clarke, Grumberg and Peled, Model Checking, 1999: the cone of
-- influence reduction).
use Rattle.std.specs.Prelude.{◌≡◌, ℕ, ◌<◌, ◌↔◌, cond, false, List, map, length, All, AllPairs, Contains, nat_eq}
use Rattle.std.specs.Prelude.{slice_index_or}
use Rattle.std.specs.List.{list_any, position_or_len, range_with_len}
use Rattle.port_types.specs.declared.types.PortType.{PortType}
use Rattle.port_types.specs.declared.types.PortType.TheVariants as kind
use Rattle.port_types.specs.declared.types.Value.{Value}
use Rattle.port_types.specs.declared.types.Value.TheVariants as value
use Rattle.port_types.specs.Types.{values}
use Rattle.typed_ltl.specs.declared.lasso.Lasso.{Lasso}
use Rattle.typed_ltl.specs.Traces.{Trace, assignment}
use Rattle.first_lasso.specs.FormulaPorts.{seen_through}

-- The used ones of some ports, by their places, in the order of the ports.
pub record AreUsed (ports : List PortType) (used : List ℕ) : Type 0 where
  pub below : All (λ p. p < length ports) used
  pub rising : AllPairs (λ p q. p < q) used

-- the types at these places
abbrev pub types_at : List PortType → List ℕ → List PortType
types_at ports used = map (λ p. slice_index_or ports p kind.Bool) used

-- the place of a port among the used ones
abbrev pub used_place : List ℕ → ℕ → ℕ
used_place used p = position_or_len (nat_eq p) used

-- the first value of a type; a type without values has false
abbrev pub first_value : PortType → Value
first_value t = slice_index_or (values t) 0 (value.Bool false)

abbrev pub HasValue : PortType → Type 0
HasValue t = 0 < length (values t)

-- The value of the port at place p, where a state gives the used ports their values: any other port has the first value
-- of its type.
abbrev pub widened_value : List PortType → List ℕ → List Value → ℕ → Value
widened_value ports used state p =
    cond (list_any (nat_eq p) used)
    (assignment state (used_place used p)) (first_value (slice_index_or ports p kind.Bool))

abbrev pub widened_state : List PortType → List ℕ → List Value → List Value
widened_state ports used state = map (widened_value ports used state) (range_with_len 0 (length ports))

-- the lasso with each of its states widened
pub record IsWidened (ports : List PortType) (used : List ℕ) (lasso wide : Lasso) : Type 0 where
  pub states : wide.states ≡ map (widened_state ports used) lasso.states
  pub loop_at : wide.loop_at ≡ lasso.loop_at

-- The property `wide` of traces over all ports reads the used ones alone, and `narrow` is the same property of traces
-- over the used ports, numbered anew in their order.
pub record IsNarrowed (used : List ℕ) (wide narrow : Trace → Type 0) : Type 0 where
  pub reads : (w v : Trace) → ((i p : ℕ) → Contains used p → w i p ≡ v i p) → wide w → wide v
  pub same : (w : Trace) → narrow w ↔ wide (seen_through (used_place used) w)
