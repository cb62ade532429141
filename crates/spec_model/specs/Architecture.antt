-- What a specification describes: components with ports, contracts, subcomponents and connections
-- (Cimatti and Tonetta, Contracts-refinement proof system for component-based embedded systems, 2015).
-- A component that does not exist has no ports, contracts, subcomponents or connections.

use Rattle.std.specs.Prelude.{◌≡◌, ℕ, ◌<◌, Bool, true, false, ◌&&◌, List, [], ◌∷◌, ◌++◌, length, map, filter}
use Rattle.std.specs.Prelude.{Option, Some, None, option_map, nat_eq, slice_get, find}
use Rattle.std.specs.Option.{option_map_or, is_none}
use Rattle.std.specs.List.{flat_map, range_with_len, position_or_len}
use Rattle.oss_base.specs.declared.ids.ComponentId.{ComponentId}
use Rattle.oss_base.specs.declared.ids.ContractId.{ContractId}
use Rattle.oss_base.specs.declared.ids.SubId.{SubId}
use Rattle.spec_model.specs.declared.spec.Spec.{Spec}
use Rattle.spec_model.specs.declared.spec.Component.{Component}
use Rattle.spec_model.specs.declared.port.OwnPort.{OwnPort}
use Rattle.spec_model.specs.declared.port.FreePort.{FreePort}
use Rattle.spec_model.specs.declared.contract.Contract.{Contract}
use Rattle.spec_model.specs.declared.sub.Sub.{Sub}
use Rattle.spec_model.specs.declared.wire.Wire.{Wire}
use Rattle.spec_model.specs.declared.wire.Target.{Target}
use Rattle.spec_model.specs.declared.wire.Source.{Source}
use Rattle.spec_model.specs.declared.wire.Source.TheVariants as source
use Rattle.typed_ltl.specs.Formulas.{meaning, number_of, choice_of}
use Rattle.spec_model.specs.Expressions.{IsState, IsStateNumber, IsStateChoice, ReadsBelow}

abbrev pub ports_of : Spec → ComponentId → List OwnPort
ports_of spec c = option_map_or (λ (k : Component). k.ports) (slice_get spec.components c.0) []

abbrev pub contracts_of : Spec → ComponentId → List Contract
contracts_of spec c = option_map_or (λ (k : Component). k.contracts) (slice_get spec.components c.0) []

abbrev pub subs_of : Spec → ComponentId → List Sub
subs_of spec c = option_map_or (λ (k : Component). k.subs) (slice_get spec.components c.0) []

abbrev pub wires_of : Spec → ComponentId → List Wire
wires_of spec c = option_map_or (λ (k : Component). k.wires) (slice_get spec.components c.0) []

-- the component that a subcomponent is an instance of
abbrev pub sub_component : Spec → ComponentId → SubId → Option ComponentId
sub_component spec c s = option_map (λ (sub : Sub). sub.component) (slice_get (subs_of spec c) s.0)

-- the ports of the component itself, or of one of its subcomponents
abbrev pub ports_at : Spec → ComponentId → Option SubId → List OwnPort
ports_at spec c None = ports_of spec c
ports_at spec c (Some s) = option_map_or (ports_of spec) (sub_component spec c s) []

-- the port that a target names
abbrev pub port_at : Spec → ComponentId → Target → Option OwnPort
port_at spec c t = slice_get (ports_at spec c t.sub) t.port.0

abbrev pub target : Option SubId → ℕ → Target
target s k = record { sub = s; port = record { 0 = k } }

abbrev pub targets_at : Spec → ComponentId → Option SubId → List Target
targets_at spec c s = map (target s) (range_with_len 0 (length (ports_at spec c s)))

-- the ports that a refinement speaks of: the own ports in text order, then for each subcomponent in
-- text order its ports in text order
abbrev pub all_ports : Spec → ComponentId → List Target
all_ports spec c = targets_at spec c None
    ++ flat_map (λ k. targets_at spec c (Some (record { 0 = k }))) (range_with_len 0 (length (subs_of spec c)))

abbrev pub same_sub : Option SubId → Option SubId → Bool
same_sub None None = true
same_sub None (Some s) = false
same_sub (Some s) None = false
same_sub (Some s) (Some r) = nat_eq s.0 r.0

abbrev pub same_target : Target → Target → Bool
same_target t u = same_sub t.sub u.sub && nat_eq t.port.0 u.port.0

-- the connection that drives a port
abbrev pub connection : Spec → ComponentId → Target → Option Wire
connection spec c t = find (λ (w : Wire). same_target w.target t) (wires_of spec c)

-- the free ports: those that no connection drives
abbrev pub free_targets : Spec → ComponentId → List Target
free_targets spec c = filter (λ t. is_none (connection spec c t)) (all_ports spec c)

-- the place of a port in the free order
abbrev pub free_place : Spec → ComponentId → Target → ℕ
free_place spec c t = position_or_len (same_target t) (free_targets spec c)

-- a free port as it is shown: its subcomponent, its name and its type
pub record IsFreePort (spec : Spec) (c : ComponentId) (t : Target) (free : FreePort) : Type 0 where
  pub at : t.sub ≡ free.sub
  pub port : (port : OwnPort) × (port_at spec c t ≡ Some port) × (port.name ≡ free.name) × (port.kind ≡ free.kind)

-- the free ports as they are shown, one for each of these, in order
abbrev pub AreFreePorts : Spec → ComponentId → List Target → List FreePort → Type 0
AreFreePorts spec c [] [] = Unit {0}
AreFreePorts spec c [] (free ∷ rest) = ⊥
AreFreePorts spec c (t ∷ ts) [] = ⊥
AreFreePorts spec c (t ∷ ts) (free ∷ rest) = IsFreePort spec c t free × AreFreePorts spec c ts rest

-- the source of a connection reads one valuation alone
abbrev pub IsStateSource : Source → Type 0
IsStateSource (source.Truth f) = IsState (meaning f)
IsStateSource (source.Number t) = IsStateNumber (number_of t)
IsStateSource (source.Choice p) = IsStateChoice (choice_of p)

-- A rank that falls along subcomponents: no component contains itself.
abbrev pub FallsAlongSubs : Spec → (ℕ → ℕ) → Type 0
FallsAlongSubs spec rank = (c b : ComponentId) (s : SubId) → sub_component spec c s ≡ Some b → rank b.0 < rank c.0

abbrev pub ContractReadsBelow : ℕ → Contract → Type 0
ContractReadsBelow n k = ReadsBelow n (meaning k.assume) × ReadsBelow n (meaning k.guarantee)

-- A well formed architecture: no component contains itself, the formulas of a contract read ports of
-- its own component, and connections read one valuation alone.
pub record IsWellFormed (spec : Spec) : Type 0 where
  pub acyclic : (rank : ℕ → ℕ) × FallsAlongSubs spec rank
  pub contracts : (c : ComponentId) (d : ContractId) (k : Contract) → slice_get (contracts_of spec c) d.0 ≡ Some k
      → ContractReadsBelow (length (ports_of spec c)) k
  pub wires : (c : ComponentId) (t : Target) (w : Wire) → connection spec c t ≡ Some w → IsStateSource w.source
