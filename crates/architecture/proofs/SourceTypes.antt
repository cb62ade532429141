-- Where the free ports of a refinement have values of their types, the expression of each connection has one of its
-- target's type.
use Rattle.std.proofs.Common.{◌≡◌, ℕ, Bool, true, false, List, slice_get, Option, Some, None, option_map, subst}
use Rattle.std.specs.Option.{option_map_or}
use Rattle.std.proofs.lemmas.Bool.{false≢true}
use Rattle.std.proofs.lemmas.Option.{none-some, same_Some, slice_get-map}
use Rattle.oss_syntax.specs.Trees.{Item, RefinementItemTree, Sub, Connection, Refined, Component}
use Rattle.port_types.specs.Types.{IsOfType}
use Rattle.port_types.specs.declared.types.PortType.TheVariants as kind
use Rattle.typed_ltl.specs.Traces.{Assignment}
use Rattle.spec_model.specs.Architecture.{target}
use Rattle.spec_model.specs.Meanings.{WireMeaning}
use Rattle.spec_model.specs.declared.port.OwnPort.{OwnPort}
use Rattle.spec_model.specs.declared.wire.Target.{Target}
use Rattle.spec_names.specs.Scopes.{PortDeclaration, port_declarations, has_direction, refinement_parts}
use Rattle.spec_types.specs.Typing.{Typed, typed_of}
use Rattle.spec_types.specs.TreeComponents.{connection_reading, free_order, own_ports, typed_port, type_of, kind_at, own_free_reading, sub_free_reading}
use Rattle.spec_types.specs.TreeComponents.{tree_target, tree_wire, tree_wires}
use Rattle.architecture.proofs.Directions.{points, interface_of, IsMeant, own_free, sub_free, connection_means}
use Rattle.architecture.proofs.Intervals.{HasOwnType, MeaningHasType, typed_has, admitted_has}
use Rattle.architecture.proofs.Listing.{Each, each_both, each_kept}
use Rattle.architecture.proofs.Readings.{MeansOnly}
use Rattle.architecture.proofs.Sources.{IsFitting, IsSound, interface_seen, AdmitsAt, target_admits}

-- the port at a place that is there has the type of the place
kind_there : (free : Assignment) (input : Bool) (interface : List Item) (place k : ℕ) → points input interface place
    ≡ true
    → ((port : OwnPort) → slice_get (own_ports interface) place ≡ Some port → IsOfType port.kind (free k))
    → IsOfType (kind_at interface place) (free k)
kind_there free input interface place k there so =
    by (slice_get (port_declarations interface) place) there (slice_get-map typed_port (port_declarations interface) place)
  where
    by : (o : Option PortDeclaration) → option_map_or (has_direction input) o false ≡ true
        → slice_get (own_ports interface) place ≡ option_map typed_port o
        → IsOfType (option_map_or (λ (port : PortDeclaration). type_of port.kind) o kind.Bool) (free k)
    by None h e = absurd (false≢true h)
    by (Some d) h e = so (typed_port d) e

module _ (all : List Component) (c : Component) where
  -- each free port has a value of its type
  abbrev pub AreFreeTyped : Assignment → Type 0
  AreFreeTyped free = (k : ℕ) (t : Target) (port : OwnPort) → slice_get (free_order all c) k ≡ Some t
      → slice_get (own_ports (interface_seen all c t.sub)) t.port.0 ≡ Some port → IsOfType port.kind (free k)

  -- a connection gives its target values of the target's type
  abbrev pub KeepsType : WireMeaning → Type 0
  KeepsType m =
      (port : OwnPort) × (slice_get (own_ports (interface_seen all c m.target.sub)) m.target.port.0 ≡ Some port)
      × ((free : Assignment) → AreFreeTyped free → MeaningHasType free port.kind m.source)

  module _ (sound : IsSound all c) where
    names_typed : (free : Assignment) → AreFreeTyped free → MeansOnly (HasOwnType free) (connection_reading all c)
    names_typed free typed = connection_means all c (HasOwnType free)
        (λ q h. kind_there free true c.interface q (own_free_reading all c q).number h
        (λ port at. typed (own_free_reading all c q).number (target None q) port (own_free all c sound.meant q h) at))
        (λ s q h. kind_there free false (interface_of all c s) q (sub_free_reading all c s q).number h
        (λ port at. typed (sub_free_reading all c s q).number (target (Some (record { 0 = s })) q) port (sub_free all c sound.meant s q h) at))

    keeps_one : (p : RefinementItemTree) (m : WireMeaning) → IsMeant all c p × IsFitting all c p
        → tree_wire all c (connection_reading all c) p ≡ Some m → KeepsType m
    keeps_one (Sub name component) m h e = absurd (none-some m e)
    keeps_one (Connection t source) m h e =
        let typed : Typed = typed_of (connection_reading all c) source in
        let found : AdmitsAt all c (interface_seen all c (tree_target all c t).sub) (tree_target all c t).port.0 typed =
        target_admits all c t typed h.0 h.1 in
        subst KeepsType (same_Some _ m e) (
          found.0,
          found.1,
          λ free has. admitted_has free found.0.kind typed (typed_has free (connection_reading all c) (names_typed free has) source) found.2,
        )
    keeps_one (Refined name listed) m h e = absurd (none-some m e)

    pub wires_keep : Each KeepsType (tree_wires all c)
    wires_keep = each_kept (tree_wire all c (connection_reading all c)) (λ p. IsMeant all c p × IsFitting all c p) KeepsType
        keeps_one (refinement_parts c) (each_both (IsMeant all c) (IsFitting all c) (refinement_parts c) sound.meant sound.fitting)
