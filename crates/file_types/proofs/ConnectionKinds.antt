-- The connections of a tree without a fault read free ports of the kinds that they want.
use Rattle.std.proofs.Common.{◌≡◌, ℕ, List, [], map, slice_get, Some, None, option_map, refl, ap, subst, ◌∙◌}
use Rattle.std.specs.Option.{option_map_or}
use Rattle.std.proofs.lemmas.Option.{none-some, same_Some, slice_get-map, slice_get_within, get_or_from_slice_get}
use Rattle.oss_base.specs.declared.ids.ComponentId.{ComponentId}
use Rattle.oss_syntax.specs.Expressions.{Tree}
use Rattle.oss_syntax.specs.Trees.{RefinementItemTree, Sub, Connection, Refined, Component}
use Rattle.port_types.specs.declared.types.PortType.{PortType}
use Rattle.port_types.specs.declared.types.PortType.TheVariants as kind
use Rattle.spec_model.specs.Architecture.{target, port_at, free_targets}
use Rattle.spec_model.specs.FreeTypes.{type_of_target, free_types}
use Rattle.spec_model.specs.Meanings.{WireMeaning}
use Rattle.spec_model.specs.declared.port.OwnPort.{OwnPort}
use Rattle.spec_model.specs.declared.spec.Spec.{Spec}
use Rattle.spec_model.specs.declared.wire.Target.{Target}
use Rattle.spec_names.specs.Scopes.{refinement_parts}
use Rattle.spec_types.specs.Typing.{PortReading, ExpressionReading, Typed, typed_of}
use Rattle.spec_types.specs.TypeFaults.{admits_source, mismatch_unless, expression_start, expression_faults, source_faults}
use Rattle.spec_types.specs.TreeComponents.{kind_at, own_free_reading, sub_free_reading, free_order, connection_reading, target_kind_of, tree_target}
use Rattle.spec_types.specs.TreeComponents.{refinement_item_faults, connection_faults, tree_wire, tree_wires}
use Rattle.architecture.specs.Standing.{Stands}
use Rattle.architecture.proofs.Directions.{IsMeant, own_free, sub_free, connection_means}
use Rattle.architecture.proofs.Listing.{Each, each_both, each_kept, each_empty, both_empty}
use Rattle.architecture.proofs.Readings.{MeansOnly}
use Rattle.architecture.proofs.Sources.{IsFitting, IsSound, interface_seen, AdmitsAt, target_admits}
use Rattle.architecture.proofs.WellFormed.{ports_seen, free_is}
use Rattle.file_types.proofs.ContractKinds.{kind_of_port}
use Rattle.file_types.proofs.KindReads.{HasReadType, MeaningReadsKinds, typed_kinds, admitted_reads}

-- a port at its place in a list of ports is read with its type
read_at : (ts : List Target) (kind_of : Target → PortType) (p : PortReading) (t : Target)
    → slice_get ts p.number ≡ Some t → kind_of t ≡ p.kind → HasReadType (map kind_of ts) p
read_at ts kind_of p t at is =
    let here : slice_get (map kind_of ts) p.number ≡ Some (kind_of t) = slice_get-map kind_of ts p.number ∙ ap (option_map kind_of) at in
    record {
      there = slice_get_within (map kind_of ts) p.number (kind_of t) here;
      is = get_or_from_slice_get (map kind_of ts) p.number (kind_of t) kind.Bool here ∙ is;
    }

-- a connection drives a port that is there, and reads free ports of the kinds that it wants
abbrev pub WireReadsKinds : Spec → ComponentId → WireMeaning → Type 0
WireReadsKinds spec c m =
    (port : OwnPort) × (port_at spec c m.target ≡ Some port) × MeaningReadsKinds (free_types spec c) port.kind m.source

-- the faults of an expression among those of a connection
source_clear : (reading : ExpressionReading) (type : PortType) (e : Tree) → source_faults reading type e ≡ []
    → expression_faults reading e ≡ []
source_clear reading type e none =
    (both_empty (expression_faults reading e) (mismatch_unless (admits_source type (typed_of reading e)) (expression_start e)) none).0

module _ (bytes : List ℕ) (all : List Component) (made : Spec) (stands : Stands bytes all made) (n : ℕ) (c : Component)
    (at : slice_get all n ≡ Some c) (sound : IsSound all c) where
  abbrev id : ComponentId
  id = record { 0 = n }

  -- free ports

  type_there : (t : Target) → type_of_target made id t ≡ kind_at (interface_seen all c t.sub) t.port.0
  type_there t =
      ap (λ (ports : List OwnPort). option_map_or (λ (port : OwnPort). port.kind) (slice_get ports t.port.0) kind.Bool)
      (ports_seen bytes all made stands n c at sound t.sub)
      ∙ kind_of_port (interface_seen all c t.sub) t.port.0

  free_read : (p : PortReading) (t : Target) → slice_get (free_order all c) p.number ≡ Some t
      → kind_at (interface_seen all c t.sub) t.port.0 ≡ p.kind → HasReadType (free_types made id) p
  free_read p t here is =
      read_at (free_targets made id) (type_of_target made id) p t
      (ap (λ (ts : List Target). slice_get ts p.number) (free_is bytes all made stands n c at sound) ∙ here) (type_there t ∙ is)

  names_read : MeansOnly (HasReadType (free_types made id)) (connection_reading all c)
  names_read = connection_means all c (HasReadType (free_types made id))
      (λ q h. free_read (own_free_reading all c q) (target None q) (own_free all c sound.meant q h) refl)
      (λ s q h. free_read (sub_free_reading all c s q) (target (Some (record { 0 = s })) q) (sub_free all c sound.meant s q h) refl)

  -- connections

  abbrev IsClearPart : RefinementItemTree → Type 0
  IsClearPart p =
      (IsMeant all c p × IsFitting all c p) × (refinement_item_faults all c (connection_reading all c) p ≡ [])

  one_wire : (p : RefinementItemTree) (m : WireMeaning) → IsClearPart p
      → tree_wire all c (connection_reading all c) p ≡ Some m → WireReadsKinds made id m
  one_wire (Sub name component) m h e = absurd (none-some m e)
  one_wire (Connection t source) m h e =
      let reading : ExpressionReading = connection_reading all c in
      let typed : Typed = typed_of reading source in
      let found : AdmitsAt all c (interface_seen all c (tree_target all c t).sub) (tree_target all c t).port.0 typed =
      target_admits all c t typed h.0.0 h.0.1 in
      let reads = typed_kinds (free_types made id) reading names_read source (source_clear reading (target_kind_of all c t) source h.1) in
      subst (WireReadsKinds made id) (same_Some _ m e) (
        found.0,
        ap (λ (ports : List OwnPort). slice_get ports (tree_target all c t).port.0) (ports_seen bytes all made stands n c at sound (tree_target all c t).sub)
            ∙ found.1,
        admitted_reads (free_types made id) found.0.kind typed reads found.2,
      )
  one_wire (Refined name listed) m h e = absurd (none-some m e)

  pub wires_kinds : connection_faults all c ≡ [] → Each (WireReadsKinds made id) (tree_wires all c)
  wires_kinds none =
      let parts : List RefinementItemTree = refinement_parts c in
      each_kept (tree_wire all c (connection_reading all c)) IsClearPart (WireReadsKinds made id) one_wire parts
      (each_both (λ p. IsMeant all c p × IsFitting all c p) (λ p. refinement_item_faults all c (connection_reading all c) p ≡ []) parts
      (each_both (IsMeant all c) (IsFitting all c) parts sound.meant sound.fitting)
      (each_empty (refinement_item_faults all c (connection_reading all c)) parts none))
