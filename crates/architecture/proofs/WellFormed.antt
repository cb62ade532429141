-- What a tree without a fault stands for is well formed, and its connections read free ports and fit their targets.
use Rattle.std.proofs.Common.{◌≡◌, ℕ, ◌<◌, Bool, true, false, List, [], length, map, filter_map, slice_get, nat_eq, Option, Some, None, option_map, is_some}
use Rattle.std.proofs.Common.{refl, sym, ap, subst, ◌∙◌}
use Rattle.std.specs.Prelude.{All}
use Rattle.std.specs.Option.{option_map_or}
use Rattle.std.proofs.lemmas.Bool.{false≢true, eq-eqb}
use Rattle.std.proofs.lemmas.List.{length-map}
use Rattle.std.proofs.lemmas.Option.{none-some, same_Some}
use Rattle.std.proofs.lemmas.Simd.{map-map}
use Rattle.oss_base.specs.declared.ids.ComponentId.{ComponentId}
use Rattle.oss_base.specs.declared.ids.ContractId.{ContractId}
use Rattle.oss_base.specs.declared.ids.SubId.{SubId}
use Rattle.oss_syntax.specs.Trees.{Item, Port, Contract as WrittenContract, RefinementItemTree, Sub, Connection, Refined, Component}
use Rattle.port_types.specs.declared.types.PortType.{PortType}
use Rattle.port_types.specs.declared.types.PortType.TheVariants as kind
use Rattle.spec_model.specs.Architecture.{ports_of, contracts_of, subs_of, wires_of, ports_at, port_at, connection, free_targets}
use Rattle.spec_model.specs.Architecture.{same_target, IsStateSource, FallsAlongSubs, ContractReadsBelow, IsWellFormed}
use Rattle.spec_model.specs.Expressions.{ReadsBelow}
use Rattle.spec_model.specs.FreeRows.{free_among}
use Rattle.spec_model.specs.Meanings.{ContractMeaning, contract_meaning, WireMeaning, wire_meaning, source_meaning}
use Rattle.spec_model.specs.declared.contract.Contract.{Contract}
use Rattle.spec_model.specs.declared.port.OwnPort.{OwnPort}
use Rattle.spec_model.specs.declared.spec.Spec.{Spec}
use Rattle.spec_model.specs.declared.sub.Sub as spec_sub
use Rattle.spec_model.specs.declared.wire.Source.{Source}
use Rattle.spec_model.specs.declared.wire.Source.TheVariants as source
use Rattle.spec_model.specs.declared.wire.Target.{Target}
use Rattle.spec_model.specs.declared.wire.Wire.{Wire}
use Rattle.spec_model.proofs.FreeTargets.{free_targets_are}
use Rattle.spec_names.specs.NamesFaults.{parts_at, is_sub_of, has_sub}
use Rattle.spec_names.specs.Scopes.{PortDeclaration, port_declarations, is_named, port_place, is_enumerator, enumerator_if, port_or}
use Rattle.spec_names.specs.Scopes.{SubDeclaration, sub_declarations, refinement_parts, component_place, interface_at, declared_interface, sub_interface_at}
use Rattle.spec_names.proofs.Lists.{filter_map-option_map, position_within}
use Rattle.spec_types.specs.Typing.{PortReading, ExpressionReading, typed_of}
use Rattle.spec_types.specs.TreeComponents.{typed_port, own_ports, port_meant, own_reading, no_reading, contract_reading, driven_target, sub_port_counts}
use Rattle.spec_types.specs.TreeComponents.{free_order}
use Rattle.spec_types.specs.TreeComponents.{connection_reading, tree_contract, tree_contracts, tree_wire, tree_wires}
use Rattle.spec_values.specs.FreeTypes.{HasFreeTypes, SourcesKeepTypes}
use Rattle.typed_ltl.specs.Traces.{Assignment}
use Rattle.architecture.specs.FirstFaults.{tree_site}
use Rattle.architecture.specs.Laws.{SourceReadsBelow, IsSourceOf, SourcesReadFreePorts, SourcesFitTargets}
use Rattle.architecture.specs.Standing.{place_or_first, tree_sub, Stands}
use Rattle.architecture.specs.StateSources.{HasStateSource, HasStateSources}
use Rattle.architecture.proofs.Intervals.{MeaningHasType, source_has}
use Rattle.architecture.proofs.Listing.{Each, each_of_all, each_at, each_kept, each_true, each_mapped, each_more, each_found, any_at, kept_same}
use Rattle.architecture.proofs.Places.{ports_made, contracts_made, wires_made, sub_made, sub_ports, counts_made}
use Rattle.architecture.proofs.Ranks.{contained, contained_falls}
use Rattle.architecture.proofs.Readings.{IsBelow, typed_reads, formula_reads}
use Rattle.architecture.proofs.SourceTypes.{KeepsType, wires_keep}
use Rattle.architecture.proofs.Sources.{clear_phases, HasComponent, IsSound, sound_at, names_empty, MeaningReadsBelow, IsStateMeaning, IsMeaningOf}
use Rattle.architecture.proofs.Sources.{interface_seen, Seen, wires_read, wires_fit, wires_state}

-- contracts

module _ (interface : List Item) where
  contract_bare : (o : Option ℕ) (seen : Bool) (p : PortReading) →
      ((q : ℕ) → o ≡ Some q → q < length (port_declarations interface))
      → port_meant (own_reading interface) no_reading (port_or o (enumerator_if seen)) ≡ Some p → p.number < length
      (port_declarations interface)
  contract_bare None true p so e = absurd (none-some p e)
  contract_bare None false p so e = absurd (none-some p e)
  contract_bare (Some q) seen p so e =
      subst (λ (r : PortReading). r.number < length (port_declarations interface)) (same_Some (own_reading interface q) p e) (so q refl)

  contract_wanted : (o : Option ℕ) (p : PortReading) → ((q : ℕ) → o ≡ Some q → q < length (port_declarations interface))
      → option_map (own_reading interface) o ≡ Some p → p.number < length (port_declarations interface)
  contract_wanted None p so e = absurd (none-some p e)
  contract_wanted (Some q) p so e =
      subst (λ (r : PortReading). r.number < length (port_declarations interface)) (same_Some (own_reading interface q) p e) (so q refl)

  place_below : (text : List ℕ) (q : ℕ) → port_place interface text ≡ Some q → q < length (port_declarations interface)
  place_below text q e = position_within (λ (port : PortDeclaration). is_named text port.name) (port_declarations interface) q e

  contract_below : IsBelow (length (port_declarations interface)) (contract_reading interface)
  contract_below = record {
    bare = λ text p e. contract_bare (port_place interface text) (is_enumerator interface text) p (place_below text) e;
    dotted = λ sub port p e. absurd (none-some p e);
    wanted = λ text p e. contract_wanted (port_place interface text) p (place_below text) e;
  }

  -- a contract reads own ports
  abbrev OwnContract : ContractMeaning → Type 0
  OwnContract m = ReadsBelow (length (port_declarations interface)) m.assume × ReadsBelow (length (port_declarations interface)) m.guarantee

  one_contract : (item : Item) (m : ContractMeaning) → Unit {0} → tree_contract (contract_reading interface) item
      ≡ Some m → OwnContract m
  one_contract (Port input name type) m u e = absurd (none-some m e)
  one_contract (WrittenContract name assume guarantee) m u e =
      let n : ℕ = length (port_declarations interface) in
      let reading : ExpressionReading = contract_reading interface in
      subst OwnContract (same_Some _ m e) (
        formula_reads n (typed_of reading assume) (typed_reads n reading contract_below assume),
        formula_reads n (typed_of reading guarantee) (typed_reads n reading contract_below guarantee),
      )

  own_contracts : Each OwnContract (tree_contracts interface)
  own_contracts = each_kept (tree_contract (contract_reading interface)) (λ item. Unit {0}) OwnContract one_contract interface (each_true interface)

-- sources

source_below : (n : ℕ) (s : Source) → MeaningReadsBelow n (source_meaning s) → SourceReadsBelow n s
source_below n (source.Truth f) h = h
source_below n (source.Number t) h = h
source_below n (source.Choice p) h = h

state_source : (s : Source) → IsStateMeaning (source_meaning s) → IsStateSource s
state_source (source.Truth f) h = h
state_source (source.Number t) h = h
state_source (source.Choice p) h = h

source_of : (type : PortType) (s : Source) → IsMeaningOf type (source_meaning s) → IsSourceOf type s
source_of kind.Bool (source.Truth f) h = tt
source_of kind.Bool (source.Number t) h = absurd h
source_of kind.Bool (source.Choice p) h = absurd h
source_of (kind.Range lo hi) (source.Truth f) h = absurd h
source_of (kind.Range lo hi) (source.Number t) h = tt
source_of (kind.Range lo hi) (source.Choice p) h = absurd h
source_of (kind.Enum names) (source.Truth f) h = absurd h
source_of (kind.Enum names) (source.Number t) h = absurd h
source_of (kind.Enum names) (source.Choice p) h = tt

module _ (bytes : List ℕ) (all : List Component) (made : Spec) (stands : Stands bytes all made) where
  -- a component of a specification, whose ports are those of the tree

  module _ (n : ℕ) (c : Component) (at : slice_get all n ≡ Some c) (sound : IsSound all c) where
    interface_is : interface_at all n ≡ c.interface
    interface_is = ap (λ (o : Option Component). option_map_or (λ (k : Component). k.interface) o []) at

    parts_are : parts_at all n ≡ refinement_parts c
    parts_are = ap (λ (o : Option Component). option_map_or refinement_parts o []) at

    have : Each (HasComponent all) (sub_declarations (parts_at all n))
    have = subst (λ parts. Each (HasComponent all) (sub_declarations parts)) (sym parts_are) sound.subs

    pub ports_seen : (sub : Option SubId) → ports_at made (record { 0 = n }) sub ≡ own_ports (interface_seen all c sub)
    ports_seen None = ports_made bytes all made stands n ∙ ap own_ports interface_is
    ports_seen (Some sub) =
        sub_ports bytes all made stands n sub.0 have ∙ ap (λ parts. own_ports (sub_interface_at all parts sub.0)) parts_are

    driven_is : (p : RefinementItemTree)
        → option_map (λ (m : WireMeaning). m.target) (tree_wire all c (connection_reading all c) p)
        ≡ driven_target all c p
    driven_is (Sub name component) = refl
    driven_is (Connection target source) = refl
    driven_is (Refined name listed) = refl

    targets_are : map (λ (w : Wire). w.target) (wires_of made (record { 0 = n })) ≡ filter_map (driven_target all c)
        (refinement_parts c)
    targets_are =
        sym (map-map (λ (m : WireMeaning). m.target) wire_meaning (wires_of made (record { 0 = n })))
        ∙ (ap (map (λ (m : WireMeaning). m.target))
        (wires_made bytes all made stands n ∙ ap (λ (o : Option Component). option_map_or (tree_wires all) o []) at)
        ∙ (sym (filter_map-option_map (λ (m : WireMeaning). m.target) (tree_wire all c (connection_reading all c)) (refinement_parts c))
        ∙ kept_same (λ p. option_map (λ (m : WireMeaning). m.target) (tree_wire all c (connection_reading all c) p)) (driven_target all c) driven_is
        (refinement_parts c)))

    own_is : length (ports_of made (record { 0 = n })) ≡ length (port_declarations c.interface)
    own_is = ap length (ports_made bytes all made stands n ∙ ap own_ports interface_is) ∙ length-map (port_declarations c.interface) typed_port

    counts_are : map (λ (s : spec_sub.Sub). length (ports_of made s.component)) (subs_of made (record { 0 = n }))
        ≡ sub_port_counts all c
    counts_are = counts_made bytes all made stands n have ∙ ap (λ parts. map
        (λ (s : SubDeclaration). length (port_declarations (declared_interface all s.component.text))) (sub_declarations parts)) parts_are

    pub free_is : free_targets made (record { 0 = n }) ≡ free_order all c
    free_is = free_targets_are made (record { 0 = n }) ∙ (λ j. free_among (own_is j) (counts_are j) (targets_are j))

    seen_fits : (m : WireMeaning) → Seen all c m.target m.source
        → (port : OwnPort) × (port_at made (record { 0 = n }) m.target ≡ Some port) × IsMeaningOf port.kind m.source
    seen_fits m seen = (seen.port, ap (λ list. slice_get list m.target.port.0) (ports_seen m.target.sub) ∙ seen.at, seen.fits)

  -- what is so of each connection of the component of a number

  module _ (Holds : WireMeaning → Type 0) (n : ℕ)
      (each : (c : Component) → slice_get all n ≡ Some c → Each Holds (tree_wires all c)) where
    wires_there : (o : Option Component) → slice_get all n ≡ o → Each Holds (option_map_or (tree_wires all) o [])
    wires_there None e = tt
    wires_there (Some c) e = each c e

    pub each_wire : Each (λ (w : Wire). Holds (wire_meaning w)) (wires_of made (record { 0 = n }))
    each_wire = each_mapped wire_meaning Holds (wires_of made (record { 0 = n }))
        (subst (Each Holds) (sym (wires_made bytes all made stands n)) (wires_there (slice_get all n) refl))

  module _ (clear : tree_site (length bytes) all ≡ None) where
    sound : (n : ℕ) (c : Component) → slice_get all n ≡ Some c → IsSound all c
    sound n c at = sound_at (length bytes) all (clear_phases (length bytes) all clear) n c at

    pub reads_free : SourcesReadFreePorts made
    reads_free id k w at =
        let n : ℕ = id.0 in
        source_below (length (free_targets made id)) w.source
        (each_at (λ (v : Wire). MeaningReadsBelow (length (free_targets made id)) (source_meaning v.source)) (wires_of made id)
        (each_wire (λ (m : WireMeaning). MeaningReadsBelow (length (free_targets made id)) m.source) n
        (λ c there. subst (λ (size : ℕ). Each (λ (m : WireMeaning). MeaningReadsBelow size m.source) (tree_wires all c))
        (sym (ap length (free_is n c there (sound n c there)))) (wires_read all c (sound n c there)))) k w at)

    pub fit_targets : SourcesFitTargets made
    fit_targets id k w at =
        let n : ℕ = id.0 in
        let found = each_at (λ (v : Wire). (port : OwnPort) × (port_at made id v.target ≡ Some port) × IsMeaningOf port.kind (source_meaning v.source))
        (wires_of made id)
        (each_wire (λ (m : WireMeaning). (port : OwnPort) × (port_at made id m.target ≡ Some port) × IsMeaningOf port.kind m.source) n
        (λ c there. each_more (λ (m : WireMeaning). Seen all c m.target m.source)
        (λ (m : WireMeaning). (port : OwnPort) × (port_at made id m.target ≡ Some port) × IsMeaningOf port.kind m.source)
        (seen_fits n c there (sound n c there)) (tree_wires all c) (wires_fit all c (sound n c there)))) k w at in
        (found.0, found.1, source_of found.0.kind w.source found.2)

    -- a connection gives its target values of the target's type
    abbrev MadeKeeps : ComponentId → WireMeaning → Type 0
    MadeKeeps id m =
        (port : OwnPort) × (port_at made id m.target ≡ Some port)
        × ((free : Assignment) → HasFreeTypes made id free → MeaningHasType free port.kind m.source)

    keeps_made : (n : ℕ) (c : Component) → slice_get all n ≡ Some c → (m : WireMeaning) → KeepsType all c m
        → MadeKeeps (record { 0 = n }) m
    keeps_made n c at m keeps =
        let known : IsSound all c = sound n c at in (
          keeps.0,
          ap (λ list. slice_get list m.target.port.0) (ports_seen n c at known m.target.sub) ∙ keeps.1,
          λ free has. keeps.2 free (λ k t port here there. has k t port (ap (λ order. slice_get order k) (free_is n c at known) ∙ here)
              (ap (λ list. slice_get list t.port.0) (ports_seen n c at known t.sub) ∙ there)),
        )

    pub keep_types : SourcesKeepTypes made
    keep_types id k w at =
        let n : ℕ = id.0 in
        let found = each_at (λ (v : Wire). MadeKeeps id (wire_meaning v)) (wires_of made id)
        (each_wire (MadeKeeps id) n
        (λ c there. each_more (KeepsType all c) (MadeKeeps id) (keeps_made n c there) (tree_wires all c) (wires_keep all c (sound n c there)))) k w at in
        (found.0, found.1, λ free has. source_has free found.0.kind w.source (found.2 free has))

    -- ranks

    have_at : (n : ℕ) (o : Option Component) → slice_get all n ≡ o → Each (HasComponent all)
        (sub_declarations (option_map_or refinement_parts o []))
    have_at n None e = tt
    have_at n (Some c) e = (sound n c e).subs

    sub_there : (n s : ℕ) (b : ComponentId) (o : Option SubDeclaration) → slice_get
        (sub_declarations (parts_at all n)) s ≡ o
        → option_map (λ (sub : SubDeclaration). (tree_sub all sub).component) o ≡ Some b → has_sub all n b.0 ≡ true
    sub_there n s b None at e = absurd (none-some b e)
    sub_there n s b (Some sub) at e =
        by (component_place all sub.component.text)
        (each_at (HasComponent all) (sub_declarations (parts_at all n)) (have_at n (slice_get all n) refl) s sub at)
        (ap (λ (id : ComponentId). id.0) (same_Some (tree_sub all sub).component b e))
        (any_at (is_sub_of all b.0) (sub_declarations (parts_at all n)) s sub at)
      where
        by : (o : Option ℕ) → is_some o ≡ true → place_or_first o ≡ b.0
            → (option_map_or (nat_eq b.0) o false ≡ true → has_sub all n b.0 ≡ true) → has_sub all n b.0 ≡ true
        by None h place so = absurd (false≢true h)
        by (Some p) h place so = so (eq-eqb b.0 p (sym place))

    pub falls : FallsAlongSubs made (contained all)
    falls id b s e =
        contained_falls all (names_empty (length bytes) all (clear_phases (length bytes) all clear).no_names).containment id.0 b.0
        (sub_there id.0 s.0 b (slice_get (sub_declarations (parts_at all id.0)) s.0) refl (sym (sub_made bytes all made stands id.0 s.0) ∙ e))

    -- contracts

    pub contracts_read : (id : ComponentId) (d : ContractId) (k : Contract) → slice_get (contracts_of made id) d.0
        ≡ Some k
        → ContractReadsBelow (length (ports_of made id)) k
    contracts_read id d k at =
        let n : ℕ = id.0 in
        let count : length (ports_of made id) ≡ length (port_declarations (interface_at all n)) =
        ap length (ports_made bytes all made stands n) ∙ length-map (port_declarations (interface_at all n)) typed_port in
        let each = subst (Each (OwnContract (interface_at all n))) (sym (contracts_made bytes all made stands n)) (own_contracts (interface_at all n)) in
        subst (λ (size : ℕ). ReadsBelow size (contract_meaning k).assume × ReadsBelow size (contract_meaning k).guarantee) (sym count)
        (each_at (λ (m : Contract). OwnContract (interface_at all n) (contract_meaning m)) (contracts_of made id)
        (each_mapped contract_meaning (OwnContract (interface_at all n)) (contracts_of made id) each) d.0 k at)

    pub wires_are_states : HasStateSources all → (id : ComponentId) (t : Target) (w : Wire) → connection made id t
        ≡ Some w → IsStateSource w.source
    wires_are_states written id t w found =
        let n : ℕ = id.0 in
        state_source w.source
        (each_found (λ (v : Wire). IsStateMeaning (source_meaning v.source)) (λ (v : Wire). same_target v.target t) (wires_of made id)
        (each_wire (λ (m : WireMeaning). IsStateMeaning m.source) n
        (λ c there. wires_state all c (each_of_all HasStateSource (refinement_parts c)
        (each_at (λ (k : Component). All HasStateSource (refinement_parts k)) all
        (each_of_all (λ (k : Component). All HasStateSource (refinement_parts k)) all written) n c there)))) w found)

pub well_formed : (bytes : List ℕ) (all : List Component) (made : Spec) → tree_site (length bytes) all ≡ None
    → HasStateSources all
    → Stands bytes all made → IsWellFormed made
well_formed bytes all made clear written stands = record {
  acyclic = (contained all, falls bytes all made stands clear);
  contracts = contracts_read bytes all made stands clear;
  wires = wires_are_states bytes all made stands clear written;
}

pub connected : (bytes : List ℕ) (all : List Component) (made : Spec) → tree_site (length bytes) all ≡ None
    → Stands bytes all made
    → SourcesReadFreePorts made × SourcesFitTargets made
connected bytes all made clear stands = (reads_free bytes all made stands clear, fit_targets bytes all made stands clear)

pub types_kept : (bytes : List ℕ) (all : List Component) (made : Spec) → tree_site (length bytes) all ≡ None
    → Stands bytes all made → SourcesKeepTypes made
types_kept bytes all made clear stands = keep_types bytes all made stands clear
