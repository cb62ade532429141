-- What a text of a file without a fault stands for has types that can be coded, and formulas over ports of their kinds.
use Rattle.std.proofs.Common.{◌≡◌, ℕ, ◌≤◌, List, [], ◌++◌, length, map, filter_map, slice_get, Option, Some, None, refl, sym, ap, subst}
use Rattle.std.specs.Prelude.{flat_map}
use Rattle.std.specs.Option.{option_map_or}
use Rattle.oss_base.specs.Limits.{most_bytes}
use Rattle.oss_base.specs.declared.fault.FaultKind.TheVariants.{F6, F8, F9}
use Rattle.oss_base.specs.declared.ids.ComponentId.{ComponentId}
use Rattle.oss_base.specs.declared.ids.SubId.{SubId}
use Rattle.oss_base.specs.declared.place.Span.{Span}
use Rattle.oss_lexer.specs.Laws.{TokensStand}
use Rattle.oss_syntax.specs.Terminals.{terminals_of}
use Rattle.oss_syntax.specs.Trees.{Item, Component}
use Rattle.port_types.specs.declared.types.PortType.{PortType}
use Rattle.spec_model.specs.Architecture.{ports_of, contracts_of, wires_of, sub_component, ports_at, port_at}
use Rattle.spec_model.specs.FreeTypes.{free_types}
use Rattle.spec_model.specs.Meanings.{ContractMeaning, contract_meaning, wire_meaning}
use Rattle.spec_model.specs.declared.contract.Contract.{Contract}
use Rattle.spec_model.specs.declared.port.OwnPort.{OwnPort}
use Rattle.spec_model.specs.declared.spec.Spec.{Spec}
use Rattle.spec_model.specs.declared.wire.Wire.{Wire}
use Rattle.spec_names.specs.NamesFaults.{names_faults, interface_faults, refinement_faults, containment_faults, again, same_name, start_of, no_system, past}
use Rattle.spec_names.specs.NamesFaults.{port_name_words, clashes, enumerators_again}
use Rattle.spec_names.specs.Scopes.{contract_words, refinement_parts, interface_at}
use Rattle.spec_types.specs.TreeComponents.{types_faults, range_faults_in, contract_faults, connection_faults}
use Rattle.spec_values.specs.SmallNumbers.{HasSmallNumbers}
use Rattle.architecture.specs.FirstFaults.{tree_site}
use Rattle.architecture.specs.Laws.{ResolvedHasSmallNumbers}
use Rattle.architecture.specs.Standing.{Stands}
use Rattle.architecture.proofs.FewTerminals.{text_few}
use Rattle.architecture.proofs.Listing.{Each, each_at, each_mapped, each_both, each_empty, both_empty}
use Rattle.architecture.proofs.Places.{ports_made, contracts_made}
use Rattle.architecture.proofs.Sources.{IsClear, clear_phases, sound_at}
use Rattle.architecture.proofs.WellFormed.{each_wire}
use Rattle.coded_levels.specs.CodableTypes.{ReadsKinds, own_types, SourceReads, HasCodableTypes}
use Rattle.file_types.specs.Laws.{FilesHaveCodableTypes}
use Rattle.file_types.proofs.ConnectionKinds.{WireReadsKinds, wires_kinds}
use Rattle.file_types.proofs.ContractKinds.{interface_types, BothReadKinds, contracts_kinds}
use Rattle.file_types.proofs.Enumerations.{DeclaresFewNames, HasFewEnumerators, text_few_names}
use Rattle.file_types.proofs.FilledTypes.{IsFilledPort, codable, ports_filled}
use Rattle.file_types.proofs.KindReads.{source_reads}

-- the faults that there are not

names_clear : (end : ℕ) (all : List Component) → names_faults end all ≡ []
    → flat_map (λ (c : Component). interface_faults c.interface) all ≡ []
names_clear end all none =
    let one = both_empty (again F6 same_name start_of (map (λ (c : Component). c.name) all)) _ none in
    let two = both_empty (no_system end all) _ one.1 in
    let three = both_empty (past F8 (λ (span : Span). span.start) 1 (filter_map (λ (c : Component). c.system) all)) _ two.1 in
    let four = both_empty (flat_map (λ (c : Component). interface_faults c.interface) all)
    (flat_map (λ (c : Component). refinement_faults all c.interface (refinement_parts c)) all ++ containment_faults all) three.1 in
    four.0

enumerators_clear : (interface : List Item) → interface_faults interface ≡ []
    → flat_map enumerators_again interface ≡ []
enumerators_clear interface none =
    let one = both_empty (again F9 same_name start_of (port_name_words interface)) _ none in
    let two = both_empty (again F9 same_name start_of (contract_words interface)) _ one.1 in
    let three = both_empty (clashes interface) _ two.1 in
    let four = both_empty (flat_map enumerators_again interface) _ three.1 in
    four.0

record HasClearTypes (all : List Component) : Type 0 where
  pub ranges : flat_map (λ (c : Component). range_faults_in c.interface) all ≡ []
  pub contracts : flat_map (λ (c : Component). contract_faults c.interface) all ≡ []
  pub connections : flat_map (connection_faults all) all ≡ []

types_clear : (all : List Component) → types_faults all ≡ [] → HasClearTypes all
types_clear all none =
    let one = both_empty (flat_map (λ (c : Component). range_faults_in c.interface) all)
    (flat_map (λ (c : Component). contract_faults c.interface) all ++ flat_map (connection_faults all) all) none in
    let two = both_empty (flat_map (λ (c : Component). contract_faults c.interface) all) (flat_map (connection_faults all) all) one.1 in
    record { ranges = one.0; contracts = two.0; connections = two.1 }

-- what is so of each interface is so of that at a place
interface_has : (P : List Item → Type 0) → P [] → (all : List Component) → Each (λ (c : Component). P c.interface) all
    → (n : ℕ) → P (interface_at all n)
interface_has P none all each n = by (slice_get all n) (λ c at. each_at (λ (k : Component). P k.interface) all each n c at)
  where
    by : (o : Option Component) → ((c : Component) → o ≡ Some c → P c.interface)
        → P (option_map_or (λ (c : Component). c.interface) o [])
    by None so = none
    by (Some c) so = so c refl

module _ (bytes : List ℕ) (all : List Component) (made : Spec) (stands : Stands bytes all made)
    (clear : tree_site (length bytes) all ≡ None) where
  phases : IsClear (length bytes) all
  phases = clear_phases (length bytes) all clear

  fitting : HasClearTypes all
  fitting = types_clear all phases.no_types

  -- types

  module _ (few : Each (HasFewEnumerators (length bytes)) all) (most : length bytes ≤ most_bytes) where
    abbrev IsClearInterface : List Item → Type 0
    IsClearInterface interface = (Each (DeclaresFewNames (length bytes)) interface × (interface_faults interface ≡ []))
        × (range_faults_in interface ≡ [])

    interfaces_clear : Each (λ (c : Component). IsClearInterface c.interface) all
    interfaces_clear =
        each_both (λ (c : Component). HasFewEnumerators (length bytes) c × (interface_faults c.interface ≡ []))
        (λ (c : Component). range_faults_in c.interface ≡ []) all
        (each_both (HasFewEnumerators (length bytes)) (λ (c : Component). interface_faults c.interface ≡ []) all few
        (each_empty (λ (c : Component). interface_faults c.interface) all (names_clear (length bytes) all phases.no_names)))
        (each_empty (λ (c : Component). range_faults_in c.interface) all fitting.ranges)

    own_filled : (b : ComponentId) → Each IsFilledPort (ports_of made b)
    own_filled b =
        let h = interface_has IsClearInterface ((tt, refl), refl) all interfaces_clear b.0 in
        subst (Each IsFilledPort) (sym (ports_made bytes all made stands b.0))
        (ports_filled (length bytes) most (interface_at all b.0) h.0.0 (enumerators_clear (interface_at all b.0) h.0.1) h.1)

    pub seen_filled : (c : ComponentId) (s : Option SubId) → Each IsFilledPort (ports_at made c s)
    seen_filled c None = own_filled c
    seen_filled c (Some s) = by (sub_component made c s)
      where
        by : (o : Option ComponentId) → Each IsFilledPort (option_map_or (ports_of made) o [])
        by None = tt
        by (Some b) = own_filled b

  -- contracts

  abbrev ReadBoth : List PortType → ContractMeaning → Type 0
  ReadBoth ports m = ReadsKinds ports m.assume × ReadsKinds ports m.guarantee

  contracts_read : (c : ComponentId)
      → Each (λ (k : Contract). ReadBoth (own_types made c) (contract_meaning k)) (contracts_of made c)
  contracts_read c =
      let n : ℕ = c.0 in
      let none = interface_has (λ interface. contract_faults interface ≡ []) refl all
      (each_empty (λ (k : Component). contract_faults k.interface) all fitting.contracts) n in
      let ports : own_types made c ≡ interface_types (interface_at all n) =
      ap (map (λ (port : OwnPort). port.kind)) (ports_made bytes all made stands n) in
      each_mapped contract_meaning (ReadBoth (own_types made c)) (contracts_of made c)
      (subst (λ (types : List PortType). Each (ReadBoth types) (map contract_meaning (contracts_of made c))) (sym ports)
      (subst (Each (BothReadKinds (interface_at all n))) (sym (contracts_made bytes all made stands n)) (contracts_kinds (interface_at all n) none)))

  -- connections

  wires_read : (c : ComponentId) → Each (λ (w : Wire). WireReadsKinds made c (wire_meaning w)) (wires_of made c)
  wires_read c =
      let n : ℕ = c.0 in
      each_wire bytes all made stands (WireReadsKinds made c) n
      (λ k at. wires_kinds bytes all made stands n k at (sound_at (length bytes) all phases n k at)
      (each_at (λ (b : Component). connection_faults all b ≡ []) all (each_empty (connection_faults all) all fitting.connections) n k at))

  source_read : (c : ComponentId) (w : Wire) → WireReadsKinds made c (wire_meaning w)
      → (port : OwnPort) × (port_at made c w.target ≡ Some port) × SourceReads (free_types made c) port.kind w.source
  source_read c w h = (h.0, h.1, source_reads (free_types made c) h.0.kind w.source h.2)

  pub codable_types : Each (HasFewEnumerators (length bytes)) all → length bytes ≤ most_bytes → HasSmallNumbers made
      → HasCodableTypes made
  codable_types few most small = record {
    types = λ c t port at. codable port.kind (small.ports c t port at)
        (each_at IsFilledPort (ports_at made c t.sub) (seen_filled few most c t.sub) t.port.0 port at);
    contracts = λ c d k at. each_at (λ (m : Contract). ReadBoth (own_types made c) (contract_meaning m)) (contracts_of made c)
        (contracts_read c) d.0 k at;
    sources = λ c n w at. source_read c w
        (each_at (λ (v : Wire). WireReadsKinds made c (wire_meaning v)) (wires_of made c) (wires_read c) n w at);
  }

pub files_codable : ResolvedHasSmallNumbers → TokensStand → FilesHaveCodableTypes
files_codable small stand bytes tokens all made most cut text clear stands =
    codable_types bytes all made stands clear
    (text_few_names (length bytes) (terminals_of bytes tokens) all (text_few bytes tokens (stand bytes tokens cut)).count text) most
    (small bytes tokens all made most cut text stands)
