-- The formulas of a level read free ports of the kinds that they want.
use Rattle.std.proofs.Common.{◌≡◌, ℕ, ◌<◌, List, [], map, length, get_or, Option, Some, None, option_map, slice_get, All}
use Rattle.std.proofs.Common.{refl, sym, ap, ◌∙◌, subst}
use Rattle.std.specs.Option.{option_map_or}
use Rattle.std.proofs.lemmas.List.{length-map}
use Rattle.std.proofs.lemmas.List.Elements.{All-map}
use Rattle.std.proofs.lemmas.Option.{same_Some, slice_get-map, slice_get_within, get_or_from_slice_get}
use Rattle.oss_base.specs.declared.ids.ComponentId.{ComponentId}
use Rattle.oss_base.specs.declared.ids.ContractId.{ContractId}
use Rattle.oss_base.specs.declared.ids.SubId.{SubId}
use Rattle.port_types.specs.declared.types.PortType.{PortType}
use Rattle.port_types.specs.declared.types.PortType.TheVariants as kind
use Rattle.typed_ltl.specs.Formulas.{Ltl, meaning}
use Rattle.typed_ltl.specs.Formulas as form
use Rattle.core_ltl.proofs.NodeFormulas.{found_at}
use Rattle.spec_model.specs.declared.spec.Spec.{Spec}
use Rattle.spec_model.specs.declared.item.Item.{Item}
use Rattle.spec_model.specs.declared.port.OwnPort.{OwnPort}
use Rattle.spec_model.specs.declared.contract.Contract.{Contract}
use Rattle.spec_model.specs.declared.wire.Wire.{Wire}
use Rattle.spec_model.specs.declared.wire.Target.{Target}
use Rattle.spec_model.specs.declared.wire.Source.{Source}
use Rattle.spec_model.specs.declared.wire.Source.TheVariants as source
use Rattle.spec_model.specs.Architecture.{ports_of, ports_at, port_at, contracts_of, wires_of, sub_component, target, connection}
use Rattle.spec_model.specs.Architecture.{same_target, free_targets, free_place}
use Rattle.spec_model.specs.FreeTypes.{type_of_target, free_types}
use Rattle.spec_model.proofs.Targets.{same_target_is}
use Rattle.connections.specs.Substitution.{source_reading, readings, substituted}
use Rattle.connections.specs.Substitution as by
use Rattle.connections.specs.LevelFormulas.{contract_at, what_it_asks, what_it_gives, asked_over_free, given_over_free, part_over_free}
use Rattle.levels.specs.Levels.{LevelMeaning, level_meaning}
use Rattle.narrowed_questions.proofs.Among.{found}
use Rattle.narrowed_questions.proofs.Locals.{at_free_place}
use Rattle.coded_levels.specs.CodableTypes.{ReadsKinds, own_types, SourceReads, HasCodableTypes}
use Rattle.coded_levels.proofs.Substituting.{ReadingReads, free_reads, formula_kinds}

-- ---- ports and their types

abbrev kind_of : OwnPort → PortType
kind_of port = port.kind

-- the types of the ports of the component itself, or of one of its subcomponents
abbrev local_types : Spec → ComponentId → Option SubId → List PortType
local_types spec c s = map kind_of (ports_at spec c s)

type_at_port : (ports : List OwnPort) (k : ℕ) (port : OwnPort) → slice_get ports k ≡ Some port
    → get_or (map kind_of ports) k kind.Bool ≡ port.kind
type_at_port ports k port e =
    get_or_from_slice_get (map kind_of ports) k port.kind kind.Bool (slice_get-map kind_of ports k ∙ ap (option_map kind_of) e)

-- ---- what stands for a port is of its kind

source_reads : (free : List PortType) (t : PortType) (s : Source) → SourceReads free t s → ReadingReads free t (source_reading s)
source_reads free kind.Bool (source.Truth f) h = h
source_reads free kind.Bool (source.Number m) h = absurd h
source_reads free kind.Bool (source.Choice m) h = absurd h
source_reads free (kind.Range lo hi) (source.Truth f) h = absurd h
source_reads free (kind.Range lo hi) (source.Number m) h = h
source_reads free (kind.Range lo hi) (source.Choice m) h = absurd h
source_reads free (kind.Enum names) (source.Truth f) h = absurd h
source_reads free (kind.Enum names) (source.Number m) h = absurd h
source_reads free (kind.Enum names) (source.Choice m) h = h

-- a port without connection stands for itself, at its place in the free order
free_port_reads : (spec : Spec) (c : ComponentId) (s : Option SubId) (k : ℕ) (port : OwnPort)
    → port_at spec c (target s k) ≡ Some port → connection spec c (target s k) ≡ None
    → ReadingReads (free_types spec c) port.kind (by.Free (free_place spec c (target s k)))
free_port_reads spec c s k port at e =
    let t : Target = target s k in
    let n : ℕ = free_place spec c (target s k) in
    let stands = at_free_place spec c s k (slice_get_within (ports_at spec c s) k port at) e in
    let within : n < length (free_targets spec c) = slice_get_within (free_targets spec c) n t stands in
    let typed : get_or (free_types spec c) n kind.Bool ≡ type_of_target spec c t =
    get_or_from_slice_get (free_types spec c) n (type_of_target spec c t) kind.Bool
    (slice_get-map (type_of_target spec c) (free_targets spec c) n ∙ ap (option_map (type_of_target spec c)) stands) in
    free_reads (free_types spec c) n port.kind
    (subst (λ (m : ℕ). n < m) (sym (length-map (free_targets spec c) (type_of_target spec c))) within)
    (typed ∙ ap (λ (o : Option OwnPort). option_map_or kind_of o kind.Bool) at)

-- a connected one stands for the source of its connection
wired_port_reads : (spec : Spec) → HasCodableTypes spec → (c : ComponentId) (t : Target) (port : OwnPort) (w : Wire)
    → port_at spec c t ≡ Some port → connection spec c t ≡ Some w
    → ReadingReads (free_types spec c) port.kind (source_reading w.source)
wired_port_reads spec has c t port w at e =
    let place = found (λ (v : Wire). same_target v.target t) (wires_of spec c) w e in
    let typed = has.sources c place.0 w place.1 in
    let same : w.target ≡ t = same_target_is w.target t place.2 in
    let one : typed.0 ≡ port = same_Some typed.0 port (sym typed.1 ∙ (ap (port_at spec c) same ∙ at)) in
    subst (λ (q : OwnPort). ReadingReads (free_types spec c) q.kind (source_reading w.source)) one
    (source_reads (free_types spec c) typed.0.kind w.source typed.2)

reading_reads : (spec : Spec) → HasCodableTypes spec → (c : ComponentId) (s : Option SubId) (k : ℕ) (port : OwnPort)
    → port_at spec c (target s k) ≡ Some port → (o : Option Wire) → connection spec c (target s k) ≡ o
    → ReadingReads (free_types spec c) port.kind
    (option_map_or (λ (w : Wire). source_reading w.source) o (by.Free (free_place spec c (target s k))))
reading_reads spec has c s k port at None e = free_port_reads spec c s k port at e
reading_reads spec has c s k port at (Some w) e = wired_port_reads spec has c (target s k) port w at e

readings_read : (spec : Spec) → HasCodableTypes spec → (c : ComponentId) (s : Option SubId) (k : ℕ) → k < length (local_types spec c s)
    → ReadingReads (free_types spec c) (get_or (local_types spec c s) k kind.Bool) (readings spec c s k)
readings_read spec has c s k lt =
    let port = found_at (ports_at spec c s) k (subst (λ (m : ℕ). k < m) (length-map (ports_at spec c s) kind_of) lt) in
    subst (λ (t : PortType). ReadingReads (free_types spec c) t (readings spec c s k)) (sym (type_at_port (ports_at spec c s) k port.0 port.1))
    (reading_reads spec has c s k port.0 port.1 (connection spec c (target s k)) refl)

over_free_reads : (spec : Spec) → HasCodableTypes spec → (c : ComponentId) (s : Option SubId) (f : Ltl) → ReadsKinds (local_types spec c s) f
    → ReadsKinds (free_types spec c) (substituted (readings spec c s) f)
over_free_reads spec has c s f h =
    formula_kinds (λ (p : ℕ). Unit {0}) (local_types spec c s) (free_types spec c) (readings spec c s)
    (λ p u lt. readings_read spec has c s p lt) f (λ k d lt. tt) h

-- ---- contracts read ports of their component

option_kinds : (ports : List PortType) (o : Option Contract) (part : Contract → Ltl) → ((k : Contract) → o ≡ Some k → ReadsKinds ports (part k))
    → ReadsKinds ports (option_map_or part o form.True)
option_kinds ports None part h = tt
option_kinds ports (Some k) part h = h k refl

-- both formulas of a contract
record ContractKinds (ports : List PortType) (k : Option Contract) : Type 0 where
  asks : ReadsKinds ports (what_it_asks k)
  gives : ReadsKinds ports (what_it_gives k)

own_kinds : (spec : Spec) → HasCodableTypes spec → (c : ComponentId) (d : ContractId)
    → ContractKinds (own_types spec c) (slice_get (contracts_of spec c) d.0)
own_kinds spec has c d = record {
  asks = option_kinds (own_types spec c) (slice_get (contracts_of spec c) d.0) (λ (k : Contract). meaning k.assume)
      (λ k e. (has.contracts c d k e).0);
  gives = option_kinds (own_types spec c) (slice_get (contracts_of spec c) d.0) (λ (k : Contract). meaning k.guarantee)
      (λ k e. (has.contracts c d k e).1);
}

sub_kinds : (spec : Spec) → HasCodableTypes spec → (o : Option ComponentId) (d : ContractId)
    → ContractKinds (map kind_of (option_map_or (ports_of spec) o [])) (slice_get (option_map_or (contracts_of spec) o []) d.0)
sub_kinds spec has None d = record { asks = tt; gives = tt }
sub_kinds spec has (Some b) d = own_kinds spec has b d

contract_kinds : (spec : Spec) → HasCodableTypes spec → (c : ComponentId) (s : Option SubId) (d : ContractId)
    → ContractKinds (local_types spec c s) (contract_at spec c s d)
contract_kinds spec has c None d = own_kinds spec has c d
contract_kinds spec has c (Some s) d = sub_kinds spec has (sub_component spec c s) d

-- ---- so the formulas of a level read free ports of the kinds that they want

asked_kinds : (spec : Spec) → HasCodableTypes spec → (c : ComponentId) (s : Option SubId) (d : ContractId)
    → ReadsKinds (free_types spec c) (asked_over_free spec c s d)
asked_kinds spec has c s d = over_free_reads spec has c s (what_it_asks (contract_at spec c s d)) (contract_kinds spec has c s d).asks

given_kinds : (spec : Spec) → HasCodableTypes spec → (c : ComponentId) (s : Option SubId) (d : ContractId)
    → ReadsKinds (free_types spec c) (given_over_free spec c s d)
given_kinds spec has c s d = over_free_reads spec has c s (what_it_gives (contract_at spec c s d)) (contract_kinds spec has c s d).gives

-- both formulas of a listed contract
abbrev pub PartKinds : List PortType → SubId × Ltl × Ltl → Type 0
PartKinds ports part = ReadsKinds ports part.1 × ReadsKinds ports part.2

pub record HasLevelKinds (ports : List PortType) (level : LevelMeaning) : Type 0 where
  pub asks : ReadsKinds ports level.asks
  pub gives : ReadsKinds ports level.gives
  pub parts : All (PartKinds ports) level.parts

pub level_kinds : (spec : Spec) → HasCodableTypes spec → (item : Item)
    → HasLevelKinds (free_types spec item.component) (level_meaning spec item)
level_kinds spec has item =
    record {
      asks = asked_kinds spec has item.component None item.contract;
      gives = given_kinds spec has item.component None item.contract;
      parts = All-map (PartKinds (free_types spec item.component)) (part_over_free spec item.component) item.parts
          (λ k d lt.
          let part : SubId × ContractId = get_or item.parts k d in
          (asked_kinds spec has item.component (Some part.0) part.1, given_kinds spec has item.component (Some part.0) part.1));
    }
