-- Specifications whose types can be coded in bits, and whose formulas read ports of the kinds that they want (Cimatti
-- and Tonetta, Contracts-refinement proof system for component-based embedded systems, 2015: components with typed
-- ports, and expressions over them).
use Rattle.std.specs.Prelude.{◌≡◌, ℕ, List, map, Some, slice_get}
use Rattle.oss_base.specs.declared.ids.ComponentId.{ComponentId}
use Rattle.oss_base.specs.declared.ids.ContractId.{ContractId}
use Rattle.port_types.specs.declared.types.PortType.{PortType}
use Rattle.port_types.specs.declared.types.PortType.TheVariants as kind
use Rattle.typed_ltl.specs.Formulas.{Ltl, meaning, number_of, choice_of}
use Rattle.typed_ltl.specs.Formulas as form
use Rattle.state_coding.specs.Codes.{IsCodable}
use Rattle.state_coding.specs.Reads.{ReadsNumbers, ReadsEnumeration, ReadsPorts}
use Rattle.spec_model.specs.declared.spec.Spec.{Spec}
use Rattle.spec_model.specs.declared.port.OwnPort.{OwnPort}
use Rattle.spec_model.specs.declared.contract.Contract.{Contract}
use Rattle.spec_model.specs.declared.wire.Wire.{Wire}
use Rattle.spec_model.specs.declared.wire.Target.{Target}
use Rattle.spec_model.specs.declared.wire.Source.{Source}
use Rattle.spec_model.specs.declared.wire.Source.TheVariants as source
use Rattle.spec_model.specs.Architecture.{ports_of, contracts_of, wires_of, port_at}
use Rattle.spec_model.specs.FreeTypes.{free_types}

-- each atom of the formula reads ports of the kinds that it wants
abbrev pub ReadsKinds : List PortType → Ltl → Type 0
ReadsKinds ports form.True = Unit {0}
ReadsKinds ports form.False = Unit {0}
ReadsKinds ports (form.Atomic a) = ReadsPorts ports a
ReadsKinds ports (form.Not f) = ReadsKinds ports f
ReadsKinds ports (form.And f g) = ReadsKinds ports f × ReadsKinds ports g
ReadsKinds ports (form.Or f g) = ReadsKinds ports f × ReadsKinds ports g
ReadsKinds ports (form.Implies f g) = ReadsKinds ports f × ReadsKinds ports g
ReadsKinds ports (form.Iff f g) = ReadsKinds ports f × ReadsKinds ports g
ReadsKinds ports (form.Then f) = ReadsKinds ports f
ReadsKinds ports (form.Until f g) = ReadsKinds ports f × ReadsKinds ports g
ReadsKinds ports (form.Releases f g) = ReadsKinds ports f × ReadsKinds ports g
ReadsKinds ports (form.Future f) = ReadsKinds ports f
ReadsKinds ports (form.Always f) = ReadsKinds ports f
ReadsKinds ports (form.Never f) = ReadsKinds ports f

-- the types of the ports of a component
abbrev pub own_types : Spec → ComponentId → List PortType
own_types spec c = map (λ (port : OwnPort). port.kind) (ports_of spec c)

-- the source is what a port of this type wants, and reads ports of the kinds that it wants
abbrev pub SourceReads : List PortType → PortType → Source → Type 0
SourceReads free kind.Bool (source.Truth f) = ReadsKinds free (meaning f)
SourceReads free (kind.Range lo hi) (source.Number t) = ReadsNumbers free (number_of t)
SourceReads free (kind.Enum names) (source.Choice p) = ReadsEnumeration free (choice_of p)
SourceReads free _ _ = ⊥

-- A specification whose types can be coded, and whose formulas read ports of their kinds: contracts the own ports of
-- their component, connections the free ports.
pub record HasCodableTypes (spec : Spec) : Type 0 where
  pub types : (c : ComponentId) (t : Target) (port : OwnPort) → port_at spec c t ≡ Some port → IsCodable port.kind
  pub contracts : (c : ComponentId) (d : ContractId) (k : Contract) → slice_get (contracts_of spec c) d.0 ≡ Some k
      → ReadsKinds (own_types spec c) (meaning k.assume) × ReadsKinds (own_types spec c) (meaning k.guarantee)
  pub sources : (c : ComponentId) (n : ℕ) (w : Wire) → slice_get (wires_of spec c) n ≡ Some w
      → (port : OwnPort) × (port_at spec c w.target ≡ Some port) × SourceReads (free_types spec c) port.kind w.source
