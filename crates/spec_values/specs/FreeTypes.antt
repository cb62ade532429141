-- Values within their types: where each free port of a component has a value of its type, the expression of each
-- connection has one of its target's type (type soundness: B. C. Pierce, Types and Programming Languages, 2002).
use Rattle.std.specs.Prelude.{◌≡◌, ℕ, Bool, Some, slice_get}
use Rattle.port_types.specs.declared.types.PortType.{PortType}
use Rattle.port_types.specs.declared.types.Value.TheVariants as value
use Rattle.port_types.specs.Types.{IsOfType}
use Rattle.oss_base.specs.declared.ids.ComponentId.{ComponentId}
use Rattle.typed_ltl.specs.Formulas.{number_of, choice_of}
use Rattle.typed_ltl.specs.Traces.{Assignment}
use Rattle.typed_ltl.specs.Truth.{number_value, choice_name}
use Rattle.spec_model.specs.declared.port.OwnPort.{OwnPort}
use Rattle.spec_model.specs.declared.spec.Spec.{Spec}
use Rattle.spec_model.specs.declared.wire.Source.{Source}
use Rattle.spec_model.specs.declared.wire.Source.TheVariants as source
use Rattle.spec_model.specs.declared.wire.Target.{Target}
use Rattle.spec_model.specs.declared.wire.Wire.{Wire}
use Rattle.spec_model.specs.Architecture.{free_targets, port_at, wires_of}

-- each free port has a value of its type
abbrev pub HasFreeTypes : Spec → ComponentId → Assignment → Type 0
HasFreeTypes spec c free =
    (k : ℕ) (t : Target) (port : OwnPort) → slice_get (free_targets spec c) k ≡ Some t → port_at spec c t ≡ Some port
    → IsOfType port.kind (free k)

-- The expression of a connection has a value of this type, where the free ports have these. The value of a formula is a
-- truth value, whichever it is.
abbrev pub SourceHasType : PortType → Assignment → Source → Type 0
SourceHasType type free (source.Truth f) = (truth : Bool) → IsOfType type (value.Bool truth)
SourceHasType type free (source.Number t) = IsOfType type (value.Int (number_value free free (number_of t)))
SourceHasType type free (source.Choice p) = IsOfType type (value.Name (choice_name free free (choice_of p)))

-- each connection gives a port that is there a value of the port's type
abbrev pub SourcesKeepTypes : Spec → Type 0
SourcesKeepTypes spec =
    (c : ComponentId) (n : ℕ) (w : Wire) → slice_get (wires_of spec c) n ≡ Some w
    → (port : OwnPort) × (port_at spec c w.target ≡ Some port)
    × ((free : Assignment) → HasFreeTypes spec c free → SourceHasType port.kind free w.source)
