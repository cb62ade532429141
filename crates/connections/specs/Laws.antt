-- Laws of substitution: what holds on every trace whose connections hold.
use Rattle.std.specs.Prelude.{◌≡◌, ℕ, ◌<◌, ◌↔◌, Option, length}
use Rattle.oss_base.specs.declared.ids.ComponentId.{ComponentId}
use Rattle.oss_base.specs.declared.ids.SubId.{SubId}
use Rattle.typed_ltl.specs.Formulas.{Ltl}
use Rattle.typed_ltl.specs.Traces.{Trace}
use Rattle.typed_ltl.specs.Truth.{Holds}
use Rattle.spec_model.specs.declared.spec.Spec.{Spec}
use Rattle.spec_model.specs.Expressions.{ReadsBelow}
use Rattle.spec_model.specs.Architecture.{IsWellFormed, ports_at}
use Rattle.connections.specs.Substitution.{substituted, readings, port_value}

-- The connections of a component hold: the trace gives the ports of the component itself, or of one of
-- its subcomponents, the values of what they stand for on a trace of the free ports.
abbrev pub ConnectionsHold : Spec → ComponentId → Option SubId → Trace → Trace → Type 0
ConnectionsHold spec c s free w = (i k : ℕ) → k < length (ports_at spec c s) → w i k ≡ port_value spec c (free i) s k

-- On every trace whose connections hold, a formula and its substituted form have the same truth at
-- every position.
abbrev pub SubstitutionKeepsTruth : Type 0
SubstitutionKeepsTruth = (spec : Spec) (c : ComponentId) (s : Option SubId) (free w : Trace) → IsWellFormed spec
    → ConnectionsHold spec c s free w
    → (f : Ltl) (i : ℕ) → ReadsBelow (length (ports_at spec c s)) f
    → Holds w f i ↔ Holds free (substituted (readings spec c s) f) i
