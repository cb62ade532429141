-- Instances, and traces of the whole system (Cimatti and Tonetta, Contracts-refinement proof system for component-based
-- embedded systems, 2015: the traces of a composite implementation). All components and connections step together: a
-- system trace gives every instance a valuation at every position.
use Rattle.std.specs.Prelude.{◌≡◌, ℕ, false, List, [], ◌∷◌, Option, Some, None, slice_get}
use Rattle.std.specs.Option.{option_map_or}
use Rattle.oss_base.specs.declared.ids.ComponentId.{ComponentId}
use Rattle.oss_base.specs.declared.ids.ContractId.{ContractId}
use Rattle.oss_base.specs.declared.ids.SubId.{SubId}
use Rattle.port_types.specs.declared.types.Value.TheVariants as value
use Rattle.typed_ltl.specs.Formulas.{Ltl}
use Rattle.typed_ltl.specs.Formulas as form
use Rattle.typed_ltl.specs.Traces.{Trace}
use Rattle.typed_ltl.specs.Truth.{Holds}
use Rattle.spec_model.specs.declared.spec.Spec.{Spec}
use Rattle.spec_model.specs.declared.port.OwnPort.{OwnPort}
use Rattle.spec_model.specs.declared.item.Item.{Item}
use Rattle.spec_model.specs.declared.wire.Wire.{Wire}
use Rattle.spec_model.specs.declared.wire.Target.{Target}
use Rattle.port_types.specs.Types.{IsOfType}
use Rattle.spec_model.specs.Architecture.{ports_of, wires_of, sub_component, free_targets}
use Rattle.connections.specs.Substitution.{reading_value, source_reading}
use Rattle.connections.specs.LevelFormulas.{contract_at, what_it_asks, what_it_gives}

-- What a contract of a component asks and gives, over the ports of that component, and what an implementation of it
-- meets: where the one holds, so does the other.
abbrev pub assumption : Spec → ComponentId → ContractId → Ltl
assumption spec c d = what_it_asks (contract_at spec c None d)

abbrev pub guarantee : Spec → ComponentId → ContractId → Ltl
guarantee spec c d = what_it_gives (contract_at spec c None d)

abbrev pub normal_form : Spec → ComponentId → ContractId → Ltl
normal_form spec c d = form.Implies (assumption spec c d) (guarantee spec c d)

-- An instance: the subcomponents on the way to it from the system, the last one first.
abbrev pub Path : Type 0
Path = List SubId

-- there is an instance of this component at the path
abbrev pub IsInstance : Spec → Path → ComponentId → Type 0
IsInstance spec [] c = c ≡ spec.system
IsInstance spec (s ∷ p) b = (c : ComponentId) × IsInstance spec p c × (sub_component spec c s ≡ Some b)

-- the instance itself, or one of its subcomponents
abbrev pub inner : Path → Option SubId → Path
inner p None = p
inner p (Some s) = s ∷ p

-- The trace of the free ports of an instance's component, as the system trace gives them.
abbrev pub around : Spec → (Path → Trace) → Path → ComponentId → Trace
around spec w p c i k = option_map_or (λ (t : Target). w (inner p t.sub) i t.port.0) (slice_get (free_targets spec c) k)
    (value.Bool false)

-- A system trace: at each position each port of each instance has a value of its type, and the target
-- of every connection has the value of its expression.
pub record IsSystemTrace (spec : Spec) (w : Path → Trace) : Type 0 where
  pub typed : (p : Path) (c : ComponentId) → IsInstance spec p c → (i k : ℕ) (port : OwnPort)
      → slice_get (ports_of spec c) k ≡ Some port
      → IsOfType port.kind (w p i k)
  pub connected : (p : Path) (c : ComponentId) → IsInstance spec p c → (i n : ℕ) (wire : Wire)
      → slice_get (wires_of spec c) n ≡ Some wire
      → w (inner p wire.target.sub) i wire.target.port.0
      ≡ reading_value (around spec w p c i) (source_reading wire.source)

-- the item refines this contract of this component
pub record IsRefinedBy (spec : Spec) (c : ComponentId) (d : ContractId) (item : Item) : Type 0 where
  pub stands : (n : ℕ) × (slice_get spec.items n ≡ Some item)
  pub component : item.component ≡ c
  pub contract : item.contract ≡ d

abbrev pub IsUnrefined : Spec → ComponentId → ContractId → Type 0
IsUnrefined spec c d = (item : Item) → IsRefinedBy spec c d item → ⊥

-- an item that refines this contract lists this contract of this subcomponent
abbrev pub IsListed : Spec → ComponentId → ContractId → SubId → ContractId → Type 0
IsListed spec c d s e = (item : Item) × IsRefinedBy spec c d item × (n : ℕ) × (slice_get item.parts n ≡ Some (s, e))

-- The contracts that a contract of the system rests on: itself, and those that are listed for one that
-- is reached one subcomponent further up.
abbrev pub IsReached : Spec → ContractId → Path → ComponentId → ContractId → Type 0
IsReached spec k [] c d = (c ≡ spec.system) × (d ≡ k)
IsReached spec k (s ∷ p) b e = (c : ComponentId) × (d : ContractId) × IsReached spec k p c d
    × (sub_component spec c s ≡ Some b) × IsListed spec c d s e

-- Every reached contract that is not refined has its normal form at position 0.
abbrev pub LeavesMeet : Spec → (Path → Trace) → ContractId → Type 0
LeavesMeet spec w k = (p : Path) (c : ComponentId) (d : ContractId) → IsReached spec k p c d → IsUnrefined spec c d
    → Holds (w p) (normal_form spec c d) 0

-- The guarantee of the system's contract holds at position 0, and so does every reached assumption.
pub record IsSystemSafe (spec : Spec) (w : Path → Trace) (k : ContractId) : Type 0 where
  pub guaranteed : Holds (w []) (guarantee spec spec.system k) 0
  pub assumed : (p : Path) (c : ComponentId) (d : ContractId) → IsReached spec k p c d
      → Holds (w p) (assumption spec c d) 0

-- Each system trace whose unrefined reached contracts hold, and whose environment meets the assumption of this
-- contract of the system, meets its guarantee and every reached assumption.
abbrev pub IsSafeFor : Spec → ContractId → Type 0
IsSafeFor spec k = (w : Path → Trace) → IsSystemTrace spec w → LeavesMeet spec w k
    → Holds (w []) (assumption spec spec.system k) 0 → IsSystemSafe spec w k

-- The same for every contract of the system.
abbrev pub IsSafe : Spec → Type 0
IsSafe spec = (k : ContractId) → IsSafeFor spec k
