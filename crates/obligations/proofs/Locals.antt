use Rattle.std.proofs.Common.{◌≡◌, ℕ, zero, suc, ◌<◌, false, List, [], ◌∷◌, map, filter_map, length, Option, Some, None, slice_get, Ok, refl, sym, ap, subst}
use Rattle.std.proofs.Common.{◌∙◌, arith}
use Rattle.std.specs.Prelude.{slice_index_or}
use Rattle.std.specs.Option.{option_map_or}
use Rattle.oss_base.specs.declared.ids.ComponentId.{ComponentId}
use Rattle.oss_base.specs.declared.ids.SubId.{SubId}
use Rattle.port_types.specs.declared.types.PortType.TheVariants as kind
use Rattle.port_types.specs.declared.types.Value.{Value}
use Rattle.port_types.specs.declared.types.Value.TheVariants as value
use Rattle.port_types.specs.Types.{IsOfType}
use Rattle.typed_ltl.specs.Traces.{Trace, IsOver}
use Rattle.spec_model.specs.declared.spec.Spec.{Spec}
use Rattle.spec_model.specs.declared.port.FreePort.{FreePort}
use Rattle.spec_model.specs.declared.port.OwnPort.{OwnPort}
use Rattle.spec_model.specs.declared.wire.Wire.{Wire}
use Rattle.spec_model.specs.declared.wire.Target.{Target}
use Rattle.spec_model.specs.Architecture.{ports_of, ports_at, wires_of, sub_component, port_at, target, same_target, connection}
use Rattle.spec_model.specs.Architecture.{free_targets, free_place, AreFreePorts}
use Rattle.spec_model.specs.FreeTypes.{type_of_target, free_types}
use Rattle.spec_model.specs.TargetKeys.{shown_port}
use Rattle.spec_model.proofs.FreeShown.{shown_free}
use Rattle.spec_model.proofs.Targets.{same_target_is}
use Rattle.connections.specs.Substitution.{source_reading, reading_value}
use Rattle.connections.specs.Substitution as by
use Rattle.connections.specs.Laws.{ConnectionsHold}
use Rattle.narrowed_questions.proofs.Among.{found}
use Rattle.narrowed_questions.proofs.Locals.{at_free_place}
use Rattle.obligations.specs.Systems.{Path, IsInstance, inner, around, IsSystemTrace}

-- The free ports of an instance: what a system trace gives them, and that the connections hold there.

local_value : (spec : Spec) (w : Path → Trace) (p : Path) (c : ComponentId) → IsInstance spec p c → IsSystemTrace spec w
    → (s : Option SubId) (i k : ℕ) → k < length (ports_at spec c s) → (o : Option Wire)
    → connection spec c (target s k) ≡ o
    → w (inner p s) i k ≡ reading_value (around spec w p c i) (option_map_or (λ (e : Wire). source_reading e.source) o
    (by.Free (free_place spec c (target s k))))
local_value spec w p c here sys s i k h None e =
    sym (ap (λ (o : Option Target). option_map_or (λ (t : Target). w (inner p t.sub) i t.port.0) o (value.Bool false)) (at_free_place spec c s k h e))
local_value spec w p c here sys s i k h (Some wire) e =
    let f = found (λ (x : Wire). same_target x.target (target s k)) (wires_of spec c) wire e in
    let same = same_target_is wire.target (target s k) f.2 in
    ap (λ (t : Target). w (inner p t.sub) i t.port.0) (sym same) ∙ sys.connected p c here i f.0 wire f.1

-- the connections of an instance's component hold on the trace of its free ports
pub connections_hold : (spec : Spec) (w : Path → Trace) (p : Path) (c : ComponentId) → IsInstance spec p c
    → IsSystemTrace spec w
    → (s : Option SubId) → ConnectionsHold spec c s (around spec w p c) (w (inner p s))
connections_hold spec w p c here sys s i k h = local_value spec w p c here sys s i k h (connection spec c (target s k)) refl

typed_at : (spec : Spec) (w : Path → Trace) (p : Path) (c : ComponentId) → IsInstance spec p c → IsSystemTrace spec w
    → (i : ℕ) (s : Option SubId) (k : ℕ) (port : OwnPort) → slice_get (ports_at spec c s) k ≡ Some port
    → IsOfType port.kind (w (inner p s) i k)
typed_at spec w p c here sys i None k port e = sys.typed p c here i k port e
typed_at spec w p c here sys i (Some s) k port e = typed_sub (sub_component spec c s) refl e where
  typed_sub : (o : Option ComponentId) → sub_component spec c s ≡ o → slice_get (option_map_or (ports_of spec) o []) k ≡ Some port
      → IsOfType port.kind (w (s ∷ p) i k)
  typed_sub None f g = cc
  typed_sub (Some b) f g = sys.typed (s ∷ p) b (c, here, f) i k port g

-- values of ports that are there are of the types of these
values_fit : (spec : Spec) (c : ComponentId) (give : Target → Value)
    → ((t : Target) (port : OwnPort) → port_at spec c t ≡ Some port → IsOfType port.kind (give t))
    → (ts : List Target) (free : List FreePort) → AreFreePorts spec c ts free → (k : ℕ) → k < length (map (type_of_target spec c) ts)
    → IsOfType (slice_index_or (map (type_of_target spec c) ts) k kind.Bool) (option_map_or give (slice_get ts k) (value.Bool false))
values_fit spec c give fit [] free h k l = absurd (omega arith)
values_fit spec c give fit (t ∷ ts) [] h k l = absurd h
values_fit spec c give fit (t ∷ ts) (free ∷ rest) h zero l =
    subst (λ (o : Option OwnPort). IsOfType (option_map_or (λ (port : OwnPort). port.kind) o kind.Bool) (give t)) (sym h.0.port.1)
    (fit t h.0.port.0 h.0.port.1)
values_fit spec c give fit (t ∷ ts) (free ∷ rest) h (suc k) l = values_fit spec c give fit ts rest h.1 k (omega arith)

-- the free ports of a component, as they are shown, are there
free_are_shown : (spec : Spec) (c : ComponentId)
    → AreFreePorts spec c (free_targets spec c) (filter_map (shown_port spec c) (free_targets spec c))
free_are_shown spec c = shown_free {E = ℕ} spec c (free_targets spec c) (Ok (filter_map (shown_port spec c) (free_targets spec c))) refl refl

-- the trace of an instance's free ports gives each of them a value of its type
pub typed_around : (spec : Spec) (w : Path → Trace) (p : Path) (c : ComponentId) → IsInstance spec p c
    → IsSystemTrace spec w
    → IsOver (free_types spec c) (around spec w p c)
typed_around spec w p c here sys i k l =
    values_fit spec c (λ (t : Target). w (inner p t.sub) i t.port.0) (λ t port e. typed_at spec w p c here sys i t.sub t.port.0 port e)
    (free_targets spec c) (filter_map (shown_port spec c) (free_targets spec c)) (free_are_shown spec c) k l
