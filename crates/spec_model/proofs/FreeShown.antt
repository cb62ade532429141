use Rattle.std.proofs.Common.{◌≡◌, ℕ, zero, suc, ◌+◌, ◌<◌, ◌≤◌, Bool, true, false, cond, List, [], ◌∷◌, ◌++◌, map, filter_map, length, slice_get, get_or}
use Rattle.std.proofs.Common.{Option, Some, None, option_map, Result, Ok, Err, IfOk, refl, sym, ap, subst, ◌∙◌, arith}
use Rattle.std.proofs.lemmas.Option.{slice_get-get_or}
use Rattle.std.specs.List.{range_with_len, flat_map, filter, cons_option}
use Rattle.std.specs.Option.{is_none}
use Rattle.oss_base.specs.declared.ids.ComponentId.{ComponentId}
use Rattle.oss_base.specs.declared.ids.SubId.{SubId}
use Rattle.spec_model.specs.declared.spec.Spec.{Spec}
use Rattle.spec_model.specs.declared.port.OwnPort.{OwnPort}
use Rattle.spec_model.specs.declared.port.FreePort.{FreePort}
use Rattle.spec_model.specs.declared.wire.Target.{Target}
use Rattle.spec_model.specs.Architecture.{ports_at, port_at, subs_of, target, targets_at, all_ports, connection, free_targets, AreFreePorts}
use Rattle.spec_model.specs.TargetKeys.{shown_port}

-- Every free port is there, so one is shown for each.

-- each of the targets names a port
abbrev pub Present : Spec → ComponentId → List Target → Type 0
Present spec c [] = Unit {0}
Present spec c (t ∷ ts) = ((port : OwnPort) × (port_at spec c t ≡ Some port)) × Present spec c ts

present_append : (spec : Spec) (c : ComponentId) (ts us : List Target) → Present spec c ts → Present spec c us
    → Present spec c (ts ++ us)
present_append spec c [] us p q = q
present_append spec c (t ∷ ts) us p q = (p.0, present_append spec c ts us p.1 q)

present_filter : (spec : Spec) (c : ComponentId) (free : Target → Bool) (ts : List Target) → Present spec c ts
    → Present spec c (filter free ts)
present_filter spec c free [] p = tt
present_filter spec c free (t ∷ ts) p = by (free t) (present_filter spec c free ts p.1)
  where
    by : (b : Bool) → Present spec c (filter free ts) → Present spec c (cond b (t ∷ filter free ts) (filter free ts))
    by true rest = (p.0, rest)
    by false rest = rest

there : (ports : List OwnPort) (n : ℕ) → n < length ports → (port : OwnPort) × (slice_get ports n ≡ Some port)
there [] n h = absurd (omega arith)
there (port ∷ ports) n h = (get_or (port ∷ ports) n port, slice_get-get_or (port ∷ ports) n port h)

present_row : (spec : Spec) (c : ComponentId) (s : Option SubId) (a n : ℕ) → a + n ≤ length (ports_at spec c s)
    → Present spec c (map (target s) (range_with_len a n))
present_row spec c s a zero h = tt
present_row spec c s a (suc n) h = (there (ports_at spec c s) a (omega arith), present_row spec c s (a + 1) n (omega arith))

present_rows : (spec : Spec) (c : ComponentId) (ks : List ℕ)
    → Present spec c (flat_map (λ (k : ℕ). targets_at spec c (Some (record { 0 = k }))) ks)
present_rows spec c [] = tt
present_rows spec c (k ∷ ks) =
    present_append spec c (targets_at spec c (Some (record { 0 = k }))) (flat_map (λ (j : ℕ). targets_at spec c (Some (record { 0 = j }))) ks)
    (present_row spec c (Some (record { 0 = k })) 0 (length (ports_at spec c (Some (record { 0 = k })))) (omega arith)) (present_rows spec c ks)

free_present : (spec : Spec) (c : ComponentId) → Present spec c (free_targets spec c)
free_present spec c =
    present_filter spec c (λ t. is_none (connection spec c t)) (all_ports spec c)
    (present_append spec c (targets_at spec c None) (flat_map (λ (k : ℕ). targets_at spec c (Some (record { 0 = k }))) (range_with_len 0 (length
    (subs_of spec c))))
    (present_row spec c None 0 (length (ports_at spec c None)) (omega arith))
    (present_rows spec c (range_with_len 0 (length (subs_of spec c)))))

shown_each : (spec : Spec) (c : ComponentId) (ts : List Target) → Present spec c ts
    → AreFreePorts spec c ts (filter_map (shown_port spec c) ts)
shown_each spec c [] p = tt
shown_each spec c (t ∷ ts) p = by (port_at spec c t) refl p.0.1 (shown_each spec c ts p.1)
  where
    by : (o : Option OwnPort) → port_at spec c t ≡ o → port_at spec c t ≡ Some p.0.0 → AreFreePorts spec c ts (filter_map (shown_port spec c) ts)
        → AreFreePorts spec c (t ∷ ts) (cons_option (option_map (λ (port : OwnPort). record {
          sub = t.sub;
          name = port.name;
          kind = port.kind;
        }) o) (filter_map (shown_port spec c) ts))
    by None e f rest = cc
    by (Some port) e f rest = (record { at = refl; port = (port, e, refl, refl) }, rest)

free_shown : (spec : Spec) (c : ComponentId)
    → AreFreePorts spec c (free_targets spec c) (filter_map (shown_port spec c) (free_targets spec c))
free_shown spec c = shown_each spec c (free_targets spec c) (free_present spec c)

pub shown_free : {E : Type 0} (spec : Spec) (c : ComponentId) (targets : List Target) (r : Result (List FreePort) E)
    → targets ≡ free_targets spec c
    → IfOk r (λ free. free ≡ filter_map (shown_port spec c) targets)
    → IfOk r (λ free. AreFreePorts spec c (free_targets spec c) free)
shown_free spec c targets (Ok free) e h = subst (AreFreePorts spec c (free_targets spec c)) (sym (h ∙ ap (filter_map (shown_port spec c)) e))
    (free_shown spec c)
shown_free spec c targets (Err x) e h = h
