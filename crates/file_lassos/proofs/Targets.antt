-- The free ports of a component: each is there, and none stands twice.
use Rattle.std.proofs.Common.{◌≡◌, ◌≢◌, ℕ, zero, suc, ◌+◌, ◌≤◌, Bool, true, false, cond, List, [], ◌∷◌, ◌++◌, length, map, filter, slice_get, get_or}
use Rattle.std.proofs.Common.{Option, Some, None, sym, ap, subst, ◌∙◌, arith}
use Rattle.std.specs.Prelude.{AllPairs, flat_map}
use Rattle.std.specs.List.{range_with_len}
use Rattle.std.specs.Option.{is_none}
use Rattle.std.proofs.lemmas.List.Kept.{AllPairs-filter}
use Rattle.std.proofs.lemmas.Option.{none-some, same_Some, slice_get-get_or}
use Rattle.oss_base.specs.declared.ids.ComponentId.{ComponentId}
use Rattle.oss_base.specs.declared.ids.SubId.{SubId}
use Rattle.port_types.specs.declared.types.PortType.TheVariants as kind
use Rattle.spec_model.specs.Architecture.{ports_of, subs_of, wires_of, ports_at, port_at, target, targets_at, all_ports, connection, free_targets}
use Rattle.spec_model.specs.FreePlaces.{whole_place}
use Rattle.spec_model.specs.FreeRows.{ports_among, is_unconnected}
use Rattle.spec_model.specs.declared.port.OwnPort.{OwnPort}
use Rattle.spec_model.specs.declared.spec.Spec.{Spec}
use Rattle.spec_model.specs.declared.sub.Sub.{Sub}
use Rattle.spec_model.specs.declared.wire.Target.{Target}
use Rattle.spec_model.specs.declared.wire.Wire.{Wire}
use Rattle.spec_model.proofs.FreePlaces.{Numbered, all_numbered}
use Rattle.spec_model.proofs.FreeTargets.{free_targets_are}
use Rattle.architecture.proofs.Listing.{Each}

-- facts of each element

each_append : {X : Type 0} (P : X → Type 0) (xs ys : List X) → Each P xs → Each P ys → Each P (xs ++ ys)
each_append P [] ys first second = second
each_append P (x ∷ xs) ys first second = (first.0, each_append P xs ys first.1 second)

each_flat : {X Y : Type 0} (P : Y → Type 0) (f : X → List Y) → ((x : X) → Each P (f x)) → (xs : List X) → Each P (flat_map f xs)
each_flat P f so [] = tt
each_flat P f so (x ∷ xs) = each_append P (f x) (flat_map f xs) (so x) (each_flat P f so xs)

passed : {X : Type 0} (P : X → Type 0) (b : Bool) (x : X) (xs : List X) → P x → Each P xs → Each P (cond b (x ∷ xs) xs)
passed P true x xs first more = (first, more)
passed P false x xs first more = more

each_filter : {X : Type 0} (P : X → Type 0) (test : X → Bool) (xs : List X) → Each P xs → Each P (filter test xs)
each_filter P test [] each = tt
each_filter P test (x ∷ xs) each = passed P (test x) x (filter test xs) each.0 (each_filter P test xs each.1)

-- the port is there
abbrev pub HasPort : Spec → ComponentId → Target → Type 0
HasPort spec c t = (port : OwnPort) × (port_at spec c t ≡ Some port)

no_port : OwnPort
no_port = record { name = []; input = false; kind = kind.Bool }

module _ (spec : Spec) (c : ComponentId) where
  row_ports : (s : Option SubId) (start count : ℕ) → start + count ≤ length (ports_at spec c s)
      → Each (HasPort spec c) (map (target s) (range_with_len start count))
  row_ports s start zero l = tt
  row_ports s start (suc count) l = (
    (get_or (ports_at spec c s) start no_port, slice_get-get_or (ports_at spec c s) start no_port (omega (arith, l))),
    row_ports s (start + 1) count (omega (arith, l)),
  )

  row_at : (s : Option SubId) → Each (HasPort spec c) (targets_at spec c s)
  row_at s = row_ports s 0 (length (ports_at spec c s)) (omega arith)

  pub free_ports_there : Each (HasPort spec c) (free_targets spec c)
  free_ports_there =
      each_filter (HasPort spec c) (λ t. is_none (connection spec c t)) (all_ports spec c)
      (each_append (HasPort spec c) (targets_at spec c None)
      (flat_map (λ (k : ℕ). targets_at spec c (Some (record { 0 = k }))) (range_with_len 0 (length (subs_of spec c))))
      (row_at None)
      (each_flat (HasPort spec c) (λ (k : ℕ). targets_at spec c (Some (record { 0 = k }))) (λ k. row_at (Some (record { 0 = k })))
      (range_with_len 0 (length (subs_of spec c)))))

-- elements with rising places differ

numbered_at : (place : Target → Option ℕ) (k : ℕ) (ts : List Target) → Numbered place k ts → (i : ℕ) (t : Target)
    → slice_get ts i ≡ Some t → place t ≡ Some (k + i)
numbered_at place k [] each i t at = absurd (none-some t at)
numbered_at place k (u ∷ ts) each zero t at =
    let e : k ≡ k + 0 = omega arith in
    ap place (sym (same_Some u t at)) ∙ (each.0 ∙ ap Some e)
numbered_at place k (u ∷ ts) each (suc i) t at =
    let e : k + 1 + i ≡ k + suc i = omega arith in
    numbered_at place (k + 1) ts each.1 i t at ∙ ap Some e

numbered_pairs : (place : Target → Option ℕ) (ts : List Target) → Numbered place 0 ts → AllPairs (λ (t u : Target). t ≢ u) ts
numbered_pairs place ts each i j d l m e =
    let one = numbered_at place 0 ts each i (get_or ts i d) (slice_get-get_or ts i d (omega (arith, l, m))) in
    let two = numbered_at place 0 ts each j (get_or ts j d) (slice_get-get_or ts j d m) in
    let same : 0 + i ≡ 0 + j = same_Some (0 + i) (0 + j) (sym one ∙ (ap place e ∙ two)) in
    absurd (omega (arith, same, l))

pub free_ports_differ : (spec : Spec) (c : ComponentId) → AllPairs (λ (t u : Target). t ≢ u) (free_targets spec c)
free_ports_differ spec c =
    let own : ℕ = length (ports_of spec c) in
    let counts : List ℕ = map (λ (s : Sub). length (ports_of spec s.component)) (subs_of spec c) in
    subst (AllPairs (λ (t u : Target). t ≢ u)) (sym (free_targets_are spec c))
    (AllPairs-filter (λ (t u : Target). t ≢ u) (is_unconnected (map (λ (w : Wire). w.target) (wires_of spec c))) (ports_among own counts)
    (numbered_pairs (whole_place own counts) (ports_among own counts) (all_numbered own counts)))
