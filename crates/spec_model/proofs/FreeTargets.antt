use Rattle.std.proofs.Common.{◌≡◌, ℕ, zero, suc, ◌+◌, Bool, true, false, not, cond, ◌||◌, List, [], ◌∷◌, ◌++◌, map, filter_map, length, slice_get, Option}
use Rattle.std.proofs.Common.{Some, None, option_map, refl, sym, ap, ◌∙◌, arith}
use Rattle.std.proofs.lemmas.Bool.{false≢true}
use Rattle.std.specs.List.{range_with_len, flat_map, filter, find, list_any, cons_option}
use Rattle.std.specs.Option.{option_map_or, is_none}
use Rattle.oss_base.specs.declared.ids.ComponentId.{ComponentId}
use Rattle.oss_base.specs.declared.ids.SubId.{SubId}
use Rattle.spec_model.specs.declared.spec.Spec.{Spec}
use Rattle.spec_model.specs.declared.spec.Component.{Component}
use Rattle.spec_model.specs.declared.sub.Sub.{Sub}
use Rattle.spec_model.specs.declared.wire.Wire.{Wire}
use Rattle.spec_model.specs.declared.wire.Target.{Target}
use Rattle.spec_model.specs.Architecture.{ports_of, subs_of, wires_of, ports_at, target, targets_at, all_ports, same_target, connection, free_targets}
use Rattle.spec_model.specs.FreeRows.{row, rows, ports_among, is_unconnected, free_among}
use Rattle.spec_model.proofs.Targets.{same_target_is, same_target_itself}

-- The free ports of a component, by the numbers of ports and the targets of connections.

same_if : (b c : Bool) → (b ≡ true → c ≡ true) → (c ≡ true → b ≡ true) → b ≡ c
same_if true true f g = refl
same_if true false f g = absurd (false≢true (f refl))
same_if false true f g = absurd (false≢true (g refl))
same_if false false f g = refl

pub same_target_symmetric : (t u : Target) → same_target t u ≡ same_target u t
same_target_symmetric t u =
    same_if (same_target t u) (same_target u t)
    (λ h. ap (λ (v : Target). same_target v t) (sym (same_target_is t u h)) ∙ same_target_itself t)
    (λ h. ap (λ (v : Target). same_target v u) (sym (same_target_is u t h)) ∙ same_target_itself u)

found_is : (ws : List Wire) (t : Target)
    → is_none (find (λ (w : Wire). same_target w.target t) ws) ≡ is_unconnected (map (λ (w : Wire). w.target) ws) t
found_is [] t = refl
found_is (w ∷ ws) t =
    step (same_target w.target t) (find (λ (v : Wire). same_target v.target t) ws) (list_any (same_target t) (map (λ (v : Wire). v.target) ws))
    (found_is ws t)
    ∙ ap (λ b. not (b || list_any (same_target t) (map (λ (v : Wire). v.target) ws))) (same_target_symmetric w.target t)
  where
    step : (b : Bool) (o : Option Wire) (rest : Bool) → is_none o ≡ not rest → is_none (cond b (Some w) o) ≡ not (b || rest)
    step true o rest e = refl
    step false o rest e = e

filter_same : (p q : Target → Bool) → ((t : Target) → p t ≡ q t) → (ts : List Target) → filter p ts ≡ filter q ts
filter_same p q h [] = refl
filter_same p q h (t ∷ ts) = ap (λ b. cond b (t ∷ filter p ts) (filter p ts)) (h t) ∙ ap (λ list. cond (q t) (t ∷ list) list) (filter_same p q h ts)

abbrev counts_of : Spec → List Sub → List ℕ
counts_of spec subs = map (λ (s : Sub). length (ports_of spec s.component)) subs

sub_rows : (spec : Spec) (c : ComponentId) (a : ℕ) (subs : List Sub)
    → ((k : ℕ) → slice_get (subs_of spec c) (a + k) ≡ slice_get subs k)
    → flat_map (λ (k : ℕ). targets_at spec c (Some (record { 0 = k }))) (range_with_len a (length subs)) ≡ rows a (counts_of spec subs)
sub_rows spec c a [] h = refl
sub_rows spec c a (sub ∷ subs) h =
    let here : slice_get (subs_of spec c) a ≡ Some sub = (let z : a + 0 ≡ a = omega arith in rw z at (h 0)) in
    let ports : ports_at spec c (Some (record { 0 = a })) ≡ ports_of spec sub.component =
    ap (λ (o : Option Sub). option_map_or (ports_of spec) (option_map (λ (x : Sub). x.component) o) []) here in
    let rest = sub_rows spec c (a + 1) subs (λ k. let z : a + 1 + k ≡ a + suc k = omega arith in rw z (h (suc k))) in
    ap (λ ports. row (Some (record { 0 = a })) (length ports) ++ flat_map (λ (k : ℕ). targets_at spec c (Some (record { 0 = k }))) (range_with_len (a + 1)
    (length subs))) ports
    ∙ ap (λ list. row (Some (record { 0 = a })) (length (ports_of spec sub.component)) ++ list) rest

pub all_ports_are : (spec : Spec) (c : ComponentId)
    → all_ports spec c ≡ ports_among (length (ports_of spec c)) (counts_of spec (subs_of spec c))
all_ports_are spec c =
    ap (λ list. row None (length (ports_of spec c)) ++ list) (sub_rows spec c 0 (subs_of spec c) (λ k. let z : 0 + k ≡ k = omega arith in rw z refl))

pub free_targets_are : (spec : Spec) (c : ComponentId)
    → free_targets spec c ≡ free_among (length (ports_of spec c)) (map (λ (s : Sub). length (ports_of spec s.component)) (subs_of spec c)) (map (λ
    (w : Wire). w.target) (wires_of spec c))
free_targets_are spec c =
    ap (filter (λ t. is_none (connection spec c t))) (all_ports_are spec c)
    ∙ filter_same (λ t. is_none (connection spec c t)) (is_unconnected (map (λ (w : Wire). w.target) (wires_of spec c))) (found_is (wires_of spec c))
    (ports_among (length (ports_of spec c)) (counts_of spec (subs_of spec c)))
