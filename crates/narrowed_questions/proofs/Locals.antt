use Rattle.std.proofs.Common.{◌≡◌, ℕ, ◌+◌, ◌<◌, Bool, true, false, ◌&&◌, [], length, Option, Some, None, option_map, slice_get, refl, sym, ap}
use Rattle.std.proofs.Common.{arith}
use Rattle.std.proofs.lemmas.Bool.{false≢true, eqb-true, eq-eqb}
use Rattle.std.specs.List.{range_with_len}
use Rattle.std.specs.Option.{option_map_or, is_none}
use Rattle.oss_base.specs.declared.ids.ComponentId.{ComponentId}
use Rattle.oss_base.specs.declared.ids.SubId.{SubId}
use Rattle.spec_model.specs.declared.spec.Spec.{Spec}
use Rattle.spec_model.specs.declared.sub.Sub.{Sub}
use Rattle.spec_model.specs.declared.wire.Target.{Target}
use Rattle.spec_model.specs.Architecture.{ports_of, ports_at, subs_of, target, targets_at, all_ports, same_sub}
use Rattle.spec_model.specs.Architecture.{same_target, connection, free_targets, free_place}
use Rattle.narrowed_questions.proofs.Among.{Among, among_append_left, among_append_right, among_map, among_range, among_flat_map, among_filter, get_at_position}
use Rattle.narrowed_questions.proofs.Among.{below_length}

-- The free ports of an instance: what a system trace gives them, and that the connections hold there.

-- two targets are the same exactly where the test says so

pub same_sub_is : (a b : Option SubId) → same_sub a b ≡ true → a ≡ b
same_sub_is None None h = refl
same_sub_is None (Some s) h = absurd (false≢true h)
same_sub_is (Some s) None h = absurd (false≢true h)
same_sub_is (Some s) (Some r) h = ap (λ (n : ℕ). Some (record { 0 = n })) (eqb-true s.0 r.0 h)

pub same_sub_itself : (a : Option SubId) → same_sub a a ≡ true
same_sub_itself None = refl
same_sub_itself (Some s) = eq-eqb s.0 s.0 refl

and_first : (a b : Bool) → (a && b) ≡ true → a ≡ true
and_first true b h = refl
and_first false b h = absurd (false≢true h)

and_second : (a b : Bool) → (a && b) ≡ true → b ≡ true
and_second true b h = h
and_second false b h = absurd (false≢true h)

and_both : (a b : Bool) → a ≡ true → b ≡ true → (a && b) ≡ true
and_both true b h k = k
and_both false b h k = absurd (false≢true h)

same_parts : (a b : Option SubId) (m n : ℕ) → a ≡ b → m ≡ n → target a m ≡ target b n
same_parts a b m n e f = cc

pub same_target_is : (t u : Target) → same_target t u ≡ true → t ≡ u
same_target_is t u h =
    same_parts t.sub u.sub t.port.0 u.port.0 (same_sub_is t.sub u.sub (and_first _ _ h)) (eqb-true _ _ (and_second (same_sub t.sub u.sub) _ h))

pub same_target_itself : (t : Target) → same_target t t ≡ true
same_target_itself t = and_both _ _ (same_sub_itself t.sub) (eq-eqb _ _ refl)

-- each port of the component and of its subcomponents is among all ports

among_targets : (spec : Spec) (c : ComponentId) (s : Option SubId) (k : ℕ) → k < length (ports_at spec c s)
    → Among (targets_at spec c s) (target s k)
among_targets spec c s k h =
    let m = among_map (target s) (range_with_len 0 (length (ports_at spec c s))) (0 + k) (among_range 0 (length (ports_at spec c s)) k h) in
    let e : 0 + k ≡ k = omega arith in
    rw e at m

-- a subcomponent with ports exists
sub_exists : (spec : Spec) (o : Option Sub) (k : ℕ)
    → k < length (option_map_or (ports_of spec) (option_map (λ (sub : Sub). sub.component) o) [])
    → (sub : Sub) × (o ≡ Some sub)
sub_exists spec None k h = absurd (omega arith)
sub_exists spec (Some sub) k h = (sub, refl)

pub among_all_ports : (spec : Spec) (c : ComponentId) (s : Option SubId) (k : ℕ) → k < length (ports_at spec c s)
    → Among (all_ports spec c) (target s k)
among_all_ports spec c None k h = among_append_left _ _ _ (among_targets spec c None k h)
among_all_ports spec c (Some s) k h =
    let found = sub_exists spec (slice_get (subs_of spec c) s.0) k h in
    let below = below_length (subs_of spec c) s.0 found.0 found.1 in
    let r = among_range 0 (length (subs_of spec c)) s.0 below in
    let e : 0 + s.0 ≡ s.0 = omega arith in
    among_append_right (targets_at spec c None) _ _
    (among_flat_map (λ (k : ℕ). targets_at spec c (Some (record { 0 = k }))) (range_with_len 0 (length (subs_of spec c))) s.0 (target (Some s) k)
    (rw e at r) (among_targets spec c (Some s) k h))

-- a port without connection stands at its place in the free order
pub at_free_place : (spec : Spec) (c : ComponentId) (s : Option SubId) (k : ℕ) → k < length (ports_at spec c s)
    → connection spec c (target s k) ≡ None
    → slice_get (free_targets spec c) (free_place spec c (target s k)) ≡ Some (target s k)
at_free_place spec c s k h none =
    get_at_position (same_target (target s k)) (free_targets spec c) (target s k)
    (λ y e. sym (same_target_is (target s k) y e))
    (same_target_itself (target s k))
    (among_filter (λ (t : Target). is_none (connection spec c t)) (all_ports spec c) (target s k) (among_all_ports spec c s k h) (rw none refl))
