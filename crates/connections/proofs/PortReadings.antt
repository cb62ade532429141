use Rattle.std.proofs.Common.{◌≡◌, ℕ, zero, suc, ◌+◌, ◌<◌, ◌≤◌, ◌⊎◌, Bool, true, false, cond, List, [], ◌∷◌, ◌++◌, map, length, Option, Some, None}
use Rattle.std.proofs.Common.{option_map, slice_get, is_none, refl, sym, ap, ◌∙◌, inl, inr, arith}
use Rattle.std.proofs.lemmas.Bool.{false≢true}
use Rattle.std.proofs.lemmas.Option.{slice_get-map, slice_get_past}
use Rattle.std.specs.List.{range_with_len, flat_map, filter, find, position_or_len}
use Rattle.std.specs.Option.{option_map_or}
use Rattle.oss_base.specs.declared.ids.ComponentId.{ComponentId}
use Rattle.oss_base.specs.declared.ids.SubId.{SubId}
use Rattle.typed_ltl.specs.Formulas.{Ltl}
use Rattle.spec_model.specs.declared.spec.Spec.{Spec}
use Rattle.spec_model.specs.declared.sub.Sub.{Sub}
use Rattle.spec_model.specs.declared.wire.Wire.{Wire}
use Rattle.spec_model.specs.declared.wire.Target.{Target}
use Rattle.spec_model.specs.Architecture.{ports_of, ports_at, subs_of, wires_of, target, targets_at, all_ports, same_target, connection, free_targets}
use Rattle.spec_model.specs.Architecture.{free_place}
use Rattle.connections.specs.declared.driving.Driver.{Driver}
use Rattle.connections.specs.declared.driving.Driver.TheVariants as driver
use Rattle.connections.specs.Drivers.{first_place, first_wire, driver_of, driver_rows}
use Rattle.connections.specs.Substitution.{Reading, readings, source_reading, substituted}
use Rattle.connections.specs.Substitution as by
use Rattle.connections.specs.PortTables.{PortTable, wire_of_driver, place_of_driver, first_with_target, table_place, reading_of_wire, table_reading, row_in}
use Rattle.connections.specs.PortTables.{table_at, TellConnections}
use Rattle.spec_model.proofs.Targets.{other_target}
use Rattle.connections.proofs.Driven.{Fresh, free_is, place_step}

-- What the table of drivers says of a port is what its connection says.

-- the connection that a driver stands for

at_place : Option ℕ → List Wire → Option Wire
at_place None ws = None
at_place (Some k) ws = slice_get ws k

at_first : (p : Wire → Bool) (ws : List Wire) → at_place (first_place p ws) ws ≡ find p ws
unfolding at_place
at_first p [] = refl
at_first p (w ∷ ws) = step (p w) (first_place p ws) (find p ws) (at_first p ws) where
  step : (b : Bool) (o : Option ℕ) (q : Option Wire) → at_place o ws ≡ q
      → at_place (cond b (Some 0) (option_map (λ (k : ℕ). k + 1) o)) (w ∷ ws) ≡ cond b (Some w) q
  step true o q e = refl
  step false None q e = e
  step false (Some k) q e = let z : k + 1 ≡ suc k = omega arith in rw z e

by_driver : (o : Option ℕ) (ws : List Wire) (place : ℕ)
    → wire_of_driver ws (option_map_or driver.Wired o (driver.Free place)) ≡ at_place o ws
unfolding at_place
by_driver None ws place = refl
by_driver (Some k) ws place = refl

wire_found : (spec : Spec) (c : ComponentId) (t : Target)
    → wire_of_driver (wires_of spec c) (driver_of spec c t) ≡ connection spec c t
wire_found spec c t =
    by_driver (first_wire (wires_of spec c) t) (wires_of spec c) (free_place spec c t)
    ∙ at_first (λ (w : Wire). same_target w.target t) (wires_of spec c)

free_driver : (o : Option ℕ) (q : Option Wire) (free place : ℕ) → is_none q ≡ is_none o → q ≡ None
    → place_of_driver free (option_map_or driver.Wired o (driver.Free place)) ≡ place
free_driver None q free place e f = refl
free_driver (Some k) q free place e f = absurd (false≢true (sym e ∙ ap is_none f))

place_found : (spec : Spec) (c : ComponentId) (t : Target) (free : ℕ) → connection spec c t ≡ None
    → place_of_driver free (driver_of spec c t) ≡ free_place spec c t
place_found spec c t free e =
    free_driver (first_wire (wires_of spec c) t) (connection spec c t) free (free_place spec c t) (free_is (wires_of spec c) t) e

-- the cells of the table

range_at : (a n k : ℕ) → ((slice_get (range_with_len a n) k ≡ Some (a + k)) × (k < n))
    ⊎ ((slice_get (range_with_len a n) k ≡ None) × (n ≤ k))
range_at a zero k = inr (refl, omega arith)
range_at a (suc n) zero = inl (ap Some (omega arith), omega arith)
range_at a (suc n) (suc k) =
    elim (range_at (a + 1) n k) [
      | inl h ↦ inl (h.0 ∙ ap Some (omega arith), omega (arith, h.1))
      | inr h ↦ inr (h.0, omega (arith, h.1))
    ]

sub_row : (spec : Spec) (c : ComponentId) (s : SubId)
    → row_in (driver_rows spec c) (Some s) ≡ map (driver_of spec c) (targets_at spec c (Some s))
sub_row spec c s =
    let row : ℕ → List Target = λ (k : ℕ). targets_at spec c (Some (record { 0 = k })) in
    let numbers = range_with_len 0 (length (subs_of spec c)) in
    let next : s.0 + 1 ≡ suc s.0 = omega arith in
    let cell : slice_get (map (map (driver_of spec c)) (map row numbers)) s.0 ≡ option_map (map (driver_of spec c))
    (option_map row (slice_get numbers s.0)) =
    slice_get-map (map (driver_of spec c)) (map row numbers) s.0 ∙ ap (option_map (map (driver_of spec c))) (slice_get-map row numbers s.0) in
    rw next
    (elim (range_at 0 (length (subs_of spec c)) s.0) [
      | inl h ↦
          (let z : 0 + s.0 ≡ s.0 = omega arith in
          ap (λ (o : Option (List Driver)). option_map_or (λ (r : List Driver). r) o [])
          (cell ∙ ap (λ (o : Option ℕ). option_map (map (driver_of spec c)) (option_map row o)) (h.0 ∙ ap Some z)))
      | inr h ↦
          (ap (λ (o : Option (List Driver)). option_map_or (λ (r : List Driver). r) o [])
          (cell ∙ ap (λ (o : Option ℕ). option_map (map (driver_of spec c)) (option_map row o)) h.0)
          ∙ sym
          (ap
          (λ (o : Option Sub). map (driver_of spec c)
          (map (target (Some s)) (range_with_len 0 (length (option_map_or (ports_of spec) (option_map (λ (x : Sub). x.component) o) [])))))
          (slice_get_past (subs_of spec c) s.0 h.1)))
    ])

any_row : (spec : Spec) (c : ComponentId) (sub : Option SubId)
    → row_in (driver_rows spec c) sub ≡ map (driver_of spec c) (targets_at spec c sub)
any_row spec c None = refl
any_row spec c (Some s) = sub_row spec c s

-- a port of the row, or none
abbrev pub CellOf : Spec → ComponentId → Option SubId → ℕ → Type 0
CellOf spec c sub k = (slice_get (row_in (driver_rows spec c) sub) k ≡ Some (driver_of spec c (target sub k)))
    ⊎ ((slice_get (row_in (driver_rows spec c) sub) k ≡ None) × (length (ports_at spec c sub) ≤ k))

cell_of : (spec : Spec) (c : ComponentId) (sub : Option SubId) (k : ℕ) → CellOf spec c sub k
cell_of spec c sub k =
    let numbers = range_with_len 0 (length (ports_at spec c sub)) in
    let cell : slice_get (row_in (driver_rows spec c) sub) k ≡ option_map (driver_of spec c) (option_map (target sub) (slice_get numbers k)) =
    ap (λ (r : List Driver). slice_get r k) (any_row spec c sub) ∙ slice_get-map (driver_of spec c) (map (target sub) numbers) k
    ∙ ap (option_map (driver_of spec c)) (slice_get-map (target sub) numbers k) in
    elim (range_at 0 (length (ports_at spec c sub)) k) [
      | inl h ↦
          (let z : 0 + k ≡ k = omega arith in
          inl (cell ∙ ap (λ (o : Option ℕ). option_map (driver_of spec c) (option_map (target sub) o)) (h.0 ∙ ap Some z)))
      | inr h ↦ inr (cell ∙ ap (λ (o : Option ℕ). option_map (driver_of spec c) (option_map (target sub) o)) h.0, h.1)
    ]

pub rows_tell_connections : (spec : Spec) (c : ComponentId) → TellConnections spec c (driver_rows spec c)
rows_tell_connections spec c free sub k =
    let other = first_with_target (wires_of spec c) (target sub k) in
    elim (cell_of spec c sub k) [
      | inl h ↦ ap (λ (o : Option Driver). option_map_or (wire_of_driver (wires_of spec c)) o other) h ∙ wire_found spec c (target sub k)
      | inr h ↦ ap (λ (o : Option Driver). option_map_or (wire_of_driver (wires_of spec c)) o other) h.0
    ]

pub no_rows_tell_connections : (spec : Spec) (c : ComponentId) → TellConnections spec c []
no_rows_tell_connections spec c free sub k = refl

-- a port that does not exist has the place behind all free ports

fresh_range : (t : Target) (s : Option SubId) (a n : ℕ) → ((j : ℕ) → j < a + n → t ≡ target s j → ⊥)
    → Fresh t (map (target s) (range_with_len a n))
fresh_range t s a zero h = tt
fresh_range t s a (suc n) h =
    (other_target t (target s a) (h a (omega arith)), fresh_range t s (a + 1) n (λ j l. h j (omega arith)))

fresh_append : (t : Target) (xs ys : List Target) → Fresh t xs → Fresh t ys → Fresh t (xs ++ ys)
fresh_append t [] ys h k = k
fresh_append t (x ∷ xs) ys h k = (h.0, fresh_append t xs ys h.1 k)

-- no port of the component or of a subcomponent is this one
abbrev pub IsNoPort : Spec → ComponentId → Target → Type 0
IsNoPort spec c t = (s : Option SubId) (j : ℕ) → j < length (ports_at spec c s) → t ≡ target s j → ⊥

fresh_subs : (spec : Spec) (c : ComponentId) (t : Target) (a m : ℕ) → IsNoPort spec c t
    → Fresh t (flat_map (λ (k : ℕ). targets_at spec c (Some (record { 0 = k }))) (range_with_len a m))
fresh_subs spec c t a zero h = tt
fresh_subs spec c t a (suc m) h =
    fresh_append t (targets_at spec c (Some (record { 0 = a }))) _
    (fresh_range t (Some (record { 0 = a })) 0 _ (λ j l. h (Some (record { 0 = a })) j (omega arith)))
    (fresh_subs spec c t (a + 1) m h)

place_of_fresh : (t : Target) (free : Target → Bool) (us : List Target) → Fresh t us
    → position_or_len (same_target t) (filter free us) ≡ length (filter free us)
place_of_fresh t free [] h = refl
place_of_fresh t free (u ∷ us) h = step (free u) (place_of_fresh t free us h.1) where
  step : (b : Bool) → position_or_len (same_target t) (filter free us) ≡ length (filter free us)
      → position_or_len (same_target t) (cond b (u ∷ filter free us) (filter free us)) ≡ length (cond b (u ∷ filter free us) (filter free us))
  step true g = place_step (same_target t u) true _ _ u [] h.0 g
  step false g = g

past_the_end : (spec : Spec) (c : ComponentId) (sub : Option SubId) (k : ℕ) → length (ports_at spec c sub) ≤ k
    → IsNoPort spec c (target sub k)
past_the_end spec c sub k h s j l e =
    let f : length (ports_at spec c sub) ≡ length (ports_at spec c s) = ap (λ (t : Target). length (ports_at spec c t.sub)) e in
    let g : k ≡ j = ap (λ (t : Target). t.port.0) e in
    omega arith

no_free_place : (spec : Spec) (c : ComponentId) (sub : Option SubId) (k : ℕ) → length (ports_at spec c sub) ≤ k
    → free_place spec c (target sub k) ≡ length (free_targets spec c)
no_free_place spec c sub k h =
    let t = target sub k in
    let none = past_the_end spec c sub k h in
    place_of_fresh t (λ (u : Target). is_none (connection spec c u)) (all_ports spec c)
    (fresh_append t (targets_at spec c None) _ (fresh_range t None 0 _ (λ j l. none None j (omega arith)))
    (fresh_subs spec c t 0 (length (subs_of spec c)) none))

place_told : (spec : Spec) (c : ComponentId) (free : ℕ) (sub : Option SubId) (k : ℕ) → free ≡ length (free_targets spec c)
    → connection spec c (target sub k) ≡ None
    → table_place (table_at spec (driver_rows spec c) free c sub) k ≡ free_place spec c (target sub k)
place_told spec c free sub k f e =
    elim (cell_of spec c sub k) [
      | inl h ↦ ap (λ (o : Option Driver). option_map_or (place_of_driver free) o free) h ∙ place_found spec c (target sub k) free e
      | inr h ↦ ap (λ (o : Option Driver). option_map_or (place_of_driver free) o free) h.0 ∙ f ∙ sym (no_free_place spec c sub k h.1)
    ]

same_reading : (o : Option Wire) (p q : ℕ) → (o ≡ None → p ≡ q) → reading_of_wire o p ≡ reading_of_wire o q
same_reading None p q h = ap by.Free (h refl)
same_reading (Some w) p q h = refl

reading_told : (spec : Spec) (c : ComponentId) (free : ℕ) (sub : Option SubId) → free ≡ length (free_targets spec c) → (k : ℕ)
    → table_reading (table_at spec (driver_rows spec c) free c sub) k ≡ readings spec c sub k
reading_told spec c free sub f k =
    ap (λ (o : Option Wire). reading_of_wire o (table_place (table_at spec (driver_rows spec c) free c sub) k)) (rows_tell_connections spec c free sub k)
    ∙ same_reading (connection spec c (target sub k)) _ _ (place_told spec c free sub k f)

-- a formula that is substituted by the table is substituted
pub substituted_by_table : (spec : Spec) (c : ComponentId) (rows : List (List Driver)) (free : ℕ) (sub : Option SubId) (table : PortTable) (f : Ltl)
    → table ≡ table_at spec rows free c sub → rows ≡ driver_rows spec c → free ≡ length (free_targets spec c)
    → substituted (table_reading table) f ≡ substituted (readings spec c sub) f
substituted_by_table spec c rows free sub table f e h g =
    ap (λ (t : PortTable). substituted (table_reading t) f) (e ∙ ap (λ (r : List (List Driver)). table_at spec r free c sub) h)
    ∙ (λ j. substituted (λ (k : ℕ). reading_told spec c free sub g k j) f)
