use Rattle.std.proofs.Common.{◌≡◌, ℕ, zero, suc, ◌+◌, ◌<◌, ◌≤◌, ◌⊎◌, Bool, true, false, not, cond, List, [], ◌∷◌, ◌++◌, map, length, Option, Some, None}
use Rattle.std.proofs.Common.{option_map, slice_get, is_none, refl, sym, ap, ◌∙◌, inl, inr, arith, append_assoc, length-append}
use Rattle.std.proofs.lemmas.List.{append-nil}
use Rattle.std.proofs.lemmas.List.Elements.{filter-append}
use Rattle.std.proofs.lemmas.Bool.{false≢true}
use Rattle.std.specs.List.{range_with_len, flat_map, filter, find, position_or_len}
use Rattle.std.specs.Option.{option_map_or}
use Rattle.oss_base.specs.declared.ids.ComponentId.{ComponentId}
use Rattle.oss_base.specs.declared.ids.SubId.{SubId}
use Rattle.spec_model.specs.declared.spec.Spec.{Spec}
use Rattle.spec_model.specs.declared.sub.Sub.{Sub}
use Rattle.spec_model.specs.declared.wire.Wire.{Wire}
use Rattle.spec_model.specs.declared.wire.Target.{Target}
use Rattle.spec_model.specs.Architecture.{ports_of, ports_at, subs_of, wires_of, target, targets_at, all_ports, same_target, connection, free_targets}
use Rattle.spec_model.specs.Architecture.{free_place}
use Rattle.connections.specs.declared.driving.Driver.{Driver}
use Rattle.connections.specs.declared.driving.Driver.TheVariants as driver
use Rattle.connections.specs.Drivers.{first_place, first_wire, driver_of, port_rows, driver_rows}
use Rattle.connections.specs.Tables.{port_counts, blank, row_of, cell_with_wire, row_with_wire, rows_with_wire, rows_with_wires, vacant, vacant_rows}
use Rattle.connections.specs.Tables.{drivers_of_row, drivers_of_rows}
use Rattle.spec_model.proofs.Targets.{same_target_itself, other_target}

-- The tables of drivers are what the definitions say.

-- the place of the first that passes, with one more element at the end

first_place-push_true : {X : Type 0} (p : X → Bool) (xs : List X) (x : X) → p x ≡ true
    → first_place p (xs ++ x ∷ []) ≡ cell_with_wire (first_place p xs) (length xs)
first_place-push_true p [] x h = rw h refl
first_place-push_true p (y ∷ xs) x h = step (p y) (first_place p (xs ++ x ∷ [])) (first_place p xs) (length xs) (first_place-push_true p xs x h) where
  step : (b : Bool) (o q : Option ℕ) (n : ℕ) → o ≡ cell_with_wire q n
      → cond b (Some 0) (option_map (λ (k : ℕ). k + 1) o) ≡ cell_with_wire (cond b (Some 0) (option_map (λ (k : ℕ). k + 1) q)) (suc n)
  step true o q n e = refl
  step false o None n e = rw e (ap Some (omega arith))
  step false o (Some k) n e = rw e refl

first_place-push_false : {X : Type 0} (p : X → Bool) (xs : List X) (x : X) → p x ≡ false
    → first_place p (xs ++ x ∷ []) ≡ first_place p xs
first_place-push_false p [] x h = rw h refl
first_place-push_false p (y ∷ xs) x h = ap (λ (o : Option ℕ). cond (p y) (Some 0) (option_map (λ (k : ℕ). k + 1) o)) (first_place-push_false p xs x h)

-- the ports of a row in order, from port number a on
abbrev pub IsRow : Option SubId → ℕ → List Target → Type 0
IsRow s a [] = Unit {0}
IsRow s a (t ∷ row) = (t ≡ target s a) × IsRow s (a + 1) row

abbrev pub AreSubRows : ℕ → List (List Target) → Type 0
AreSubRows a [] = Unit {0}
AreSubRows a (row ∷ rows) = IsRow (Some (record { 0 = a })) 0 row × AreSubRows (a + 1) rows

row_of_range : (s : Option SubId) (a n : ℕ) → IsRow s a (map (target s) (range_with_len a n))
row_of_range s a zero = tt
row_of_range s a (suc n) = (refl, row_of_range s (a + 1) n)

sub_rows_of_range : (spec : Spec) (c : ComponentId) (a n : ℕ)
    → AreSubRows a (map (λ (k : ℕ). targets_at spec c (Some (record { 0 = k }))) (range_with_len a n))
sub_rows_of_range spec c a zero = tt
sub_rows_of_range spec c a (suc n) = (row_of_range (Some (record { 0 = a })) 0 _, sub_rows_of_range spec c (a + 1) n)

differs : (w : Wire) (s : Option SubId) (k : ℕ) → (w.target.port.0 ≡ k → w.target.sub ≡ s → ⊥)
    → same_target w.target (target s k) ≡ false
differs w s k h = other_target w.target (target s k) (λ e. h (ap (λ (t : Target). t.port.0) e) (ap (λ (t : Target). t.sub) e))

-- a connection to another port changes nothing in a row
row_stays : (ws : List Wire) (w : Wire) (s : Option SubId) (a : ℕ) (row : List Target) → IsRow s a row
    → ((k : ℕ) → a ≤ k → w.target.port.0 ≡ k → w.target.sub ≡ s → ⊥)
    → map (first_wire ws) row ≡ map (first_wire (ws ++ w ∷ [])) row
row_stays ws w s a [] h other = refl
row_stays ws w s a (t ∷ row) h other =
    let f : same_target w.target t ≡ false = rw h.0 (differs w s a (other a (omega arith))) in
    let e = first_place-push_false (λ (x : Wire). same_target x.target t) ws w f in
    let r = row_stays ws w s (a + 1) row h.1 (λ k l. other k (omega arith)) in
    cc (e, r)

same_parts : (x y : Option SubId) (m n : ℕ) → x ≡ y → m ≡ n → target x m ≡ target y n
same_parts x y m n e f = cc

is_target : (u : Target) (s : Option SubId) (a : ℕ) → u.sub ≡ s → u.port.0 ≡ a → u ≡ target s a
is_target u s a e g = same_parts u.sub s u.port.0 a e g

matches : (w : Wire) (s : Option SubId) (a : ℕ) (t : Target) → t ≡ target s a → w.target.sub ≡ s → w.target.port.0 ≡ a
    → same_target w.target t ≡ true
matches w s a t h e f =
    let same : w.target ≡ t = is_target w.target s a e f ∙ sym h in
    rw (← same) (same_target_itself w.target)

-- a connection to a port of the row is noted there
row_noted : (ws : List Wire) (w : Wire) (s : Option SubId) (a p : ℕ) (row : List Target) → IsRow s a row
    → w.target.sub ≡ s → w.target.port.0 ≡ a + p
    → row_with_wire (map (first_wire ws) row) p (length ws) ≡ map (first_wire (ws ++ w ∷ [])) row
row_noted ws w s a p [] h e f = refl
row_noted ws w s a zero (t ∷ row) h e f =
    let y = matches w s a t h.0 e (omega arith) in
    let g = first_place-push_true (λ (x : Wire). same_target x.target t) ws w y in
    let r = row_stays ws w s (a + 1) row h.1 (λ k l m n. omega arith) in
    cc (g, r)
row_noted ws w s a (suc p) (t ∷ row) h e f =
    let g : same_target w.target t ≡ false = rw h.0 (differs w s a (λ m n. omega arith)) in
    let i = first_place-push_false (λ (x : Wire). same_target x.target t) ws w g in
    let r = row_noted ws w s (a + 1) p row h.1 e (omega arith) in
    cc (i, r)

-- a connection to another row changes nothing in the rows of subcomponents from number a on
rows_stay : (ws : List Wire) (w : Wire) (a : ℕ) (rows : List (List Target)) → AreSubRows a rows
    → row_of w.target.sub ≤ a
    → map (map (first_wire ws)) rows ≡ map (map (first_wire (ws ++ w ∷ []))) rows
rows_stay ws w a [] h l = refl
rows_stay ws w a (row ∷ rows) h l =
    let e = row_stays ws w (Some (record { 0 = a })) 0 row h.0 (λ k m n o. no_sub w.target.sub a l o) in
    let r = rows_stay ws w (a + 1) rows h.1 (omega arith) in
    cc (e, r)
  where
    no_sub : (s : Option SubId) (a : ℕ) → row_of s ≤ a → s ≡ Some (record { 0 = a }) → ⊥
    no_sub None a l e = cc
    no_sub (Some s) a l e = let f : s.0 ≡ a = cc in omega arith

sub_is : (s : Option SubId) (a : ℕ) → row_of s ≡ a + 1 → s ≡ Some (record { 0 = a })
sub_is None a e = absurd (omega arith)
sub_is (Some s) a e = let f : s.0 ≡ a = omega arith in ap (λ (n : ℕ). Some (record { 0 = n })) f

sub_rows_noted : (ws : List Wire) (w : Wire) (a r : ℕ) (rows : List (List Target)) → AreSubRows a rows
    → row_of w.target.sub ≡ a + r + 1
    → rows_with_wire (map (map (first_wire ws)) rows) r w.target.port.0 (length ws) ≡ map (map (first_wire (ws ++ w ∷ []))) rows
sub_rows_noted ws w a r [] h e = refl
sub_rows_noted ws w a zero (row ∷ rows) h e =
    let f : row_of w.target.sub ≡ a + 1 = omega arith in
    let g = row_noted ws w (Some (record { 0 = a })) 0 w.target.port.0 row h.0 (sub_is w.target.sub a f) (omega arith) in
    let i = rows_stay ws w (a + 1) rows h.1 (omega arith) in
    cc (g, i)
sub_rows_noted ws w a (suc r) (row ∷ rows) h e =
    let g = row_stays ws w (Some (record { 0 = a })) 0 row h.0 (λ k m n o. other_row w.target.sub a r e o) in
    let i = sub_rows_noted ws w (a + 1) r rows h.1 (omega arith) in
    cc (g, i)
  where
    other_row : (s : Option SubId) (a r : ℕ) → row_of s ≡ a + suc r + 1 → s ≡ Some (record { 0 = a }) → ⊥
    other_row None a r e f = cc
    other_row (Some s) a r e f = let g : s.0 ≡ a = cc in omega arith

none_is : (s : Option SubId) → row_of s ≡ 0 → s ≡ None
none_is None e = refl
none_is (Some s) e = absurd (omega arith)

all_rows_noted : (ws : List Wire) (w : Wire) (r : ℕ) (own : List Target) (rows : List (List Target))
    → IsRow None 0 own → AreSubRows 0 rows → row_of w.target.sub ≡ r
    → rows_with_wire (map (map (first_wire ws)) (own ∷ rows)) r w.target.port.0 (length ws) ≡ map (map (first_wire (ws ++ w ∷ []))) (own ∷ rows)
all_rows_noted ws w zero own rows h k e =
    let g = row_noted ws w None 0 w.target.port.0 own h (none_is w.target.sub e) (omega arith) in
    let i = rows_stay ws w 0 rows k (omega arith) in
    cc (g, i)
all_rows_noted ws w (suc r) own rows h k e =
    let g = row_stays ws w None 0 own h (λ k m n o. some_row w.target.sub r e o) in
    let i = sub_rows_noted ws w 0 r rows k (omega arith) in
    cc (g, i)
  where
    some_row : (s : Option SubId) (r : ℕ) → row_of s ≡ suc r → s ≡ None → ⊥
    some_row None r e f = absurd (omega arith)
    some_row (Some s) r e f = cc

-- after noting all connections each cell has the first one of its port
wires_noted : (ws vs : List Wire) (own : List Target) (rows : List (List Target)) → IsRow None 0 own → AreSubRows 0 rows
    → rows_with_wires (map (map (first_wire ws)) (own ∷ rows)) (length ws) vs ≡ map (map (first_wire (ws ++ vs))) (own ∷ rows)
wires_noted ws [] own rows h k = ap (λ (u : List Wire). map (map (first_wire u)) (own ∷ rows)) (sym (append-nil ws))
wires_noted ws (v ∷ vs) own rows h k =
    ap (λ (r : List (List (Option ℕ))). rows_with_wires r (length ws + 1) vs) (all_rows_noted ws v (row_of v.target.sub) own rows h k refl)
    ∙ ap (λ (n : ℕ). rows_with_wires (map (map (first_wire (ws ++ v ∷ []))) (own ∷ rows)) n vs) (sym (length-append ws (v ∷ [])))
    ∙ wires_noted (ws ++ v ∷ []) vs own rows h k
    ∙ ap (λ (u : List Wire). map (map (first_wire u)) (own ∷ rows)) (append_assoc ws (v ∷ []) vs)

-- blank rows note nothing

blank_row_is : (s : Option SubId) (a n : ℕ) → blank n ≡ map (first_wire []) (map (target s) (range_with_len a n))
blank_row_is s a zero = refl
blank_row_is s a (suc n) = ap (λ (r : List (Option ℕ)). None ∷ r) (blank_row_is s (a + 1) n)

-- the rows of subcomponents, by the list of subcomponents or by their numbers
sub_blank_is : (spec : Spec) (c : ComponentId) (a : ℕ) (subs : List Sub)
    → ((k : ℕ) → slice_get (subs_of spec c) (a + k) ≡ slice_get subs k)
    → map blank (map (λ (s : Sub). length (ports_of spec s.component)) subs)
    ≡ map (map (first_wire [])) (map (λ (k : ℕ). targets_at spec c (Some (record { 0 = k }))) (range_with_len a (length subs)))
sub_blank_is spec c a [] h = refl
sub_blank_is spec c a (sub ∷ subs) h =
    let here : slice_get (subs_of spec c) a ≡ Some sub = (let z : a + 0 ≡ a = omega arith in rw z at (h 0)) in
    let ports : ports_at spec c (Some (record { 0 = a })) ≡ ports_of spec sub.component =
    ap (λ (o : Option Sub). option_map_or (ports_of spec) (option_map (λ (x : Sub). x.component) o) []) here in
    let b = blank_row_is (Some (record { 0 = a })) 0 (length (ports_of spec sub.component)) in
    let r = sub_blank_is spec c (a + 1) subs (λ k. let z : a + 1 + k ≡ a + suc k = omega arith in rw z (h (suc k))) in
    rw ports (cc (b, r))

-- which ports are free

pub free_is : (ws : List Wire) (t : Target)
    → is_none (find (λ (w : Wire). same_target w.target t) ws) ≡ is_none (first_wire ws t)
free_is [] t = refl
free_is (w ∷ ws) t = step (same_target w.target t) (find (λ (w : Wire). same_target w.target t) ws) (first_wire ws t) (free_is ws t) where
  step : (b : Bool) (o : Option Wire) (q : Option ℕ) → is_none o ≡ is_none q
      → is_none (cond b (Some w) o) ≡ is_none (cond b (Some 0) (option_map (λ (k : ℕ). k + 1) q))
  step true o q e = refl
  step false o None e = e
  step false o (Some k) e = e

-- t is none of the targets
abbrev pub Fresh : Target → List Target → Type 0
Fresh t [] = Unit {0}
Fresh t (u ∷ us) = (same_target t u ≡ false) × Fresh t us

pub place_step : (b f : Bool) (m n : ℕ) (u : Target) (xs : List Target) → b ≡ false → m ≡ n → cond (not b) (1 + m) 0 ≡ suc n
place_step true f m n u xs e g = absurd (false≢true (sym e))
place_step false f m n u xs e g = omega arith

-- the place of a free port in the free order is the number of free ports before it
free_at : (free : Target → Bool) (t : Target) (pre post : List Target) → Fresh t pre → free t ≡ true
    → position_or_len (same_target t) (filter free (pre ++ t ∷ post)) ≡ length (filter free pre)
free_at free t [] post h e =
    let s = same_target_itself t in
    rw (e, s) refl
free_at free t (u ∷ us) post h e = step (free u) (free_at free t us post h.1 e) where
  step : (b : Bool) → position_or_len (same_target t) (filter free (us ++ t ∷ post)) ≡ length (filter free us)
      → position_or_len (same_target t) (cond b (u ∷ filter free (us ++ t ∷ post)) (filter free (us ++ t ∷ post))) ≡ length
      (cond b (u ∷ filter free us) (filter free us))
  step true g = place_step (same_target t u) true _ _ u [] h.0 g
  step false g = g

-- all of the targets stand before port a of row j
abbrev pub Under : ℕ → ℕ → List Target → Type 0
Under j a [] = Unit {0}
Under j a (u ∷ us) = ((row_of u.sub < j) ⊎ ((row_of u.sub ≡ j) × (u.port.0 < a))) × Under j a us

fresh_under : (s : Option SubId) (a : ℕ) (us : List Target) → Under (row_of s) a us → Fresh (target s a) us
fresh_under s a [] h = tt
fresh_under s a (u ∷ us) h = (
  other_target (target s a) u (λ e.
      let f : row_of s ≡ row_of u.sub = ap (λ (t : Target). row_of t.sub) e in
      let g : a ≡ u.port.0 = ap (λ (t : Target). t.port.0) e in
      elim h.0 [ inl l ↦ omega arith | inr r ↦ omega arith ]),
  fresh_under s a us h.1,
)

under_more : (j a : ℕ) (us : List Target) (t : Target) → Under j a us → row_of t.sub ≡ j → t.port.0 ≡ a
    → Under j (a + 1) (us ++ t ∷ [])
under_more j a [] t h e f = (inr (e, omega arith), tt)
under_more j a (u ∷ us) t h e f =
    (elim h.0 [ inl l ↦ inl l | inr r ↦ inr (r.0, omega arith) ], under_more j a us t h.1 e f)

under_next : (j a : ℕ) (us : List Target) → Under j a us → Under (j + 1) 0 us
under_next j a [] h = tt
under_next j a (u ∷ us) h =
    (elim h.0 [ inl l ↦ inl (omega arith) | inr r ↦ inl (omega arith) ], under_next j a us h.1)

-- whether a port of a component is free
abbrev pub is_free : Spec → ComponentId → Target → Bool
is_free spec c t = is_none (connection spec c t)

-- the drivers of a row, from the place of its first free port on
row_numbered : (spec : Spec) (c : ComponentId) (s : Option SubId) (n a : ℕ) (pre row post : List Target)
    → all_ports spec c ≡ pre ++ (row ++ post) → IsRow s a row → Under (row_of s) a pre
    → n ≡ length (filter (is_free spec c) pre)
    → drivers_of_row n (map (first_wire (wires_of spec c)) row) ≡ map (driver_of spec c) row
row_numbered spec c s n a pre [] post all h under e = refl
row_numbered spec c s n a pre (t ∷ row) post all h under e =
    step (first_wire (wires_of spec c) t) refl
    (λ m f. row_numbered spec c s m (a + 1) (pre ++ t ∷ []) row post more h.1 here f) where
      more : all_ports spec c ≡ (pre ++ t ∷ []) ++ (row ++ post)
      more = all ∙ sym (append_assoc pre (t ∷ []) (row ++ post))

      here : Under (row_of s) (a + 1) (pre ++ t ∷ [])
      here = under_more (row_of s) a pre t under (ap (λ (u : Target). row_of u.sub) h.0) (ap (λ (u : Target). u.port.0) h.0)

      one : (b : Bool) → is_free spec c t ≡ b → length (filter (is_free spec c) pre) + length (filter (is_free spec c) (t ∷ [])) ≡ n + cond b 1 0
      one true f = rw (f, e) refl
      one false f = rw (f, e) refl

      counted : (b : Bool) → is_free spec c t ≡ b → length (filter (is_free spec c) (pre ++ t ∷ [])) ≡ n + cond b 1 0
      counted b f =
          let g = filter-append (is_free spec c) pre (t ∷ []) in
          let l = length-append (filter (is_free spec c) pre) (filter (is_free spec c) (t ∷ [])) in
          rw (g, l) (one b f)

      free : is_free spec c t ≡ is_none (first_wire (wires_of spec c) t)
      free = free_is (wires_of spec c) t

      fresh : Fresh t pre
      fresh = rw h.0 (fresh_under s a pre under)

      step : (o : Option ℕ) → first_wire (wires_of spec c) t ≡ o
          → ((m : ℕ) → m ≡ length (filter (is_free spec c) (pre ++ t ∷ [])) → drivers_of_row m (map (first_wire (wires_of spec c)) row) ≡ map
          (driver_of spec c) row)
          → drivers_of_row n (o ∷ map (first_wire (wires_of spec c)) row) ≡ option_map_or driver.Wired o (driver.Free (free_place spec c t)) ∷ map
          (driver_of spec c) row
      step None f rest =
          let yes : is_free spec c t ≡ true = free ∙ ap is_none f in
          let place : free_place spec c t ≡ n =
          ap (λ (all : List Target). position_or_len (same_target t) (filter (is_free spec c) all)) all ∙ free_at (is_free spec c) t pre
          (row ++ post) fresh yes ∙ sym e in
          let r = rest (n + 1) (sym (counted true yes)) in
          rw place (ap (λ (d : List Driver). driver.Free n ∷ d) r)
      step (Some w) f rest =
          let no : is_free spec c t ≡ false = free ∙ ap is_none f in
          let z : n + 0 ≡ n = omega arith in
          let r = rest n (sym (counted false no ∙ z)) in
          ap (λ (d : List Driver). driver.Wired w ∷ d) r

vacant_is : (spec : Spec) (c : ComponentId) (row : List Target)
    → vacant (map (first_wire (wires_of spec c)) row) ≡ length (filter (is_free spec c) row)
vacant_is spec c [] = refl
vacant_is spec c (t ∷ row) = step (first_wire (wires_of spec c) t) refl (vacant_is spec c row) where
  step : (o : Option ℕ) → first_wire (wires_of spec c) t ≡ o → vacant (map (first_wire (wires_of spec c)) row) ≡ length (filter (is_free spec c) row)
      → vacant (o ∷ map (first_wire (wires_of spec c)) row) ≡ length (filter (is_free spec c) (t ∷ row))
  step None f g =
      let yes : is_free spec c t ≡ true = free_is (wires_of spec c) t ∙ ap is_none f in
      rw yes (omega arith)
  step (Some w) f g =
      let no : is_free spec c t ≡ false = free_is (wires_of spec c) t ∙ ap is_none f in
      rw no g

abbrev pub concat : List (List Target) → List Target
concat [] = []
concat (row ∷ rows) = row ++ concat rows

-- once a row is passed all of its ports stand before the next row
under_row : (s : Option SubId) (a : ℕ) (pre row : List Target) → IsRow s a row → Under (row_of s) a pre
    → Under (row_of s + 1) 0 (pre ++ row)
under_row s a pre [] h under = rw append-nil (under_next (row_of s) a pre under)
under_row s a pre (t ∷ row) h under =
    let next = under_more (row_of s) a pre t under (ap (λ (u : Target). row_of u.sub) h.0) (ap (λ (u : Target). u.port.0) h.0) in
    let r = under_row s (a + 1) (pre ++ t ∷ []) row h.1 next in
    rw append_assoc at r

counted_row : (spec : Spec) (c : ComponentId) (n : ℕ) (pre row : List Target) → n ≡ length (filter (is_free spec c) pre)
    → n + vacant (map (first_wire (wires_of spec c)) row) ≡ length (filter (is_free spec c) (pre ++ row))
counted_row spec c n pre row e =
    let v = vacant_is spec c row in
    let f = filter-append (is_free spec c) pre row in
    let l = length-append (filter (is_free spec c) pre) (filter (is_free spec c) row) in
    rw (f, l, v, e) refl

sub_rows_numbered : (spec : Spec) (c : ComponentId) (n a : ℕ) (pre : List Target) (rows : List (List Target))
    → all_ports spec c ≡ pre ++ concat rows → AreSubRows a rows → Under (a + 1) 0 pre
    → n ≡ length (filter (is_free spec c) pre)
    → drivers_of_rows n (map (map (first_wire (wires_of spec c))) rows) ≡ map (map (driver_of spec c)) rows
sub_rows_numbered spec c n a pre [] all h under e = refl
sub_rows_numbered spec c n a pre (row ∷ rows) all h under e =
    let first = row_numbered spec c (Some (record { 0 = a })) n 0 pre row (concat rows) all h.0 under e in
    let rest = sub_rows_numbered spec c (n + vacant (map (first_wire (wires_of spec c)) row)) (a + 1) (pre ++ row) rows
    (all ∙ sym (append_assoc pre row (concat rows))) h.1 (under_row (Some (record { 0 = a })) 0 pre row h.0 under) (counted_row spec c n pre row e) in
    cc (first, rest)

concat_is : (spec : Spec) (c : ComponentId) (a n : ℕ)
    → flat_map (λ (k : ℕ). targets_at spec c (Some (record { 0 = k }))) (range_with_len a n)
    ≡ concat (map (λ (k : ℕ). targets_at spec c (Some (record { 0 = k }))) (range_with_len a n))
concat_is spec c a zero = refl
concat_is spec c a (suc n) = ap (λ (r : List Target). targets_at spec c (Some (record { 0 = a })) ++ r) (concat_is spec c (a + 1) n)

-- the table, once all connections are noted
all_noted : (spec : Spec) (c : ComponentId)
    → rows_with_wires (map blank (port_counts spec c)) 0 (wires_of spec c) ≡ map (map (first_wire (wires_of spec c))) (port_rows spec c)
all_noted spec c =
    let own = targets_at spec c None in
    let n = length (subs_of spec c) in
    let rows : List (List Target) = map (λ (k : ℕ). targets_at spec c (Some (record { 0 = k }))) (range_with_len 0 n) in
    let b = blank_row_is None 0 (length (ports_of spec c)) in
    let bs = sub_blank_is spec c 0 (subs_of spec c) (λ k. let z : 0 + k ≡ k = omega arith in rw z refl) in
    let blanks : map blank (port_counts spec c) ≡ map (map (first_wire [])) (own ∷ rows) = cc (b, bs) in
    let w = wires_noted [] (wires_of spec c) own rows (row_of_range None 0 (length (ports_of spec c))) (sub_rows_of_range spec c 0 n) in
    rw blanks w

pub rows_driven : (spec : Spec) (c : ComponentId)
    → drivers_of_rows 0 (rows_with_wires (map blank (port_counts spec c)) 0 (wires_of spec c)) ≡ driver_rows spec c
rows_driven spec c =
    let own = targets_at spec c None in
    let n = length (subs_of spec c) in
    let rows : List (List Target) = map (λ (k : ℕ). targets_at spec c (Some (record { 0 = k }))) (range_with_len 0 n) in
    let is_own = row_of_range None 0 (length (ports_of spec c)) in
    let all : all_ports spec c ≡ own ++ concat rows = ap (λ (r : List Target). own ++ r) (concat_is spec c 0 n) in
    let first = row_numbered spec c None 0 0 [] own (concat rows) all is_own tt refl in
    let rest = sub_rows_numbered spec c (0 + vacant (map (first_wire (wires_of spec c)) own)) 0 own rows all (sub_rows_of_range spec c 0 n)
    (under_row None 0 [] own is_own tt) (counted_row spec c 0 [] own refl) in
    rw (all_noted spec c) (cc (first, rest))

vacant_rows_is : (spec : Spec) (c : ComponentId) (rows : List (List Target))
    → vacant_rows (map (map (first_wire (wires_of spec c))) rows) ≡ length (filter (is_free spec c) (concat rows))
vacant_rows_is spec c [] = refl
vacant_rows_is spec c (row ∷ rows) =
    let v = vacant_is spec c row in
    let r = vacant_rows_is spec c rows in
    let f = filter-append (is_free spec c) row (concat rows) in
    let l = length-append (filter (is_free spec c) row) (filter (is_free spec c) (concat rows)) in
    rw (f, l) (cc (v, r))

-- the number of free ports
pub rows_vacant : (spec : Spec) (c : ComponentId)
    → vacant_rows (rows_with_wires (map blank (port_counts spec c)) 0 (wires_of spec c)) ≡ length (free_targets spec c)
rows_vacant spec c =
    let own = targets_at spec c None in
    let n = length (subs_of spec c) in
    let rows : List (List Target) = map (λ (k : ℕ). targets_at spec c (Some (record { 0 = k }))) (range_with_len 0 n) in
    let w = all_noted spec c in
    let all : all_ports spec c ≡ concat (own ∷ rows) = ap (λ (r : List Target). own ++ r) (concat_is spec c 0 n) in
    let v = vacant_rows_is spec c (own ∷ rows) in
    rw (w, v, all) refl
