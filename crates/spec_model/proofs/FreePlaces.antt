-- The place of a port in the free order, by the places of all ports and of the driven ones.

use Rattle.std.proofs.Common.{◌≡◌, ℕ, zero, suc, ◌+◌, ◌-◌, ◌<◌, ◌≤◌, ◌^◌, Bool, true, false, not, cond, ◌&&◌, ◌||◌, nat_eq, ltb, List, [], ◌∷◌, ◌++◌, map}
use Rattle.std.proofs.Common.{filter, filter_map, length, slice_get, slice_index, get_or, drop, eqb, Option, Some, None, position, sum, append_assoc, refl}
use Rattle.std.proofs.Common.{sym, ap, subst, ◌∙◌, arith, add-zero, zero-add}
use Rattle.std.proofs.lemmas.Bool.{false≢true, ltb-false, ltb-true, lt-ltb, le-ltb, eqb-true, eq-eqb, ne_eqb, or_left, or_right, false_from_ne_true}
use Rattle.std.proofs.lemmas.Option.{none-some, same_Some, slice_get_within, get_or_from_slice_get}
use Rattle.std.proofs.lemmas.List.{at_drop_more, at_drop_all, append-nil}
use Rattle.std.proofs.lemmas.List.Sums.{prefix_len_is, sum_by-cons}
use Rattle.std.proofs.lemmas.Map.Keys.{IsStrictlyIncreasing-dedup}
use Rattle.std.specs.Ordering.{nat_cmp}
use Rattle.std.specs.List.Sorted.{IsSorted, IsPartitionedBy, IsPartitionPoint, IsStrictlyIncreasing}
use Rattle.std.proofs.lemmas.List.FromFn.{length-map-range_with_len}
use Rattle.std.proofs.lemmas.List.Folds.{list_any_at}
use Rattle.std.specs.Option.{option_map_or}
use Rattle.std.specs.List.{list_any, range_with_len, position_or_len, prefix_len, cons_option, dedup, dedup_from}
use Rattle.oss_base.specs.declared.ids.SubId.{SubId}
use Rattle.spec_model.specs.declared.wire.Target.{Target}
use Rattle.spec_model.specs.Architecture.{target, same_target}
use Rattle.spec_model.specs.FreeRows.{row, rows, ports_among, is_unconnected, free_among}
use Rattle.spec_model.specs.FreePlaces.{starts_from, place_in_row, whole_place_by, whole_place, is_undriven_at, free_by_places, count_before}
use Rattle.spec_model.specs.FreePlaces.{place_among_free, Rises}
use Rattle.spec_model.proofs.Targets.{same_target_is, same_target_itself, other_target}

-- lists whose elements have rising places, from k on
abbrev pub Numbered : (Target → Option ℕ) → ℕ → List Target → Type 0
Numbered place k [] = Unit {0}
Numbered place k (t ∷ ts) = (place t ≡ Some k) × Numbered place (k + 1) ts

numbered_append : (place : Target → Option ℕ) (k n : ℕ) (xs ys : List Target) → n ≡ k + length xs
    → Numbered place k xs → Numbered place n ys → Numbered place k (xs ++ ys)
numbered_append place k n [] ys e a b = subst (λ m. Numbered place m ys) (e ∙ add-zero k) b
numbered_append place k n (x ∷ xs) ys e a b = (a.0, numbered_append place (k + 1) n xs ys (omega arith) a.1 b)

numbered_row : (place : Target → Option ℕ) (f : ℕ → Target) (k a n : ℕ)
    → ((i : ℕ) → i < n → place (f (a + i)) ≡ Some (k + i))
    → Numbered place k (map f (range_with_len a n))
numbered_row place f k a zero h = tt
numbered_row place f k a (suc n) h =
    let first : place (f a) ≡ Some k = ap (λ m. place (f m)) (sym (add-zero a)) ∙ (h 0 (omega arith) ∙ ap Some (add-zero k)) in (
      first,
      numbered_row place f (k + 1) (a + 1) n (λ i l.
          let from : a + 1 + i ≡ a + (i + 1) = omega arith in
          let to : k + (i + 1) ≡ k + 1 + i = omega arith in
          ap (λ m. place (f m)) from ∙ (h (i + 1) (omega arith) ∙ ap Some to)),
    )

within_row : (start count port : ℕ) → port < count
    → cond (ltb port count) (Some (start + port)) None ≡ Some (start + port)
within_row start count port l = ap (λ b. cond b (Some (start + port)) None) (lt-ltb port count l)

numbered_rows : (own : ℕ) (all : List ℕ) (n k : ℕ) (counts : List ℕ)
    → ((j : ℕ) → slice_get all (k + j) ≡ slice_get counts j)
    → ((j : ℕ) → slice_get (starts_from own all) (k + j) ≡ slice_get (starts_from n counts) j)
    → Numbered (whole_place own all) n (rows k counts)
numbered_rows own all n k [] c s = tt
numbered_rows own all n k (count ∷ counts) c s =
    let z : k + 0 ≡ k = add-zero k in
    let count_is : slice_get all k ≡ Some count = ap (slice_get all) (sym z) ∙ c 0 in
    let start_is : slice_get (starts_from own all) k ≡ Some n = ap (slice_get (starts_from own all)) (sym z) ∙ s 0 in
    let here : (i : ℕ) → i < count → whole_place own all (target (Some (record { 0 = k })) (0 + i)) ≡ Some (n + i) = λ i l.
    ap (λ m. whole_place own all (target (Some (record { 0 = k })) m)) (zero-add i)
    ∙ ((λ j. place_in_row (start_is j) (count_is j) i) ∙ within_row n count i l) in
    numbered_append (whole_place own all) n (n + count) (row (Some (record { 0 = k })) count) (rows (k + 1) counts)
    (ap (λ m. n + m) (sym (length-map-range_with_len (target (Some (record { 0 = k }))) 0 count)))
    (numbered_row (whole_place own all) (target (Some (record { 0 = k }))) n 0 count here)
    (numbered_rows own all (n + count) (k + 1) counts
    (λ j. let e : k + 1 + j ≡ k + suc j = omega arith in ap (slice_get all) e ∙ c (suc j))
    (λ j. let e : k + 1 + j ≡ k + suc j = omega arith in ap (slice_get (starts_from own all)) e ∙ s (suc j)))

-- all ports stand at their places
pub all_numbered : (own : ℕ) (counts : List ℕ) → Numbered (whole_place own counts) 0 (ports_among own counts)
all_numbered own counts =
    numbered_append (whole_place own counts) 0 own (row None own) (rows 0 counts)
    (sym (zero-add _ ∙ length-map-range_with_len (target None) 0 own))
    (numbered_row (whole_place own counts) (target None) 0 0 own (λ i l.
    ap (λ m. whole_place own counts (target None m)) (zero-add i)
    ∙ (ap (λ b. cond b (Some i) None) (lt-ltb i own l) ∙ ap Some (sym (zero-add i)))))
    (numbered_rows own counts own 0 counts (λ j. ap (slice_get counts) (zero-add j)) (λ j. ap (slice_get (starts_from own counts)) (zero-add j)))

-- each port that has a place stands there

at_left : {X : Type 0} (xs ys : List X) (i : ℕ) (x : X) → slice_get xs i ≡ Some x → slice_get (xs ++ ys) i ≡ Some x
at_left [] ys i x h = absurd (none-some x h)
at_left (y ∷ xs) ys zero x h = h
at_left (y ∷ xs) ys (suc i) x h = at_left xs ys i x h

at_right : {X : Type 0} (xs ys : List X) (n i : ℕ) → n ≡ length xs → slice_get (xs ++ ys) (n + i) ≡ slice_get ys i
at_right [] ys n i e = ap (λ m. slice_get ys (m + i)) e ∙ ap (slice_get ys) (zero-add i)
at_right (x ∷ xs) ys n i e = let f : n + i ≡ suc (length xs + i) = omega arith in ap (slice_get (x ∷ xs ++ ys)) f ∙ at_right xs ys (length xs) i refl

at_row : (f : ℕ → Target) (a n i : ℕ) → i < n → slice_get (map f (range_with_len a n)) i ≡ Some (f (a + i))
at_row f a zero i l = absurd (omega arith)
at_row f a (suc n) zero l = ap (λ m. Some (f m)) (sym (add-zero a))
at_row f a (suc n) (suc i) l = let e : a + 1 + i ≡ a + suc i = omega arith in at_row f (a + 1) n i (omega arith) ∙ ap (λ m. Some (f m)) e

pub record AtRows (k n : ℕ) (counts : List ℕ) (s port start : ℕ) : Type 0 where
  pub passed : ℕ
  pub begins : start ≡ n + passed
  pub stands : slice_get (rows k counts) (passed + port) ≡ Some (target (Some (record { 0 = k + s })) port)

at_rows : (k n : ℕ) (counts : List ℕ) (s port start count : ℕ) → slice_get (starts_from n counts) s ≡ Some start
    → slice_get counts s ≡ Some count → port < count → AtRows k n counts s port start
at_rows k n [] s port start count a b l = absurd (none-some start a)
at_rows k n (c ∷ cs) zero port start count a b l =
    let begins : n ≡ start = same_Some n start a in
    let many : c ≡ count = same_Some c count b in
    record {
      passed = 0;
      begins = sym begins ∙ sym (add-zero n);
      stands = ap (slice_get (row (Some (record { 0 = k })) c ++ rows (k + 1) cs)) (zero-add port)
          ∙ at_left (row (Some (record { 0 = k })) c) (rows (k + 1) cs) port (target (Some (record { 0 = k + 0 })) port)
          (at_row (target (Some (record { 0 = k }))) 0 c port (subst (λ m. port < m) (sym many) l)
          ∙ ((λ j. Some (target (Some (record { 0 = sym (add-zero k) j })) (zero-add port j)))));
    }
at_rows k n (c ∷ cs) (suc s) port start count a b l =
    let rest = at_rows (k + 1) (n + c) cs s port start count a b l in
    let e : k + 1 + s ≡ k + suc s = omega arith in
    let f : c + rest.passed + port ≡ c + (rest.passed + port) = omega arith in
    record {
      passed = c + rest.passed;
      begins = (let g : n + c + rest.passed ≡ n + (c + rest.passed) = omega arith in rest.begins ∙ g);
      stands = ap (slice_get (row (Some (record { 0 = k })) c ++ rows (k + 1) cs)) f
          ∙ (at_right (row (Some (record { 0 = k })) c) (rows (k + 1) cs) c (rest.passed + port) (sym (length-map-range_with_len (target (Some
          (record { 0 = k }))) 0 c))
          ∙ (rest.stands ∙ ap (λ m. Some (target (Some (record { 0 = m })) port)) e));
    }

in_row : (n port count : ℕ) (b : Bool) → ltb port count ≡ b → (p : ℕ) → cond b (Some n) None ≡ Some p
    → (port < count) × (n ≡ p)
in_row n port count true e p h = (ltb-true port count e, same_Some n p h)
in_row n port count false e p h = absurd (none-some p h)

sub_stands : (own : ℕ) (counts : List ℕ) (s port p : ℕ) (start count : Option ℕ)
    → slice_get (starts_from own counts) s ≡ start → slice_get counts s ≡ count
    → place_in_row start count port ≡ Some p
    → slice_get (ports_among own counts) p ≡ Some (target (Some (record { 0 = s })) port)
sub_stands own counts s port p None count a b h = absurd (none-some p h)
sub_stands own counts s port p (Some start) None a b h = absurd (none-some p h)
sub_stands own counts s port p (Some start) (Some count) a b h =
    let found = in_row (start + port) port count (ltb port count) refl p h in
    let at = at_rows 0 own counts s port start count a b found.0 in
    let e : p ≡ own + (at.passed + port) = (let f = found.1 in let g = at.begins in omega (arith, f, g)) in
    ap (slice_get (ports_among own counts)) e
    ∙ (at_right (row None own) (rows 0 counts) own (at.passed + port) (sym (length-map-range_with_len (target None) 0 own))
    ∙ (at.stands ∙ ap (λ m. Some (target (Some (record { 0 = m })) port)) (zero-add s)))

stands_by : (own : ℕ) (counts : List ℕ) (sub : Option SubId) (port p : ℕ) → whole_place_by own counts sub port ≡ Some p
    → slice_get (ports_among own counts) p ≡ Some (target sub port)
stands_by own counts None port p h =
    let found = in_row port port own (ltb port own) refl p h in
    let at = at_row (target None) 0 own port found.0 in
    ap (slice_get (ports_among own counts)) (sym found.1)
    ∙ at_left (row None own) (rows 0 counts) port (target None port) (at ∙ ap (λ m. Some (target None m)) (zero-add port))
stands_by own counts (Some s) port p h = sub_stands own counts s.0 port p (slice_get (starts_from own counts) s.0) (slice_get counts s.0) refl refl h

pub stands_there : (own : ℕ) (counts : List ℕ) (t : Target) (p : ℕ) → whole_place own counts t ≡ Some p
    → slice_get (ports_among own counts) p ≡ Some t
stands_there own counts t p h = stands_by own counts t.sub t.port.0 p h

-- so ports of one place are one
pub same_by_place : (own : ℕ) (counts : List ℕ) (t u : Target) (p : ℕ) → whole_place own counts t ≡ Some p
    → whole_place own counts u ≡ Some p → t ≡ u
same_by_place own counts t u p a b = same_Some t u (sym (stands_there own counts t p a) ∙ stands_there own counts u p b)

-- the place of the first that passes

any-within_step : (b : Bool) (n m : ℕ) (r : Bool) → (b || r) ≡ true → (r ≡ true → n < m)
    → cond (not b) (1 + n) 0 < m + 1
any-within_step true n m r h rest = omega arith
any-within_step false n m r h rest = let lt : n < m = rest h in omega arith

any-within : {X : Type 0} (p : X → Bool) (xs : List X) → list_any p xs ≡ true → position_or_len p xs < length xs
any-within p [] h = absurd (false≢true h)
any-within p (x ∷ xs) h = let lt = any-within_step (p x) (position_or_len p xs) (length xs) (list_any p xs) h (any-within p xs) in omega (arith, lt)

some_place : {X : Type 0} (p : X → Bool) (xs : List X) → list_any p xs ≡ true
    → position p xs ≡ Some (position_or_len p xs)
some_place p xs h = ap (λ t. cond t (Some (position_or_len p xs)) None) (lt-ltb (position_or_len p xs) (length xs) (any-within p xs h))

none-within_step : (b : Bool) (n m : ℕ) (r : Bool) → (b || r) ≡ false → (r ≡ false → n ≡ m)
    → cond (not b) (1 + n) 0 ≡ m + 1
none-within_step true n m r h rest = absurd (false≢true (sym h))
none-within_step false n m r h rest = let same : n ≡ m = rest h in omega (arith, same)

none-within : {X : Type 0} (p : X → Bool) (xs : List X) → list_any p xs ≡ false → position_or_len p xs ≡ length xs
none-within p [] h = refl
none-within p (x ∷ xs) h = let same = none-within_step (p x) (position_or_len p xs) (length xs) (list_any p xs) h (none-within p xs) in omega (arith, same)

no_place : {X : Type 0} (p : X → Bool) (xs : List X) → list_any p xs ≡ false → position p xs ≡ None
no_place p xs h =
    ap (λ t. cond t (Some (position_or_len p xs)) None) (le-ltb (position_or_len p xs) (length xs) (let same = none-within p xs h in omega (arith, same)))

any-filter_step : {X : Type 0} (p : X → Bool) (x : X) (kept : List X) (a b r : Bool) → p x ≡ a → (a ≡ true → b ≡ true)
    → (a || r) ≡ true
    → (r ≡ true → list_any p kept ≡ true) → list_any p (cond b (x ∷ kept) kept) ≡ true
any-filter_step p x kept true true r e keeps h rest = or_left (p x) (list_any p kept) e
any-filter_step p x kept true false r e keeps h rest = absurd (false≢true (keeps refl))
any-filter_step p x kept false true r e keeps h rest = or_right (p x) (list_any p kept) (rest h)
any-filter_step p x kept false false r e keeps h rest = rest h

any-filter : {X : Type 0} (p q : X → Bool) (xs : List X) → ((x : X) → p x ≡ true → q x ≡ true) → list_any p xs ≡ true
    → list_any p (filter q xs) ≡ true
any-filter p q [] keeps h = absurd (false≢true h)
any-filter p q (x ∷ xs) keeps h =
    any-filter_step p x (filter q xs) (p x) (q x) (list_any p xs) refl (keeps x) h (any-filter p q xs keeps)

-- rising numbers

lacks_before : (n p : ℕ) (ds : List ℕ) → Rises n ds → p < n → list_any (nat_eq p) ds ≡ false
lacks_before n p [] r l = refl
lacks_before n p (d ∷ ds) r l =
    ap (λ b. b || list_any (nat_eq p) ds) (ne_eqb p d (λ e. absurd (omega (arith, e, r.0)))) ∙ lacks_before (d + 1) p ds r.1 (omega (arith, r.0))

pub no_count : (n p : ℕ) (ds : List ℕ) → Rises n ds → p ≤ n → count_before ds p ≡ 0
no_count n p [] r l = refl
no_count n p (d ∷ ds) r l = ap (λ b. cond b (1 + count_before ds p) 0) (le-ltb d p (omega (arith, r.0)))

pub few_before : (n p : ℕ) (ds : List ℕ) → Rises n ds → n ≤ p → count_before ds p + n ≤ p
few_before n p [] r l = omega arith
few_before n p (d ∷ ds) r l = step (ltb d p) refl (λ lt. few_before (d + 1) p ds r.1 lt) where
  step : (b : Bool) → ltb d p ≡ b → (d + 1 ≤ p → count_before ds p + (d + 1) ≤ p) → cond b (1 + count_before ds p) 0 + n ≤ p
  step true e rest = let lt = ltb-true d p e in let few = rest (omega (arith, lt)) in omega (arith, few, r.0)
  step false e rest = omega arith

or_false : (b : Bool) → (b || false) ≡ b
or_false true = refl
or_false false = refl

-- whether a number is one of them shows at the place behind those before it
pub found_at_count : (n p : ℕ) (ds : List ℕ) → Rises n ds
    → list_any (nat_eq p) ds ≡ option_map_or (nat_eq p) (slice_get ds (count_before ds p)) false
found_at_count n p [] r = refl
found_at_count n p (d ∷ ds) r = step (ltb d p) refl (found_at_count (d + 1) p ds r.1) where
  step : (b : Bool) → ltb d p ≡ b → list_any (nat_eq p) ds ≡ option_map_or (nat_eq p) (slice_get ds (count_before ds p)) false
      → (nat_eq p d || list_any (nat_eq p) ds) ≡ option_map_or (nat_eq p) (slice_get (d ∷ ds) (cond b (1 + count_before ds p) 0)) false
  step true e rest =
      let lt = ltb-true d p e in
      let next : 1 + count_before ds p ≡ suc (count_before ds p) = omega arith in
      ap (λ b. b || list_any (nat_eq p) ds) (ne_eqb p d (λ e. absurd (omega (arith, e, lt))))
      ∙ (rest ∙ ap (λ m. option_map_or (nat_eq p) (slice_get (d ∷ ds) m) false) (sym next))
  step false e rest =
      let le = ltb-false d p e in
      ap (λ b. nat_eq p d || b) (lacks_before (d + 1) p ds r.1 (omega (arith, le))) ∙ or_false (nat_eq p d)

-- the count one place on

abbrev pub count_next : List ℕ → ℕ → Bool → Type 0
count_next ds k true = count_before ds (k + 1) ≡ count_before ds k + 1
count_next ds k false = count_before ds (k + 1) ≡ count_before ds k

pub counts_next : (n k : ℕ) (ds : List ℕ) → Rises n ds → (b : Bool) → list_any (nat_eq k) ds ≡ b → count_next ds k b
counts_next n k [] r true e = absurd (false≢true e)
counts_next n k [] r false e = refl
counts_next n k (d ∷ ds) r b e = by (ltb d k) refl (nat_eq k d) refl (counts_next (d + 1) k ds r.1 b) where
  below : ltb d k ≡ true → ltb d (k + 1) ≡ true
  below e = lt-ltb d (k + 1) (let lt = ltb-true d k e in omega (arith, lt))

  apart : ltb d k ≡ true → nat_eq k d ≡ false
  apart e = ne_eqb k d (λ f. let lt = ltb-true d k e in absurd (omega (arith, lt, f)))

  lift : (c : Bool) → count_next ds k c → cond (ltb d k) (1 + count_before ds k) 0 ≡ 1 + count_before ds k
      → cond (ltb d (k + 1)) (1 + count_before ds (k + 1)) 0 ≡ 1 + count_before ds (k + 1) → count_next (d ∷ ds) k c
  lift true h x y = let s : 1 + count_before ds (k + 1) ≡ 1 + count_before ds k + 1 = omega (arith, h) in y ∙ (s ∙ ap (λ m. m + 1) (sym x))
  lift false h x y = y ∙ (ap (λ m. 1 + m) h ∙ sym x)

  by : (lower : Bool) → ltb d k ≡ lower → (here : Bool) → nat_eq k d ≡ here → (list_any (nat_eq k) ds ≡ b → count_next ds k b)
      → count_next (d ∷ ds) k b
  by true l here f rest =
      lift b (rest (ap (λ x. x || list_any (nat_eq k) ds) (sym (apart l)) ∙ e))
      (ap (λ x. cond x (1 + count_before ds k) 0) l) (ap (λ x. cond x (1 + count_before ds (k + 1)) 0) (below l))
  by false l true f rest =
      let same : k ≡ d = eqb-true k d f in
      let is : b ≡ true = sym e ∙ ap (λ x. x || list_any (nat_eq k) ds) f in
      let within : ltb d (k + 1) ≡ true = lt-ltb d (k + 1) (omega (arith, same)) in
      let after : count_before ds (k + 1) ≡ 0 = no_count (d + 1) (k + 1) ds r.1 (omega (arith, same)) in
      subst (count_next (d ∷ ds) k) (sym is)
      (ap (λ x. cond x (1 + count_before ds (k + 1)) 0) within
      ∙ (ap (λ m. 1 + m) after ∙ ap (λ x. cond x (1 + count_before ds k) 0 + 1) (sym l)))
  by false l false f rest =
      let le = ltb-false d k l in
      let apart : k ≡ d → ⊥ = λ same. false≢true (sym f ∙ eq-eqb k d same) in
      let is : b ≡ false = sym e ∙ (ap (λ x. x || list_any (nat_eq k) ds) f ∙ lacks_before (d + 1) k ds r.1 (omega (arith, le))) in
      subst (count_next (d ∷ ds) k) (sym is)
      (ap (λ x. cond x (1 + count_before ds (k + 1)) 0) (le-ltb d (k + 1) (omega (arith, le, apart)))
      ∙ ap (λ x. cond x (1 + count_before ds k) 0) (sym l))

-- the place of a port among the free ones of a numbered list

places_meet : (place : Target → Option ℕ) (k : ℕ) (t u : Target) (p : ℕ) → place t ≡ Some p → place u ≡ Some k → t ≡ u
    → p ≡ k
places_meet place k t u p a b e = same_Some p k (sym a ∙ (ap place e ∙ b))

pub record InOrder (place : Target → Option ℕ) (driven : List ℕ) (t : Target) (p k : ℕ) (ts : List Target) : Type 0 where
  pub later : k ≤ p
  pub counted : position_or_len (same_target t) (filter (λ u. is_undriven_at driven (place u)) ts) + count_before driven p + k ≡ p + count_before driven k

module _ (place : Target → Option ℕ) (driven : List ℕ) (rises : Rises 0 driven) (t : Target) (p : ℕ) (at : place t ≡ Some p)
    (free : list_any (nat_eq p) driven ≡ false) where
  abbrev keeps : Target → Bool
  keeps u = is_undriven_at driven (place u)

  in_order : (k : ℕ) (ts : List Target) → Numbered place k ts → list_any (same_target t) ts ≡ true → InOrder place driven t p k ts
  in_order k [] n h = absurd (false≢true h)
  in_order k (u ∷ ts) n h =
      by (same_target t u) refl (list_any (nat_eq k) driven) refl
      (λ e. in_order (k + 1) ts n.1 (ap (λ b. b || list_any (same_target t) ts) (sym e) ∙ h))
    where
      kept_is : (b : Bool) → list_any (nat_eq k) driven ≡ b → filter keeps (u ∷ ts) ≡ cond (not b) (u ∷ filter keeps ts) (filter keeps ts)
      kept_is b e = ap (λ o. cond (is_undriven_at driven o) (u ∷ filter keeps ts) (filter keeps ts)) n.0
          ∙ ap (λ x. cond (not x) (u ∷ filter keeps ts) (filter keeps ts)) e

      place_is : (b : Bool) → list_any (nat_eq k) driven ≡ b → (c : Bool) → same_target t u ≡ c
          → position_or_len (same_target t) (filter keeps (u ∷ ts)) ≡ cond (not b) (cond (not c) (1 + position_or_len (same_target t) (filter keeps ts)) 0)
          (position_or_len (same_target t) (filter keeps ts))
      place_is true e c f = ap (position_or_len (same_target t)) (kept_is true e)
      place_is false e c f = ap (position_or_len (same_target t)) (kept_is false e)
          ∙ ap (λ x. cond (not x) (1 + position_or_len (same_target t) (filter keeps ts)) 0) f

      by : (c : Bool) → same_target t u ≡ c → (b : Bool) → list_any (nat_eq k) driven ≡ b
          → (same_target t u ≡ false → InOrder place driven t p (k + 1) ts) → InOrder place driven t p k (u ∷ ts)
      by true f b e rest_from =
          let here : p ≡ k = places_meet place k t u p at n.0 (same_target_is t u f) in
          let lacks : b ≡ false = sym e ∙ (ap (λ x. list_any (nat_eq x) driven) (sym here) ∙ free) in
          let first = place_is false (e ∙ lacks) true f in
          let counts : count_before driven p ≡ count_before driven k = ap (count_before driven) here in
          record { later = omega (arith, here); counted = omega (arith, first, counts, here) }
      by false f true e rest_from =
          let rest = rest_from f in
          let first = place_is true e false f in
          let more = counts_next 0 k driven rises true e in
          let later = rest.later in
          let counted = rest.counted in
          record { later = omega (arith, later); counted = omega (arith, first, more, counted) }
      by false f false e rest_from =
          let rest = rest_from f in
          let first = place_is false e false f in
          let more = counts_next 0 k driven rises false e in
          let later = rest.later in
          let counted = rest.counted in
          record { later = omega (arith, later); counted = omega (arith, first, more, counted) }

  none_first : count_before driven 0 ≡ 0
  none_first = no_count 0 0 driven rises (omega arith)

  pub free_position : (ts : List Target) → Numbered place 0 ts → list_any (same_target t) ts ≡ true
      → position_or_len (same_target t) (filter keeps ts) ≡ p - count_before driven p
  free_position ts n h = let found = in_order 0 ts n h in let counted = found.counted in let first = none_first in omega (arith, counted, first)

  keeps_it : (ts : List Target) → list_any (same_target t) ts ≡ true → list_any (same_target t) (filter keeps ts) ≡ true
  keeps_it ts h = any-filter (same_target t) keeps ts
      (λ u e. ap keeps (sym (same_target_is t u e)) ∙ (ap (is_undriven_at driven) at ∙ ap not free)) h

-- a port that has no place, or a driven one, is not free
module _ (place : Target → Option ℕ) (driven : List ℕ) (t : Target) (no : is_undriven_at driven (place t) ≡ false) where
  pub not_free : (ts : List Target)
      → list_any (same_target t) (filter (λ u. is_undriven_at driven (place u)) ts) ≡ false
  not_free [] = refl
  not_free (u ∷ ts) = by (is_undriven_at driven (place u)) refl (same_target t u) refl (not_free ts) where
    by : (b : Bool) → is_undriven_at driven (place u) ≡ b → (c : Bool) → same_target t u ≡ c
        → list_any (same_target t) (filter (λ w. is_undriven_at driven (place w)) ts) ≡ false
        → list_any (same_target t) (cond b (u ∷ filter (λ w. is_undriven_at driven (place w)) ts)
        (filter (λ w. is_undriven_at driven (place w)) ts)) ≡ false
    by false e c f rest = rest
    by true e true f rest = absurd (false≢true (sym no ∙ (ap (λ w. is_undriven_at driven (place w)) (same_target_is t u f) ∙ e)))
    by true e false f rest = ap (λ x. x || list_any (same_target t) (filter (λ w. is_undriven_at driven (place w)) ts)) f ∙ rest

-- the place of a port in the free order is what the table finds

pub free_at : (own : ℕ) (counts driven : List ℕ) (t : Target) → Rises 0 driven → (o : Option ℕ)
    → whole_place own counts t ≡ o
    → place_among_free driven o ≡ position (same_target t) (free_by_places own counts driven)
free_at own counts driven t rises None e =
    sym (no_place (same_target t) (free_by_places own counts driven)
    (not_free (whole_place own counts) driven t (ap (is_undriven_at driven) e) (ports_among own counts)))
free_at own counts driven t rises (Some p) e = by (list_any (nat_eq p) driven) refl where
  stands : list_any (same_target t) (ports_among own counts) ≡ true
  stands =
      let at = stands_there own counts t p e in
      list_any_at (same_target t) (ports_among own counts) p t (slice_get_within (ports_among own counts) p t at)
      (ap (same_target t) (get_or_from_slice_get (ports_among own counts) p t t at) ∙ same_target_itself t)

  by : (b : Bool) → list_any (nat_eq p) driven ≡ b
      → cond b None (Some (p - count_before driven p)) ≡ position (same_target t) (free_by_places own counts driven)
  by true f =
      sym (no_place (same_target t) (free_by_places own counts driven)
      (not_free (whole_place own counts) driven t (ap (is_undriven_at driven) e ∙ ap not f) (ports_among own counts)))
  by false f =
      ap Some (sym (free_position (whole_place own counts) driven rises t p e f (ports_among own counts) (all_numbered own counts) stands))
      ∙ sym (some_place (same_target t) (free_by_places own counts driven) (keeps_it (whole_place own counts) driven rises t p e f
      (ports_among own counts) stands))

-- rising numbers are parted by each number

rises_at : (n : ℕ) (ds : List ℕ) (j e : ℕ) → Rises n ds → j < length ds → n ≤ get_or ds j e
rises_at n [] j e r l = absurd (omega arith)
rises_at n (d ∷ ds) zero e r l = r.0
rises_at n (d ∷ ds) (suc j) e r l = let rest = rises_at (d + 1) ds j e r.1 (omega arith) in omega (arith, rest, r.0)

rises_le : (n : ℕ) (ds : List ℕ) (i j e : ℕ) → Rises n ds → i ≤ j → j < length ds → get_or ds i e ≤ get_or ds j e
rises_le n [] i j e r o l = absurd (omega arith)
rises_le n (d ∷ ds) zero zero e r o l = omega arith
rises_le n (d ∷ ds) zero (suc j) e r o l = let rest = rises_at (d + 1) ds j e r.1 (omega arith) in omega (arith, rest)
rises_le n (d ∷ ds) (suc i) zero e r o l = absurd (omega arith)
rises_le n (d ∷ ds) (suc i) (suc j) e r o l = rises_le (d + 1) ds i j e r.1 (omega arith) (omega arith)

pub rises_parted : (p : ℕ) (ds : List ℕ) → Rises 0 ds → IsPartitionedBy (λ d. ltb d p) ds
rises_parted p ds r i j e o l h =
    let le = rises_le 0 ds i j e r o l in
    let lt = ltb-true (get_or ds j e) p h in
    lt-ltb (get_or ds i e) p (omega (arith, le, lt))

pub counts_at : (p : ℕ) (ds : List ℕ) (i : ℕ) → i ≤ length ds
    → IsPartitionPoint (λ d. ltb d p ≡ true) (λ d. ltb d p ≡ false) ds i
    → i ≡ count_before ds p
counts_at p ds i l point =
    sym (prefix_len_is (λ d. ltb d p) ds i 0 l (λ k lt. point.0 k 0 (omega arith) lt) (λ lt. point.1 i 0 (omega arith) lt))

rises_from : (n : ℕ) (ds : List ℕ) → IsStrictlyIncreasing ds → (0 < length ds → n ≤ slice_index ds 0) → Rises n ds
rises_from n [] up first = tt
rises_from n (d ∷ ds) up first = (
  first (omega arith),
  rises_from (d + 1) ds
      (λ k l. let e : suc k + 1 ≡ suc (k + 1) = omega arith in subst (λ m. slice_index ds k < slice_index (d ∷ ds) m) e (up (suc k) (omega arith)))
      (λ l. let next = up 0 (omega arith) in
      let e : 0 + 1 ≡ suc 0 = omega arith in
      let lt : d < slice_index (d ∷ ds) (suc 0) = subst (λ m. d < slice_index (d ∷ ds) m) e next in omega (arith, lt)),
)

pub sorted_rises : (xs : List ℕ) → IsSorted nat_cmp xs → Rises 0 (dedup eqb xs)
sorted_rises xs h = rises_from 0 (dedup eqb xs) (IsStrictlyIncreasing-dedup xs h) (λ l. omega arith)

any_dedup_step : (q k x : ℕ) (kept xs : List ℕ) (b : Bool) → eqb x k ≡ b
    → (list_any (nat_eq q) (dedup_from eqb k xs) ≡ (nat_eq q k || list_any (nat_eq q) xs))
    → (list_any (nat_eq q) (dedup_from eqb x xs) ≡ (nat_eq q x || list_any (nat_eq q) xs))
    → list_any (nat_eq q) (cond b (dedup_from eqb k xs) (k ∷ dedup_from eqb x xs)) ≡ (nat_eq q k || (nat_eq q x || list_any (nat_eq q) xs))
any_dedup_step q k x kept xs true e same other =
    same ∙ (twice (nat_eq q k) (list_any (nat_eq q) xs) ∙ ap (λ y. nat_eq q k || (nat_eq q y || list_any (nat_eq q) xs)) (sym (eqb-true x k e)))
  where
    twice : (a r : Bool) → (a || r) ≡ (a || (a || r))
    twice true r = refl
    twice false r = refl
any_dedup_step q k x kept xs false e same other = ap (λ b. nat_eq q k || b) other

any_dedup_from : (q k : ℕ) (xs : List ℕ)
    → list_any (nat_eq q) (dedup_from eqb k xs) ≡ (nat_eq q k || list_any (nat_eq q) xs)
any_dedup_from q k [] = refl
any_dedup_from q k (x ∷ xs) = any_dedup_step q k x [] xs (eqb x k) refl (any_dedup_from q k xs) (any_dedup_from q x xs)

pub any_dedup : (q : ℕ) (xs : List ℕ) → list_any (nat_eq q) (dedup eqb xs) ≡ list_any (nat_eq q) xs
any_dedup q [] = refl
any_dedup q (x ∷ xs) = any_dedup_from q x xs

-- where the ports of each subcomponent begin

sum_more : (x : ℕ) (xs : List ℕ) → sum (x ∷ xs) ≡ x + sum xs
sum_more x xs = sum_by-cons (λ y. y) x xs

pub record Starts (own : ℕ) (counts starts : List ℕ) (next i : ℕ) : Type 0 where
  pub all : starts ++ starts_from next (drop i counts) ≡ starts_from own counts
  pub total : next + sum (drop i counts) ≡ own + sum counts
  pub fits : next < 2 ^ 64

pub starts_begin : (own : ℕ) (counts : List ℕ) → own < 2 ^ 64 → Starts own counts [] own 0
starts_begin own counts fits = record { all = refl; total = refl; fits = fits }

pub starts_more : (own : ℕ) (counts starts more : List ℕ) (next after i x : ℕ) → i < length counts
    → x ≡ get_or counts i x
    → more ≡ starts ++ next ∷ [] → after ≡ next + x → after < 2 ^ 64 → Starts own counts starts next i
    → Starts own counts more after (i + 1)
starts_more own counts starts more next after i x l is put adds fits so = record {
  all = (λ j. put j ++ starts_from (adds j) (drop (i + 1) counts))
      ∙ (append_assoc starts (next ∷ []) (starts_from (next + x) (drop (i + 1) counts))
      ∙ (ap (λ list. starts ++ list) (ap (λ y. next ∷ starts_from (next + y) (drop (i + 1) counts)) is ∙ sym (at_drop_more (starts_from next) counts i x l))
      ∙ so.all));
  total = (let here = at_drop_more sum counts i x l ∙ sum_more (get_or counts i x) (drop (i + 1) counts) in let total = so.total in omega
      (arith, here, total, is, adds));
  fits = fits;
}

pub starts_all : (own : ℕ) (counts starts : List ℕ) (next i : ℕ) → length counts ≤ i → Starts own counts starts next i
    → starts ≡ starts_from own counts
starts_all own counts starts next i past so =
    sym (append-nil starts) ∙ (ap (λ list. starts ++ list) (sym (at_drop_all (starts_from next) counts i past)) ∙ so.all)

pub starts_total : (own : ℕ) (counts starts : List ℕ) (next i : ℕ) → length counts ≤ i
    → Starts own counts starts next i → next ≡ own + sum counts
starts_total own counts starts next i past so =
    let none : sum (drop i counts) ≡ 0 = at_drop_all sum counts i past in let total = so.total in omega (arith, none, total)

pub start_fits : (n : ℕ) (counts : List ℕ) (s start count : ℕ) → Some start ≡ slice_get (starts_from n counts) s
    → Some count ≡ slice_get counts s
    → start + count ≤ n + sum counts
start_fits n [] s start count a b = absurd (none-some start (sym a))
start_fits n (c ∷ cs) zero start count a b =
    let e = same_Some start n a in let f = same_Some count c b in let more = sum_more c cs in omega (arith, e, f, more)
start_fits n (c ∷ cs) (suc s) start count a b =
    let rest = start_fits (n + c) cs s start count a b in let more = sum_more c cs in omega (arith, rest, more)

-- the answers of the table

taken_by : (ds : List ℕ) (place before : ℕ) (o : Option ℕ) → Rises 0 ds → before ≡ count_before ds place
    → o ≡ slice_get ds before
    → list_any (nat_eq place) ds ≡ option_map_or (nat_eq place) o false
taken_by ds place before o r e h =
    found_at_count 0 place ds r ∙ ap (λ p. option_map_or (nat_eq place) p false) (ap (slice_get ds) (sym e) ∙ sym h)

pub place_taken : (ds : List ℕ) (place before found : ℕ) → Rises 0 ds → before ≡ count_before ds place
    → Some found ≡ slice_get ds before → found ≡ place
    → None ≡ place_among_free ds (Some place)
place_taken ds place before found r e h same =
    ap (λ b. cond b None (Some (place - count_before ds place)))
    (sym (taken_by ds place before (Some found) r e h ∙ eq-eqb place found (sym same)))

pub place_untaken : (ds : List ℕ) (place before found : ℕ) → Rises 0 ds → before ≡ count_before ds place
    → Some found ≡ slice_get ds before
    → (found ≡ place → ⊥) → Some (place - before) ≡ place_among_free ds (Some place)
place_untaken ds place before found r e h apart =
    ap (λ n. Some (place - n)) e
    ∙ ap (λ b. cond b None (Some (place - count_before ds place)))
    (sym (taken_by ds place before (Some found) r e h ∙ ne_eqb place found (λ same. apart (sym same))))

pub place_past : (ds : List ℕ) (place before : ℕ) → Rises 0 ds → before ≡ count_before ds place
    → None ≡ slice_get ds before
    → Some (place - before) ≡ place_among_free ds (Some place)
place_past ds place before r e h =
    ap (λ n. Some (place - n)) e ∙ ap (λ b. cond b None (Some (place - count_before ds place))) (sym (taken_by ds place before None r e h))

-- the table of these targets

same_if : (b c : Bool) → (b ≡ true → c ≡ true) → (c ≡ true → b ≡ true) → b ≡ c
same_if true true f g = refl
same_if true false f g = absurd (false≢true (f refl))
same_if false true f g = absurd (false≢true (g refl))
same_if false false f g = refl

module _ (own : ℕ) (counts : List ℕ) (u : Target) (k : ℕ) (at : whole_place own counts u ≡ Some k) where
  places_same_step : (v : Target) (vs : List Target) (o : Option ℕ) → whole_place own counts v ≡ o
      → list_any (nat_eq k) (filter_map (whole_place own counts) vs) ≡ list_any (same_target u) vs
      → list_any (nat_eq k) (cons_option o (filter_map (whole_place own counts) vs)) ≡ (same_target u v || list_any (same_target u) vs)
  places_same_step v vs None e rest =
      rest ∙ ap (λ b. b || list_any (same_target u) vs)
      (sym (other_target u v (λ same. none-some k (sym e ∙ (ap (whole_place own counts) (sym same) ∙ at)))))
  places_same_step v vs (Some m) e rest =
      (λ j. same_if (nat_eq k m) (same_target u v)
      (λ h. subst (λ w. same_target u w ≡ true) (same_by_place own counts u v k at (e ∙ ap Some (sym (eqb-true k m h)))) (same_target_itself u))
      (λ h. eq-eqb k m (same_Some k m (sym at ∙ (ap (whole_place own counts) (same_target_is u v h) ∙ e)))) j || rest j)

  places_same : (vs : List Target) → list_any (nat_eq k) (filter_map (whole_place own counts) vs) ≡ list_any (same_target u) vs
  places_same [] = refl
  places_same (v ∷ vs) = places_same_step v vs (whole_place own counts v) refl (places_same vs)

module _ (own : ℕ) (counts driven : List ℕ) (targets : List Target)
    (same : (k : ℕ) → list_any (nat_eq k) driven ≡ list_any (nat_eq k) (filter_map (whole_place own counts) targets)) where
  same_free : (k : ℕ) (ts : List Target) → Numbered (whole_place own counts) k ts
      → filter (λ t. is_undriven_at driven (whole_place own counts t)) ts ≡ filter (is_unconnected targets) ts
  same_free k [] n = refl
  same_free k (u ∷ ts) n =
      (λ j. cond ((ap (is_undriven_at driven) n.0 ∙ ap not (same k ∙ places_same own counts u k n.0 targets)) j)
      (u ∷ same_free (k + 1) ts n.1 j) (same_free (k + 1) ts n.1 j))

  pub table_is : free_by_places own counts driven ≡ free_among own counts targets
  table_is = same_free 0 (ports_among own counts) (all_numbered own counts)
