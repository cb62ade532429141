-- Rising places: which of them are below a bound, and where a port stands among them.

use Rattle.std.proofs.Common.{◌≡◌, ℕ, zero, suc, ◌+◌, ◌<◌, ◌≤◌, Bool, true, false, not, cond, ◌||◌, ◌&&◌, nat_eq, ltb, List, [], ◌∷◌}
use Rattle.std.proofs.Common.{filter, length, slice_get, take, Option, Some, None, refl, sym, ap, subst, ◌∙◌, arith}
use Rattle.std.proofs.lemmas.Bool.{false≢true, ltb-false, ltb-true, lt-ltb, le-ltb, eqb-true, eq-eqb, ne_eqb, and_parts}
use Rattle.std.proofs.lemmas.Option.{slice_get_within}
use Rattle.std.specs.Option.{option_map_or}
use Rattle.std.specs.List.{list_any, range_with_len, position_or_len}
use Rattle.spec_model.specs.FreePlaces.{count_before, Rises}
use Rattle.spec_model.proofs.FreePlaces.{no_count, found_at_count}
use Rattle.levels.specs.Rising.{is_rising}

lacks_below : (n p : ℕ) (ds : List ℕ) → Rises n ds → p < n → list_any (nat_eq p) ds ≡ false
lacks_below n p [] r l = refl
lacks_below n p (d ∷ ds) r l =
    ap (λ b. b || list_any (nat_eq p) ds) (ne_eqb p d (λ e. absurd (omega (arith, e, r.0)))) ∙ lacks_below (d + 1) p ds r.1 (omega (arith, r.0))

-- nothing of a range is kept by a test that fails everywhere
none_kept : (a m : ℕ) → filter (λ k. list_any (nat_eq k) []) (range_with_len a m) ≡ []
none_kept a zero = refl
none_kept a (suc m) = none_kept (a + 1) m

-- past a number, a test for this number changes nothing
kept_past : (d a m : ℕ) (p : ℕ → Bool) → d < a → filter (λ k. nat_eq k d || p k) (range_with_len a m) ≡ filter p (range_with_len a m)
kept_past d a zero p l = refl
kept_past d a (suc m) p l =
    let rest = kept_past d (a + 1) m p (omega arith) in
    let here : nat_eq a d ≡ false = ne_eqb a d (λ e. absurd (omega (arith, e))) in
    ap (λ b. cond (b || p a) (a ∷ filter (λ k. nat_eq k d || p k) (range_with_len (a + 1) m)) (filter (λ k. nat_eq k d || p k) (range_with_len (a + 1) m))) here
    ∙ ap (λ l. cond (p a) (a ∷ l) l) rest

kept_step : (a m d : ℕ) (ds : List ℕ) → Rises a (d ∷ ds)
    → (Rises (a + 1) ds → take (count_before ds (a + 1 + m)) ds ≡ filter (λ k. list_any (nat_eq k) ds) (range_with_len (a + 1) m))
    → (Rises (a + 1) (d ∷ ds) → take (count_before (d ∷ ds) (a + 1 + m)) (d ∷ ds)
    ≡ filter (λ k. list_any (nat_eq k) (d ∷ ds)) (range_with_len (a + 1) m))
    → (b : Bool) → nat_eq a d ≡ b → take (count_before (d ∷ ds) (a + 1 + m)) (d ∷ ds)
    ≡ cond (b || list_any (nat_eq a) ds) (a ∷ filter (λ k. list_any (nat_eq k) (d ∷ ds)) (range_with_len (a + 1) m))
    (filter (λ k. list_any (nat_eq k) (d ∷ ds)) (range_with_len (a + 1) m))
kept_step a m d ds r behind here true e =
    let all = filter (λ k. list_any (nat_eq k) (d ∷ ds)) (range_with_len (a + 1) m) in
    let same : a ≡ d = eqb-true a d e in
    let first : ltb d (a + 1 + m) ≡ true = lt-ltb d (a + 1 + m) (omega (arith, same)) in
    let rises : Rises (a + 1) ds = subst (λ n. Rises (n + 1) ds) (sym same) r.1 in
    let past = kept_past d (a + 1) m (λ k. list_any (nat_eq k) ds) (omega (arith, same)) in
    let next : 1 + count_before ds (a + 1 + m) ≡ suc (count_before ds (a + 1 + m)) = omega arith in
    ap (λ b. take (cond b (1 + count_before ds (a + 1 + m)) 0) (d ∷ ds)) first
    ∙ (ap (λ n. take n (d ∷ ds)) next
    ∙ (ap (λ l. d ∷ l) (behind rises ∙ sym past) ∙ ap (λ n. n ∷ all) (sym same)))
kept_step a m d ds r behind here false e =
    let all = filter (λ k. list_any (nat_eq k) (d ∷ ds)) (range_with_len (a + 1) m) in
    let apart : a ≡ d → ⊥ = λ same. false≢true (sym e ∙ eq-eqb a d same) in
    let less : a + 1 ≤ d = omega (arith, r.0, apart) in
    let lacks : list_any (nat_eq a) ds ≡ false = lacks_below (d + 1) a ds r.1 (omega (arith, less)) in
    here (less, r.1) ∙ ap (λ b. cond b (a ∷ all) all) (sym lacks)

-- the rising places below a bound are the numbers below it that are among them
pub kept_below : (a m : ℕ) (ds : List ℕ) → Rises a ds
    → take (count_before ds (a + m)) ds ≡ filter (λ k. list_any (nat_eq k) ds) (range_with_len a m)
kept_below a zero ds r = ap (λ n. take n ds) (no_count a (a + 0) ds r (omega arith))
kept_below a (suc m) [] r = sym (none_kept (a + 1) m)
kept_below a (suc m) (d ∷ ds) r =
    let from : a + suc m ≡ a + 1 + m = omega arith in
    ap (λ n. take (count_before (d ∷ ds) n) (d ∷ ds)) from
    ∙ kept_step a m d ds r (λ rises. kept_below (a + 1) m ds rises) (λ rises. kept_below (a + 1) m (d ∷ ds) rises) (nat_eq a d) refl

lacks_place : (n k : ℕ) (ds : List ℕ) → Rises n ds → k < n → position_or_len (nat_eq k) ds ≡ length ds
lacks_place n k [] r l = refl
lacks_place n k (d ∷ ds) r l =
    let rest : position_or_len (nat_eq k) ds ≡ length ds = lacks_place (d + 1) k ds r.1 (omega (arith, r.0, l)) in
    let whole : 1 + position_or_len (nat_eq k) ds ≡ suc (length ds) = omega (arith, rest) in
    ap (λ b. cond (not b) (1 + position_or_len (nat_eq k) ds) 0) (ne_eqb k d (λ e. absurd (omega (arith, e, r.0, l)))) ∙ whole

one_on : (b : Bool) (c l : ℕ) → 1 + cond b c l ≡ cond b (1 + c) (suc l)
one_on true c l = refl
one_on false c l = omega arith

-- the first of them is this number, or it is none of them
first_place : (k d : ℕ) (ds : List ℕ) → Rises (d + 1) ds → k ≤ d → (c : Bool) → nat_eq k d ≡ c
    → cond (not c) (1 + position_or_len (nat_eq k) ds) 0 ≡ cond c 0 (suc (length ds))
first_place k d ds r l true f = refl
first_place k d ds r l false f =
    let rest : position_or_len (nat_eq k) ds ≡ length ds = lacks_place (d + 1) k ds r (omega (arith, l)) in
    omega (arith, rest)

placed_step : (k d : ℕ) (ds : List ℕ) (b : Bool) → Rises (d + 1) ds
    → (option_map_or (nat_eq k) (slice_get ds (count_before ds k)) false ≡ b → position_or_len (nat_eq k) ds ≡ cond b (count_before ds k) (length ds))
    → (c : Bool) → ltb d k ≡ c
    → option_map_or (nat_eq k) (slice_get (d ∷ ds) (cond c (1 + count_before ds k) 0)) false ≡ b
    → cond (not (nat_eq k d)) (1 + position_or_len (nat_eq k) ds) 0 ≡ cond b (cond c (1 + count_before ds k) 0) (suc (length ds))
placed_step k d ds b r behind true e f =
    let lt = ltb-true d k e in
    let next : 1 + count_before ds k ≡ suc (count_before ds k) = omega arith in
    let g : option_map_or (nat_eq k) (slice_get ds (count_before ds k)) false ≡ b =
    ap (λ m. option_map_or (nat_eq k) (slice_get (d ∷ ds) m) false) (sym next) ∙ f in
    ap (λ c. cond (not c) (1 + position_or_len (nat_eq k) ds) 0) (ne_eqb k d (λ same. absurd (omega (arith, lt, same))))
    ∙ (ap (λ m. 1 + m) (behind g) ∙ one_on b (count_before ds k) (length ds))
placed_step k d ds b r behind false e f =
    let le = ltb-false d k e in
    first_place k d ds r (omega (arith, le)) (nat_eq k d) refl ∙ ap (λ c. cond c 0 (suc (length ds))) f

-- the place of a number is behind those before it, where it is there
pub placed : (n k : ℕ) (ds : List ℕ) → Rises n ds → (b : Bool)
    → option_map_or (nat_eq k) (slice_get ds (count_before ds k)) false ≡ b
    → position_or_len (nat_eq k) ds ≡ cond b (count_before ds k) (length ds)
placed n k [] r true e = absurd (false≢true e)
placed n k [] r false e = refl
placed n k (d ∷ ds) r b e = placed_step k d ds b r.1 (λ f. placed (d + 1) k ds r.1 b f) (ltb d k) refl e

-- where it is there, its place is below the length
pub placed_within : (k : ℕ) (ds : List ℕ) (b : Bool) → option_map_or (nat_eq k) (slice_get ds (count_before ds k)) false ≡ b
    → ltb (cond b (count_before ds k) (length ds)) (length ds) ≡ b
placed_within k ds false e = le-ltb (length ds) (length ds) (omega arith)
placed_within k ds true e = lt-ltb (count_before ds k) (length ds) (there (slice_get ds (count_before ds k)) refl e) where
  there : (o : Option ℕ) → slice_get ds (count_before ds k) ≡ o → option_map_or (nat_eq k) o false ≡ true → count_before ds k < length ds
  there None f g = absurd (false≢true g)
  there (Some d) f g = slice_get_within ds (count_before ds k) d f

-- whether it is there shows at that place
pub listed_by : (k : ℕ) (ds : List ℕ) → Rises 0 ds → (b : Bool) → option_map_or (nat_eq k) (slice_get ds (count_before ds k)) false ≡ b
    → list_any (nat_eq k) ds ≡ ltb (cond b (count_before ds k) (length ds)) (length ds)
listed_by k ds r b e = found_at_count 0 k ds r ∙ (e ∙ sym (placed_within k ds b e))

pub rises_front : (n m : ℕ) (ds : List ℕ) → Rises n ds → Rises n (take m ds)
rises_front n zero ds r = tt
rises_front n (suc m) [] r = tt
rises_front n (suc m) (d ∷ ds) r = (r.0, rises_front (d + 1) m ds r.1)

pub rises_test : (n : ℕ) (ds : List ℕ) → Rises n ds → is_rising n ds ≡ true
rises_test n [] r = refl
rises_test n (d ∷ ds) r =
    ap (λ b. b && is_rising (d + 1) ds) (lt-ltb n (d + 1) (omega (arith, r.0))) ∙ rises_test (d + 1) ds r.1

pub test_rises : (n : ℕ) (ds : List ℕ) → is_rising n ds ≡ true → Rises n ds
test_rises n [] e = tt
test_rises n (d ∷ ds) e =
    let both = and_parts (ltb n (d + 1)) (is_rising (d + 1) ds) e in
    let lt = ltb-true n (d + 1) both.0 in
    (omega (arith, lt), test_rises (d + 1) ds both.1)
