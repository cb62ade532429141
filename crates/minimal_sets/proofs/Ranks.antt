-- The rank of a set tells its place in shortlex order.
use Rattle.std.proofs.Common.{◌≡◌, ◌≢◌, ℕ, zero, suc, ◌+◌, ◌*◌, ◌^◌, ◌<◌, ◌≤◌, ◌⊎◌, inl, inr, ◌↔◌, Bool, true, false, List, [], ◌∷◌, length, get_or, refl}
use Rattle.std.proofs.Common.{sym, ap, ◌∙◌, arith, subst}
use Rattle.std.specs.Prelude.{filter, Contains, AllPairs, ◌==◌, if◌then◌else◌}
use Rattle.std.specs.declared.cmp.Ordering.{Ordering}
use Rattle.std.specs.declared.cmp.Ordering.TheVariants.{Less, Equal, Greater}
use Rattle.std.specs.Ordering.{nat_cmp, ordering_then}
use Rattle.std.specs.Cmp.Lexicographic.{slice_cmp}
use Rattle.std.specs.List.{range_with_len}
use Rattle.std.specs.List.Sorted.{IsNonDecreasingBy, IsPermutation}
use Rattle.std.specs.Bool.{Decides}
use Rattle.std.proofs.lemmas.Map.Made.{AllPairs-from_IsDistinct, IsDistinct-from_AllPairs}
use Rattle.std.proofs.lemmas.Map.Keys.{IsDistinct-IsPermutation}
use Rattle.std.proofs.lemmas.Nat.Bits.{bit_at_above}
use Rattle.std.proofs.Math.Nat.{pow-suc, pow-le-pow_right}
use Rattle.std.specs.Int.{bit_at}
use Rattle.std.proofs.lemmas.Bool.{cases_lt, cases_order, cases_eq, cases_Bool, cond_both, lt-ltb, le-ltb, eq-eqb, ne_eqb, eqb-true, eqb-false}
use Rattle.port_types.specs.Sets.{has_place, HasPlace, places}
use Rattle.port_types.specs.declared.sets.Set24.{Set24}
use Rattle.std.proofs.lemmas.List.Sorted.{All-permutation, Contains-permutation}
use Rattle.minimal_sets.specs.Families.{ListsExactly}
use Rattle.minimal_sets.specs.Orders.{shortlex, AreInShortlexOrder}
use Rattle.minimal_sets.specs.Searches.{rank_from}
use Rattle.minimal_sets.proofs.PlaceByPlace.{ByMembers}

less : (a b : ℕ) → a < b → nat_cmp a b ≡ Less
less a b h = ap (λ (t : Bool). if t then Less else (if a == b then Equal else Greater)) (lt-ltb a b h)

equal : (a b : ℕ) → a ≡ b → nat_cmp a b ≡ Equal
equal a b e =
    ap (λ (t : Bool). if t then Less else (if a == b then Equal else Greater)) (le-ltb a b (omega arith))
    ∙ ap (λ (t : Bool). if t then Equal else Greater) (eq-eqb a b e)

-- ---- rising lists by their first difference

-- the first member from a on, if there is one
first_from : (f : ℕ → Bool) (a k y : ℕ) (ys : List ℕ) → filter f (range_with_len a k) ≡ y ∷ ys → a ≤ y
first_from f a zero y ys e = cc
first_from f a (suc k) y ys e =
    elim (cases_Bool (f a)) [
      | inl passes ↦
          let head : a ∷ filter f (range_with_len (a + 1) k) ≡ y ∷ ys =
          ap (λ (t : Bool). if t then a ∷ filter f (range_with_len (a + 1) k) else filter f (range_with_len (a + 1) k)) (sym passes) ∙ e in
          let same : a ≡ y = cc in omega arith
      | inr fails ↦
          let rest : filter f (range_with_len (a + 1) k) ≡ y ∷ ys =
          ap (λ (t : Bool). if t then a ∷ filter f (range_with_len (a + 1) k) else filter f (range_with_len (a + 1) k)) (sym fails) ∙ e in
          let later : a + 1 ≤ y = first_from f (a + 1) k y ys rest in omega arith
    ]

-- a list with this head is less than one of later numbers that is as long
head_less : (a n : ℕ) (xs ys : List ℕ) → ((y : ℕ) (more : List ℕ) → ys ≡ y ∷ more → a < y) → suc n ≡ length ys
    → slice_cmp nat_cmp (a ∷ xs) ys ≡ Less
head_less a n xs [] later e = absurd (omega (arith, e))
head_less a n xs (y ∷ ys) later e = ap (λ (o : Ordering). ordering_then o (slice_cmp nat_cmp xs ys)) (less a y (later y ys refl))

-- one more number on both lists, or on neither
step_same : (t : Bool) (a : ℕ) (xs ys : List ℕ) → (length xs ≡ length ys → slice_cmp nat_cmp xs ys ≡ Less)
    → length (if t then a ∷ xs else xs) ≡ length (if t then a ∷ ys else ys)
    → slice_cmp nat_cmp (if t then a ∷ xs else xs) (if t then a ∷ ys else ys) ≡ Less
step_same true a xs ys rest e =
    ap (λ (o : Ordering). ordering_then o (slice_cmp nat_cmp xs ys)) (equal a a refl) ∙ rest (omega (arith, e))
step_same false a xs ys rest e = rest e

-- one more number on the first list alone
step_apart : (t u : Bool) (a : ℕ) (xs ys : List ℕ) → t ≡ true → u ≡ false
    → ((y : ℕ) (more : List ℕ) → ys ≡ y ∷ more → a < y)
    → length (if t then a ∷ xs else xs) ≡ length (if u then a ∷ ys else ys)
    → slice_cmp nat_cmp (if t then a ∷ xs else xs) (if u then a ∷ ys else ys) ≡ Less
step_apart true false a xs ys p q later e = head_less a (length xs) xs ys later (omega (arith, e))
step_apart true true a xs ys p q later e = cc
step_apart false u a xs ys p q later e = cc

-- two tests that agree below a place and differ there keep lists of one length: that with the place is less
first_apart : (f g : ℕ → Bool) (a k p : ℕ) → a ≤ p → p < a + k → ((q : ℕ) → q < p → f q ≡ g q) → f p ≡ true
    → g p ≡ false
    → length (filter f (range_with_len a k)) ≡ length (filter g (range_with_len a k))
    → slice_cmp nat_cmp (filter f (range_with_len a k)) (filter g (range_with_len a k)) ≡ Less
first_apart f g a zero p from until agree passes fails e = absurd (omega (arith, from, until))
first_apart f g a (suc k) p from until agree passes fails e =
    let F : List ℕ = filter f (range_with_len (a + 1) k) in
    let G : List ℕ = filter g (range_with_len (a + 1) k) in
    elim (cases_lt a p) [
      | inl before ↦
          let same : g a ≡ f a = sym (agree a before) in
          let long : length (if f a then a ∷ F else F) ≡ length (if f a then a ∷ G else G) =
          e ∙ ap (λ (t : Bool). length (if t then a ∷ G else G)) same in
          ap (λ (t : Bool). slice_cmp nat_cmp (if f a then a ∷ F else F) (if t then a ∷ G else G)) same
          ∙ step_same (f a) a F G (λ even. first_apart f g (a + 1) k p (omega arith) (omega (arith, until)) agree passes fails even) long
      | inr past ↦
          let here : p ≡ a = omega arith in
          step_apart (f a) (g a) a F G (ap f (sym here) ∙ passes) (ap g (sym here) ∙ fails)
          (λ y more is. let later : a + 1 ≤ y = first_from g (a + 1) k y more is in omega arith) e
    ]

-- ---- ranks

abbrev digit : Bool → ℕ
digit t = if t then 0 else 1

digit_le : (t : Bool) → digit t ≤ 1
digit_le true = omega arith
digit_le false = omega arith

digit_same : (t u : Bool) → digit t ≡ digit u → t ≡ u
digit_same true true e = refl
digit_same true false e = absurd (omega (arith, e))
digit_same false true e = absurd (omega (arith, e))
digit_same false false e = refl

digit_less : (t u : Bool) → digit t < digit u → (t ≡ true) × (u ≡ false)
digit_less true true h = absurd (omega (arith, h))
digit_less true false h = (refl, refl)
digit_less false true h = absurd (omega (arith, h))
digit_less false false h = absurd (omega (arith, h))

record Agrees (s t : Set24) (k : ℕ) : Type 0 where
  size : length (places s) ≡ length (places t)
  below : (q : ℕ) → q < k → has_place s q ≡ has_place t q

-- as many members, and the first place in which they differ is one of the first set
record IsFirstApart (s t : Set24) (k : ℕ) : Type 0 where
  size : length (places s) ≡ length (places t)
  place : ℕ
  small : place < k
  below : (q : ℕ) → q < place → has_place s q ≡ has_place t q
  first : has_place s place ≡ true
  second : has_place t place ≡ false

rank_same : (s t : Set24) (k : ℕ) → rank_from s k ≡ rank_from t k → Agrees s t k
rank_same s t zero e = record { size = e; below = λ q low. absurd (omega (arith, low)) }
rank_same s t (suc k) e =
    let d : digit (has_place s k) ≤ 1 = digit_le (has_place s k) in
    let d' : digit (has_place t k) ≤ 1 = digit_le (has_place t k) in
    let rest : rank_from s k ≡ rank_from t k = omega (arith, e, d, d') in
    let last : has_place s k ≡ has_place t k = digit_same _ _ (omega (arith, e, d, d')) in
    let before : Agrees s t k = rank_same s t k rest in
    record {
      size = before.size;
      below = λ q low. elim (cases_lt q k) [
        | inl less ↦ before.below q less
        | inr past ↦ let here : k ≡ q = omega arith in subst (λ r. has_place s r ≡ has_place t r) here last
      ];
    }

rank_less : (s t : Set24) (k : ℕ) → rank_from s k < rank_from t k
    → (length (places s) < length (places t)) ⊎ IsFirstApart s t k
rank_less s t zero h = inl h
rank_less s t (suc k) h =
    let d : digit (has_place s k) ≤ 1 = digit_le (has_place s k) in
    let d' : digit (has_place t k) ≤ 1 = digit_le (has_place t k) in
    elim (cases_lt (rank_from s k) (rank_from t k)) [
      | inl below ↦ elim (rank_less s t k below) [
        | inl shorter ↦ inl shorter
        | inr apart ↦ inr (record {
          size = apart.size;
          place = apart.place;
          small = omega (arith, apart.small);
          below = apart.below;
          first = apart.first;
          second = apart.second;
        })
      ]
      | inr past ↦
          let before : Agrees s t k = rank_same s t k (omega (arith, h, d, d')) in
          let last : (has_place s k ≡ true) × (has_place t k ≡ false) = digit_less _ _ (omega (arith, h, d, d')) in
          inr (record { size = before.size; place = k; small = omega arith; below = before.below; first = last.0; second = last.1 })
    ]

rank_orders : (s t : Set24) → rank_from s 24 < rank_from t 24 → shortlex (places s) (places t) ≡ Less
rank_orders s t h =
    elim (rank_less s t 24 h) [
      | inl shorter ↦
          ap (λ (o : Ordering). ordering_then o (slice_cmp nat_cmp (places s) (places t))) (less (length (places s)) (length (places t)) shorter)
      | inr apart ↦
          ap (λ (o : Ordering). ordering_then o (slice_cmp nat_cmp (places s) (places t))) (equal (length (places s)) (length (places t)) apart.size)
          ∙ first_apart (has_place s) (has_place t) 0 24 apart.place (omega arith)
          (omega (arith, apart.small)) apart.below apart.first apart.second apart.size
    ]

kept_le : (f : ℕ → Bool) (a k : ℕ) → length (filter f (range_with_len a k)) ≤ k
kept_le f a zero = omega arith
kept_le f a (suc k) =
    let rest : length (filter f (range_with_len (a + 1) k)) ≤ k = kept_le f (a + 1) k in
    cond_both (f a) (a ∷ filter f (range_with_len (a + 1) k)) (filter f (range_with_len (a + 1) k)) (λ l. length l ≤ suc k)
    (λ _. omega (arith, rest)) (λ _. omega (arith, rest))

rank_bound : (s : Set24) (k : ℕ) → rank_from s k < 25 * 2 ^ k
rank_bound s zero = omega (arith, kept_le (has_place s) 0 24)
rank_bound s (suc k) = omega (arith, rank_bound s k, digit_le (has_place s k), pow-suc 2 k)

-- the next rank fits its type
pub rank_fits : (s : Set24) (k : ℕ) → k < 24 → rank_from s k * 2 + 1 < 4294967296
rank_fits s k small = omega (arith, rank_bound s k, pow-le-pow_right {n = 2} (omega arith) {i = k} {j = 23} (omega arith))

-- ---- sorted sets

by_number : ByMembers → (s t : Set24) → s.bits ≡ t.bits → s ≡ t
by_number law s t e = law s t (λ p. (λ has. ap (λ (m : ℕ). bit_at m p) (sym e) ∙ has, λ has. ap (λ (m : ℕ). bit_at m p) e ∙ has))

decides_same : ByMembers → (s t : Set24) → Decides (s.bits == t.bits) (s ≡ t)
decides_same law s t =
    (λ equal'. by_number law s t (eqb-true s.bits t.bits equal'), λ e. eq-eqb s.bits t.bits (ap (λ (u : Set24). u.bits) e))

eqb_flips : (a b : ℕ) → (a == b) ≡ (b == a)
eqb_flips a b =
    elim (cases_eq a b) [
      | inl same ↦ eq-eqb a b same ∙ sym (eq-eqb b a (sym same))
      | inr other ↦ ne_eqb a b other ∙ sym (ne_eqb b a (λ e. other (sym e)))
    ]

-- sets that differ do so in any order
pub once_permuted : ByMembers → (xs ys : List Set24) → IsPermutation xs ys → AllPairs (λ s t. s ≢ t) xs
    → AllPairs (λ s t. s ≢ t) ys
once_permuted law xs ys moved once =
    AllPairs-from_IsDistinct {eq = λ s t. s.bits == t.bits} (decides_same law) ys (
    IsDistinct-IsPermutation (λ s t. s.bits == t.bits) (λ s t. eqb_flips s.bits t.bits) xs ys moved
    (IsDistinct-from_AllPairs {eq = λ s t. s.bits == t.bits} (decides_same law) xs once)
    )

-- sets that differ and whose ranks do not fall are in order
pub ordered : ByMembers → (sets : List Set24) → AllPairs (λ s t. s ≢ t) sets
    → IsNonDecreasingBy (λ s. rank_from s 24) sets
    → AreInShortlexOrder sets
ordered law sets once rising = λ i j d before last.
    let s : Set24 = get_or sets i d in
    let t : Set24 = get_or sets j d in
    elim (cases_lt (rank_from s 24) (rank_from t 24)) [
      | inl lower ↦ rank_orders s t lower
      | inr past ↦
          let upto : rank_from s 24 ≤ rank_from t 24 = rising i j d (omega (arith, before)) last in
          let same : Agrees s t 24 = rank_same s t 24 (omega (arith, upto, past)) in
          absurd (once i j d before last (law s t (λ p. elim (cases_lt p 24) [
            | inl low ↦
                let e : has_place s p ≡ has_place t p = same.below p low in
                (λ has. eqb-true _ _ (sym e ∙ eq-eqb _ _ has), λ has. eqb-true _ _ (e ∙ eq-eqb _ _ has))
            | inr high ↦ (
              λ has. absurd (omega (arith, has, bit_at_above s.bits 24 p s.in_range high)),
              λ has. absurd (omega (arith, has, bit_at_above t.bits 24 p t.in_range high)),
            )
          ])))
    ]

-- a list of exactly some sets stays one in any order
pub exactly_permuted : ByMembers → (P : Set24 → Type 0) (xs ys : List Set24) → IsPermutation xs ys → ListsExactly P xs
    → ListsExactly P ys
exactly_permuted law P xs ys moved exactly = record {
  each = All-permutation P xs ys moved exactly.each;
  every = λ s holds. Contains-permutation xs ys s moved (exactly.every s holds);
  once = once_permuted law xs ys moved exactly.once;
}
