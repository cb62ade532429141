-- What is kept of sets in shortlex order is what is minimal among them.
use Rattle.std.proofs.Common.{◌≡◌, ℕ, suc, ◌+◌, ◌-◌, ◌<◌, ◌≤◌, ◌⊎◌, inl, inr, Bool, true, false, List, [], ◌∷◌, ◌++◌, length, get_or, take, drop, refl, sym, ap}
use Rattle.std.proofs.Common.{◌∙◌, arith, subst}
use Rattle.std.specs.Prelude.{All, AllPairs, Contains, nat_lt, ◌==◌, if◌then◌else◌}
use Rattle.std.specs.declared.cmp.Ordering.TheVariants.{Less}
use Rattle.std.proofs.lemmas.Bool.{cases_lt, cond_both, false≢true, ltb-true, ltb-false, eqb-true, eqb-false, lt-ltb}
use Rattle.std.proofs.lemmas.List.{get_or_default, get_or-take, length-take, take_more}
use Rattle.std.proofs.Math.Seq.{drop-cons}
use Rattle.std.proofs.lemmas.List.Elements.{All-contains, Contains-append_left, Contains-push, Contains-push_cases, Contains-get_or}
use Rattle.std.proofs.lemmas.List.Quantifiers.{all_pairs_push}
use Rattle.minimal_sets.specs.Orders.{shortlex}
use Rattle.fault_tree.specs.Keeping.{sublist_test, IsSortedUp, IsShortFirst, HasSmallerSubset, AreKeptOf}
use Rattle.fault_tree.specs.Leaves.{IsRising, IsSublist, IsMinimalOf, AreMinimalOf}
use Rattle.fault_tree.proofs.Elements.{in_head, in_tail, in_cases, in_none, all_of, rising_tail, rising_head, rising_least, within_rising, same_rising}
use Rattle.fault_tree.proofs.Merging.{rest_none}
use Rattle.fault_tree.proofs.Shortlex.{not_both, not_itself, before_short, sorted_up}

-- ---- the test of sublists

pub test_within : (xs ys : List ℕ) → sublist_test xs ys ≡ true → IsSublist xs ys
test_within [] ys passes = λ z at. absurd (in_none z at)
test_within (x ∷ xs) [] passes = absurd (false≢true passes)
test_within (x ∷ xs) (y ∷ ys) passes =
    (cond_both (nat_lt x y) false (if x == y then sublist_test xs ys else sublist_test (x ∷ xs) ys)
    (λ b. b ≡ true → IsSublist (x ∷ xs) (y ∷ ys))
    (λ _ e. absurd (false≢true e))
    (λ _. cond_both (x == y) (sublist_test xs ys) (sublist_test (x ∷ xs) ys) (λ b. b ≡ true → IsSublist (x ∷ xs) (y ∷ ys))
    (λ first e z at. elim (in_cases x z xs at) [
      | inl here ↦ subst (Contains (y ∷ ys)) (sym (eqb-true x y first) ∙ here) (in_head y ys)
      | inr later ↦ in_tail y z ys (test_within xs ys e z later)
    ])
    (λ _ e z at. in_tail y z ys (test_within (x ∷ xs) ys e z at)))) passes

pub within_test : (xs ys : List ℕ) → IsRising xs → IsRising ys → IsSublist xs ys → sublist_test xs ys ≡ true
within_test [] ys up up' within = refl
within_test (x ∷ xs) [] up up' within = absurd (in_none x (within x (in_head x xs)))
within_test (x ∷ xs) (y ∷ ys) up up' within =
    cond_both (nat_lt x y) false (if x == y then sublist_test xs ys else sublist_test (x ∷ xs) ys) (λ b. b ≡ true)
    (λ less. absurd (omega (arith, ltb-true x y less, rising_least y ys up' x (within x (in_head x xs)))))
    (λ not_less. cond_both (x == y) (sublist_test xs ys) (sublist_test (x ∷ xs) ys) (λ b. b ≡ true)
    (λ first. within_test xs ys (rising_tail x xs up) (rising_tail y ys up')
    (λ z at. elim (in_cases y z ys (within z (in_tail x z xs at))) [
      | inl here ↦ absurd (omega (arith, eqb-true x y first, here, rising_head x xs up z at))
      | inr later ↦ later
    ]))
    (λ other. within_test (x ∷ xs) ys up (rising_tail y ys up')
    (λ z at. elim (in_cases y z ys (within z at)) [
      | inl here ↦
          let apart : x ≡ y → ⊥ = eqb-false x y other in
          absurd (apart (omega (arith, here, ltb-false x y not_less, rising_least x xs up z at)))
      | inr later ↦ later
    ])))

-- the second list is at its end, and the first is not
pub test_at_end : (xs ys : List ℕ) (i j : ℕ) → i < length xs → j ≡ length ys → sublist_test (drop i xs) (drop j ys) ≡ false
test_at_end xs ys i j low e =
    ap (λ (l : List ℕ). sublist_test l (drop j ys)) (drop-cons xs i 0 low)
    ∙ ap (λ (l : List ℕ). sublist_test (get_or xs i 0 ∷ drop (suc i) xs) l) (rest_none ys j (omega (arith, e)))

-- the first list's next number is below the second's
pub test_below : (xs ys : List ℕ) (i j : ℕ) → i < length xs → j < length ys → get_or xs i 0 < get_or ys j 0
    → sublist_test (drop i xs) (drop j ys) ≡ false
test_below xs ys i j low low' less =
    ap (λ (l : List ℕ). sublist_test l (drop j ys)) (drop-cons xs i 0 low)
    ∙ ap (λ (l : List ℕ). sublist_test (get_or xs i 0 ∷ drop (suc i) xs) l) (drop-cons ys j 0 low')
    ∙ ap (λ (b : Bool). if b then false else (if get_or xs i 0 == get_or ys j 0 then sublist_test (drop (suc i) xs) (drop (suc j) ys)
    else sublist_test (get_or xs i 0 ∷ drop (suc i) xs) (drop (suc j) ys)))
    (lt-ltb (get_or xs i 0) (get_or ys j 0) less)

-- ---- smaller subsets

-- shorter sets stand first, so from the first one on that is not smaller none is
pub none_smaller : (kept : List (List ℕ)) (s : List ℕ) (i : ℕ) → IsShortFirst kept → i < length kept
    → length s ≤ length (get_or kept i []) → (HasSmallerSubset (take i kept) s → ⊥) → HasSmallerSubset kept s → ⊥
none_smaller kept s i short low long none has =
    elim (cases_lt has.listed.0 i) [
      | inl earlier ↦ none (record {
        known = has.known;
        listed = (
          has.listed.0,
          omega (arith, earlier, has.listed.1, length-take i kept),
          get_or-take i kept has.listed.0 has.known earlier ∙ has.listed.2,
        );
        smaller = has.smaller;
        subset = has.subset;
      })
      | inr past ↦
          let sizes : length (get_or kept i has.known) ≤ length (get_or kept has.listed.0 has.known) =
          elim (cases_lt i has.listed.0) [
            | inl later ↦ short i has.listed.0 has.known later has.listed.1
            | inr upto ↦
                let e : i ≡ has.listed.0 = omega (arith, past, upto) in
                omega (arith, ap (λ (n : ℕ). length (get_or kept n has.known)) e)
          ] in
          let first : length (get_or kept i has.known) ≡ length (get_or kept i []) =
          ap (λ (l : List ℕ). length l) (get_or_default kept i has.known [] low) in
          omega (arith, sizes, long, has.smaller, first, ap (λ (l : List ℕ). length l) has.listed.2)
    ]

-- one set more that is no subset
pub none_more : (kept : List (List ℕ)) (s other : List ℕ) (i : ℕ) → i < length kept → other ≡ get_or kept i other
    → (sublist_test other s ≡ true → ⊥) → (HasSmallerSubset (take i kept) s → ⊥) → HasSmallerSubset (take (i + 1) kept) s → ⊥
none_more kept s other i low e not_in none has =
    let more : take (i + 1) kept ≡ take i kept ++ other ∷ [] =
    take_more kept i other low ∙ ap (λ (l : List ℕ). take i kept ++ l ∷ []) (sym e) in
    elim (Contains-push_cases (take i kept) other has.known (subst (λ (l : List (List ℕ)). Contains l has.known) more has.listed)) [
      | inl older ↦ none (record { known = has.known; listed = older; smaller = has.smaller; subset = has.subset })
      | inr here ↦ not_in (subst (λ (l : List ℕ). sublist_test l s ≡ true) (sym here) has.subset)
    ]

-- ---- one set more

pub kept_none : AreKeptOf [] []
kept_none = record {
  from = λ k at. at;
  covers = λ t at. absurd (in_none t at);
  order = λ i j d first last. absurd (omega (arith, last));
  apart = λ k l at at' within. absurd (in_none k at);
}

pub short_first : (kept : List (List ℕ)) → AllPairs (λ s t. shortlex s t ≡ Less) kept → IsShortFirst kept
short_first kept order = λ i j d first last. before_short (get_or kept i d) (get_or kept j d) (order i j d first last)

-- the sets so far and one more that is not kept, since a kept one is a subset
pub kept_past : (sets kept : List (List ℕ)) (s k : List ℕ) → Contains kept k → IsSublist k s → AreKeptOf sets kept
    → AreKeptOf (sets ++ s ∷ []) kept
kept_past sets kept s k at within is = record {
  from = λ l in'. Contains-append_left sets (s ∷ []) l (is.from l in');
  covers = λ t in'. elim (Contains-push_cases sets s t in') [
    | inl older ↦ is.covers t older
    | inr here ↦ (k, at, subst (IsSublist k) here within)
  ];
  order = is.order;
  apart = is.apart;
}

-- the sets so far and one more that is kept
pub kept_more : (sets kept : List (List ℕ)) (s : List ℕ) → ((k : List ℕ) → Contains kept k → shortlex k s ≡ Less)
    → ((k : List ℕ) → Contains kept k → IsSublist k s → ⊥) → ((k : List ℕ) → Contains kept k → IsSublist s k → s ≡ k)
    → AreKeptOf sets kept → AreKeptOf (sets ++ s ∷ []) (kept ++ s ∷ [])
kept_more sets kept s later no_subset no_superset is = record {
  from = λ l in'. elim (Contains-push_cases kept s l in') [
    | inl older ↦ Contains-append_left sets (s ∷ []) l (is.from l older)
    | inr here ↦ subst (Contains (sets ++ s ∷ [])) here (Contains-push sets s)
  ];
  covers = λ t in'. elim (Contains-push_cases sets s t in') [
    | inl older ↦ let found = is.covers t older in (found.0, Contains-append_left kept (s ∷ []) found.0 found.1, found.2)
    | inr here ↦ (s, Contains-push kept s, subst (IsSublist s) here (λ x at. at))
  ];
  order = all_pairs_push (λ a b. shortlex a b ≡ Less) kept s is.order
      (λ k d short. later (get_or kept k d) (Contains-get_or kept k d short));
  apart = λ k l at at' within. elim (Contains-push_cases kept s k at) [
    | inl older ↦ elim (Contains-push_cases kept s l at') [
      | inl older' ↦ is.apart k l older older' within
      | inr here' ↦ absurd (no_subset k older (subst (IsSublist k) (sym here') within))
    ]
    | inr here ↦ elim (Contains-push_cases kept s l at') [
      | inl older' ↦ sym here ∙ no_superset l older' (subst (λ (m : List ℕ). IsSublist m l) (sym here) within)
      | inr here' ↦ sym here ∙ here'
    ]
  ];
}

-- at the end what is kept is what is minimal
pub kept_minimal : (sets kept : List (List ℕ)) → All IsRising sets → AreKeptOf sets kept → AreMinimalOf (Contains sets) kept
kept_minimal sets kept rising is = record {
  each = all_of (IsMinimalOf (Contains sets)) kept (λ k at. record {
    holds = is.from k at;
    least = λ t in' within.
        let found = is.covers t in' in
        let e : found.0 ≡ k = is.apart found.0 k found.1 at (λ x here. within x (found.2 x here)) in
        same_rising t k (All-contains IsRising sets t rising in') (All-contains IsRising sets k rising (is.from k at)) within
        (subst (λ (m : List ℕ). IsSublist m t) e found.2);
  });
  every = λ s minimal.
      let found = is.covers s minimal.holds in
      subst (Contains kept) (minimal.least found.0 (is.from found.0 found.1) found.2) found.1;
  order = is.order;
}

-- ---- the code's tests

-- the set that comes next is not below any kept one
pub record IsNext (sets kept : List (List ℕ)) (s : List ℕ) : Type 0 where
  pub kept_rises : (k : List ℕ) → Contains kept k → IsRising k
  pub rises : IsRising s
  pub upto : (k : List ℕ) → Contains kept k → (shortlex k s ≡ Less) ⊎ (k ≡ s)

-- the last kept set stands before this one, so all do
all_before : (sets kept : List (List ℕ)) (s : List ℕ) → AreKeptOf sets kept → IsNext sets kept s
    → (0 < length kept → shortlex (get_or kept (length kept - 1) []) s ≡ Less) → (k : List ℕ) → Contains kept k
    → shortlex k s ≡ Less
all_before sets kept s is next last k at =
    elim (next.upto k at) [
      | inl less ↦ less
      | inr e ↦
          let less : shortlex (get_or kept (length kept - 1) []) s ≡ Less = last (omega (arith, at.1)) in
          elim (cases_lt at.0 (length kept - 1)) [
            | inl earlier ↦
                let first : shortlex (get_or kept at.0 []) (get_or kept (length kept - 1) []) ≡ Less =
                is.order at.0 (length kept - 1) [] earlier (omega (arith, at.1)) in
                let here : get_or kept at.0 [] ≡ s = get_or_default kept at.0 [] k at.1 ∙ at.2 ∙ e in
                absurd (not_both s (get_or kept (length kept - 1) [])
                (subst (λ (m : List ℕ). shortlex m (get_or kept (length kept - 1) []) ≡ Less) here first) less)
            | inr past ↦
                let place : length kept - 1 ≡ at.0 = omega (arith, past, at.1) in
                let here : get_or kept (length kept - 1) [] ≡ s =
                ap (λ (i : ℕ). get_or kept i []) place ∙ get_or_default kept at.0 [] k at.1 ∙ at.2 ∙ e in
                absurd (not_itself s (subst (λ (m : List ℕ). shortlex m s ≡ Less) here less))
          ]
    ]

pub next_kept : (sets kept : List (List ℕ)) (s : List ℕ) → AreKeptOf sets kept → IsNext sets kept s
    → (0 < length kept → shortlex (get_or kept (length kept - 1) []) s ≡ Less) → (HasSmallerSubset kept s → ⊥)
    → AreKeptOf (sets ++ s ∷ []) (kept ++ s ∷ [])
next_kept sets kept s is next last none =
    let later : (k : List ℕ) → Contains kept k → shortlex k s ≡ Less = all_before sets kept s is next last in
    kept_more sets kept s later
    (λ k at within.
    let sizes : (length k ≤ length s) × (length s ≤ length k → k ≡ s) =
    within_rising s k (next.kept_rises k at) next.rises within in
    elim (cases_lt (length k) (length s)) [
      | inl smaller ↦ none (record {
        known = k;
        listed = at;
        smaller = smaller;
        subset = within_test k s (next.kept_rises k at) next.rises within;
      })
      | inr long ↦ not_itself s (subst (λ (m : List ℕ). shortlex m s ≡ Less) (sizes.1 long) (later k at))
    ])
    (λ k at within. (within_rising k s next.rises (next.kept_rises k at) within).1 (before_short k s (later k at)))
    is

-- no set is kept twice
pub next_same : (sets kept : List (List ℕ)) (s : List ℕ) → AreKeptOf sets kept → IsNext sets kept s
    → ((0 < length kept → shortlex (get_or kept (length kept - 1) []) s ≡ Less) → ⊥) → AreKeptOf (sets ++ s ∷ []) kept
next_same sets kept s is next not_last =
    elim (cases_lt 0 (length kept)) [
      | inl some ↦
          let k : List ℕ = get_or kept (length kept - 1) [] in
          let at : Contains kept k = Contains-get_or kept (length kept - 1) [] (omega (arith, some)) in
          elim (next.upto k at) [
            | inl less ↦ absurd (not_last (λ _. less))
            | inr e ↦ kept_past sets kept s k at (subst (IsSublist k) e (λ x here. here)) is
          ]
      | inr none ↦ absurd (not_last (λ some. absurd (omega (arith, some, none))))
    ]

pub next_covered : (sets kept : List (List ℕ)) (s : List ℕ) → AreKeptOf sets kept → HasSmallerSubset kept s
    → AreKeptOf (sets ++ s ∷ []) kept
next_covered sets kept s is has =
    kept_past sets kept s has.known has.listed (test_within has.known s has.subset) is

take_place : (sets : List (List ℕ)) (i k : ℕ) → k < length (take i sets) → k < i
take_place sets i k short = omega (arith, short, length-take i sets)

from_take : (sets : List (List ℕ)) (i : ℕ) (s : List ℕ) → Contains (take i sets) s → Contains sets s
from_take sets i s at =
    let place : at.0 < i = take_place sets i at.0 at.1 in
    (at.0, omega (arith, at.1, length-take i sets), sym (get_or-take i sets at.0 s place) ∙ at.2)

-- the sets of a sorted list come in this order
pub next_of : (sets kept : List (List ℕ)) (i : ℕ) (s : List ℕ) → IsSortedUp sets → All IsRising sets → i < length sets
    → s ≡ get_or sets i s → AreKeptOf (take i sets) kept → IsNext (take i sets) kept s
next_of sets kept i s up rising low e is = record {
  kept_rises = λ k at. All-contains IsRising sets k rising (from_take sets i k (is.from k at));
  rises = subst IsRising (sym e) (All-contains IsRising sets (get_or sets i s) rising (Contains-get_or sets i s low));
  upto = λ k at.
      let there : Contains (take i sets) k = is.from k at in
      let place : there.0 < i = take_place sets i there.0 there.1 in
      let is' : get_or sets there.0 k ≡ k = sym (get_or-take i sets there.0 k place) ∙ there.2 in
      let order : (shortlex (get_or sets there.0 k) (get_or sets i k) ≡ Less) ⊎ (get_or sets there.0 k ≡ get_or sets i k) =
      sorted_up sets up there.0 i k (omega (arith, place)) low in
      let s_is : get_or sets i k ≡ s = get_or_default sets i k s low ∙ sym e in
      elim order [
        | inl less ↦ inl (subst (λ (m : List ℕ). shortlex m s ≡ Less) is' (subst (λ (m : List ℕ). shortlex (get_or sets there.0 k) m ≡ Less) s_is less))
        | inr same' ↦ inr (sym is' ∙ same' ∙ s_is)
      ];
}

-- the sets up to the next place are those before it and the one there
pub kept_upto : (sets kept : List (List ℕ)) (i : ℕ) (s : List ℕ) → i < length sets → s ≡ get_or sets i s
    → AreKeptOf (take i sets ++ s ∷ []) kept → AreKeptOf (take (i + 1) sets) kept
kept_upto sets kept i s low e is =
    subst (λ (l : List (List ℕ)). AreKeptOf l kept)
    (sym (take_more sets i s low ∙ ap (λ (l : List ℕ). take i sets ++ l ∷ []) (sym e))) is
