-- The order of a dictionary on lists of numbers, by cases; how it goes over fronts of lists and over first differences.
use Rattle.std.proofs.Common.{◌≡◌, ℕ, zero, suc, ◌<◌, ◌≤◌, true, List, [], ◌∷◌, ◌++◌, length, get_or, refl, sym, subst, inl, inr, arith}
use Rattle.std.proofs.Common.{nat_cmp, is_le, Ordering, Less, Equal, Greater, le_antisymm}
use Rattle.std.specs.Cmp.{nat_cmp_is}
use Rattle.std.specs.Cmp.Lexicographic.{slice_cmp}
use Rattle.std.specs.Ordering.{ordering_then}
use Rattle.std.proofs.lemmas.Bool.{false≢true, cases_order}
use Rattle.first_lasso.specs.FirstLassos.{IsNotAfter}

abbrev pub NotAfter : List ℕ → List ℕ → Type 0
NotAfter [] ys = Unit {0}
NotAfter (x ∷ xs) [] = ⊥
NotAfter (x ∷ xs) (y ∷ ys) = (x ≤ y) × (x ≡ y → NotAfter xs ys)

at_answer : (x y : ℕ) (xs ys : List ℕ) (o : Ordering) → o ≡ nat_cmp x y
    → is_le (ordering_then o (slice_cmp nat_cmp xs ys)) ≡ true → IsNotAfter (x ∷ xs) (y ∷ ys)
at_answer x y xs ys o e h = subst (λ (p : Ordering). is_le (ordering_then p (slice_cmp nat_cmp xs ys)) ≡ true) e h

from_answer : (x y : ℕ) (xs ys : List ℕ) (o : Ordering) → o ≡ nat_cmp x y
    → IsNotAfter (x ∷ xs) (y ∷ ys) → is_le (ordering_then o (slice_cmp nat_cmp xs ys)) ≡ true
from_answer x y xs ys o e h = subst (λ (p : Ordering). is_le (ordering_then p (slice_cmp nat_cmp xs ys)) ≡ true) (sym e) h

pub by_cases : (xs ys : List ℕ) → NotAfter xs ys → IsNotAfter xs ys
by_cases [] [] h = refl
by_cases [] (y ∷ ys) h = refl
by_cases (x ∷ xs) [] h = absurd h
by_cases (x ∷ xs) (y ∷ ys) h =
    elim (cases_order x y) [
      | inl e ↦ at_answer x y xs ys Equal (nat_cmp_is x y Equal e) (by_cases xs ys (h.1 e))
      | inr o ↦ elim o [
        | inl lt ↦ at_answer x y xs ys Less (nat_cmp_is x y Less lt) refl
        | inr gt ↦ absurd (omega (arith, gt, h.0))
      ]
    ]

pub to_cases : (xs ys : List ℕ) → IsNotAfter xs ys → NotAfter xs ys
to_cases [] ys h = tt
to_cases (x ∷ xs) [] h = absurd (false≢true h)
to_cases (x ∷ xs) (y ∷ ys) h =
    elim (cases_order x y) [
      | inl e ↦ (omega (arith, e), λ same. to_cases xs ys (from_answer x y xs ys Equal (nat_cmp_is x y Equal e) h))
      | inr o ↦ elim o [
        | inl lt ↦ (omega (arith, lt), λ same. absurd (omega (arith, lt, same)))
        | inr gt ↦ absurd (false≢true (from_answer x y xs ys Greater (nat_cmp_is x y Greater gt) h))
      ]
    ]

pub same_row : (x y : ℕ) (xs ys : List ℕ) → x ≡ y → xs ≡ ys → x ∷ xs ≡ y ∷ ys
same_row x y xs ys e f = cc

same_heads : (x y : ℕ) (xs ys : List ℕ) → x ∷ xs ≡ y ∷ ys → x ≡ y
same_heads x y xs ys e = cc

same_tails : (x y : ℕ) (xs ys : List ℕ) → x ∷ xs ≡ y ∷ ys → xs ≡ ys
same_tails x y xs ys e = cc

pub both_ways : (xs ys : List ℕ) → NotAfter xs ys → NotAfter ys xs → xs ≡ ys
both_ways [] [] h k = refl
both_ways [] (y ∷ ys) h k = absurd k
both_ways (x ∷ xs) [] h k = absurd h
both_ways (x ∷ xs) (y ∷ ys) h k =
    let e : x ≡ y = le_antisymm h.0 k.0 in
    same_row x y xs ys e (both_ways xs ys (h.1 e) (k.1 (sym e)))

-- ---- fronts of the same length

pub after_front : (xs ys more rest : List ℕ) → length xs ≡ length ys → NotAfter xs ys → (xs ≡ ys → NotAfter more rest)
    → NotAfter (xs ++ more) (ys ++ rest)
after_front [] [] more rest e h k = k refl
after_front [] (y ∷ ys) more rest e h k = absurd (omega (arith, e))
after_front (x ∷ xs) [] more rest e h k = absurd h
after_front (x ∷ xs) (y ∷ ys) more rest e h k =
    (h.0, λ same. after_front xs ys more rest (omega (arith, e)) (h.1 same) (λ f. k (same_row x y xs ys same f)))

pub front_of : (xs ys more rest : List ℕ) → length xs ≡ length ys → NotAfter (xs ++ more) (ys ++ rest) → NotAfter xs ys
front_of [] ys more rest e h = tt
front_of (x ∷ xs) [] more rest e h = absurd (omega (arith, e))
front_of (x ∷ xs) (y ∷ ys) more rest e h = (h.0, λ same. front_of xs ys more rest (omega (arith, e)) (h.1 same))

pub rest_of : (xs ys more rest : List ℕ) → length xs ≡ length ys → NotAfter (xs ++ more) (ys ++ rest) → xs ≡ ys
    → NotAfter more rest
rest_of [] [] more rest e h f = h
rest_of [] (y ∷ ys) more rest e h f = absurd (omega (arith, e))
rest_of (x ∷ xs) [] more rest e h f = absurd (omega (arith, e))
rest_of (x ∷ xs) (y ∷ ys) more rest e h f =
    rest_of xs ys more rest (omega (arith, e)) (h.1 (same_heads x y xs ys f)) (same_tails x y xs ys f)

pub same_fronts : (xs ys more rest : List ℕ) → length xs ≡ length ys → xs ++ more ≡ ys ++ rest → (xs ≡ ys) × (more ≡ rest)
same_fronts [] [] more rest e f = (refl, f)
same_fronts [] (y ∷ ys) more rest e f = absurd (omega (arith, e))
same_fronts (x ∷ xs) [] more rest e f = absurd (omega (arith, e))
same_fronts (x ∷ xs) (y ∷ ys) more rest e f =
    let parts = same_fronts xs ys more rest (omega (arith, e)) (same_tails x y (xs ++ more) (ys ++ rest) f) in
    (same_row x y xs ys (same_heads x y (xs ++ more) (ys ++ rest) f) parts.0, parts.1)

-- ---- first differences

-- the lists agree before place k
abbrev pub AgreeBefore : List ℕ → List ℕ → ℕ → Type 0
AgreeBefore xs ys k = (j : ℕ) → j < k → get_or xs j 0 ≡ get_or ys j 0

agree_more : (x y : ℕ) (xs ys : List ℕ) (k : ℕ) → x ≡ y → AgreeBefore xs ys k → AgreeBefore (x ∷ xs) (y ∷ ys) (suc k)
agree_more x y xs ys k e h zero lt = e
agree_more x y xs ys k e h (suc j) lt = h j (omega (arith, lt))

-- At each place before which the lists agree, the first one's number is at most the second one's.
pub from_places : (xs ys : List ℕ) → length xs ≡ length ys
    → ((k : ℕ) → k < length xs → AgreeBefore xs ys k → get_or xs k 0 ≤ get_or ys k 0)
    → NotAfter xs ys
from_places [] ys e h = tt
from_places (x ∷ xs) [] e h = absurd (omega (arith, e))
from_places (x ∷ xs) (y ∷ ys) e h = (
  h 0 (omega arith) (λ j lt. absurd (omega (arith, lt))),
  λ same. from_places xs ys (omega (arith, e)) (λ k lt agree. h (suc k) (omega (arith, lt)) (agree_more x y xs ys k same agree)),
)

pub at_place : (xs ys : List ℕ) (k : ℕ) → NotAfter xs ys → k < length xs → length xs ≡ length ys → AgreeBefore xs ys k
    → get_or xs k 0 ≤ get_or ys k 0
at_place [] ys k h lt e agree = absurd (omega (arith, lt))
at_place (x ∷ xs) [] k h lt e agree = absurd h
at_place (x ∷ xs) (y ∷ ys) zero h lt e agree = h.0
at_place (x ∷ xs) (y ∷ ys) (suc k) h lt e agree =
    at_place xs ys k (h.1 (agree 0 (omega arith))) (omega (arith, lt)) (omega (arith, e)) (λ j below. agree (suc j) (omega (arith, below)))

-- the same of the order of the definition
pub not_after_from_places : (xs ys : List ℕ) → length xs ≡ length ys
    → ((k : ℕ) → k < length xs → AgreeBefore xs ys k → get_or xs k 0 ≤ get_or ys k 0)
    → IsNotAfter xs ys
not_after_from_places xs ys e h = by_cases xs ys (from_places xs ys e h)
