-- Elements of lists, and rising lists by their first number.
use Rattle.std.proofs.Common.{◌≡◌, ℕ, zero, suc, ◌<◌, ◌≤◌, ◌⊎◌, inl, inr, List, [], ◌∷◌, length, get_or, refl, sym, ap, ◌∙◌, arith, subst}
use Rattle.std.specs.Prelude.{All, Contains}
use Rattle.std.proofs.lemmas.List.Elements.{Contains-get_or}
use Rattle.std.proofs.lemmas.List.Kept.{AllPairs-cons}
use Rattle.fault_tree.specs.Leaves.{IsRising, IsSublist}

pub in_head : {X : Type 0} (x : X) (xs : List X) → Contains (x ∷ xs) x
in_head x xs = (0, omega arith, refl)

pub in_tail : {X : Type 0} (x y : X) (xs : List X) → Contains xs y → Contains (x ∷ xs) y
in_tail x y xs at = (suc at.0, omega (arith, at.1), at.2)

in_cases_at : {X : Type 0} (x y : X) (xs : List X) (k : ℕ) → k < length (x ∷ xs) → get_or (x ∷ xs) k y ≡ y
    → (x ≡ y) ⊎ Contains xs y
in_cases_at x y xs zero low e = inl e
in_cases_at x y xs (suc k) low e = inr (k, omega (arith, low), e)

pub in_cases : {X : Type 0} (x y : X) (xs : List X) → Contains (x ∷ xs) y → (x ≡ y) ⊎ Contains xs y
in_cases x y xs at = in_cases_at x y xs at.0 at.1 at.2

pub in_none : {X : Type 0} (y : X) → Contains [] y → ⊥
in_none y at = omega (arith, at.1)

-- what holds of each element holds of all
pub all_of : {X : Type 0} (P : X → Type 0) (xs : List X) → ((x : X) → Contains xs x → P x) → All P xs
all_of P xs each = λ k d short. each (get_or xs k d) (Contains-get_or xs k d short)

pub rising_none : IsRising []
rising_none = λ i j d before last. absurd (omega (arith, last))

pub rising_tail : (x : ℕ) (xs : List ℕ) → IsRising (x ∷ xs) → IsRising xs
rising_tail x xs up = λ i j d before last. up (suc i) (suc j) d (omega (arith, before)) (omega (arith, last))

pub rising_head : (x : ℕ) (xs : List ℕ) → IsRising (x ∷ xs) → (y : ℕ) → Contains xs y → x < y
rising_head x xs up y at = subst (λ (m : ℕ). x < m) at.2 (up 0 (suc at.0) y (omega arith) (omega (arith, at.1)))

pub rising_cons : (x : ℕ) (xs : List ℕ) → ((y : ℕ) → Contains xs y → x < y) → IsRising xs → IsRising (x ∷ xs)
rising_cons x xs below up = AllPairs-cons (λ a b. a < b) x xs (all_of (λ y. x < y) xs below) up

-- each number of a rising list is its first or greater
pub rising_least : (x : ℕ) (xs : List ℕ) → IsRising (x ∷ xs) → (y : ℕ) → Contains (x ∷ xs) y → x ≤ y
rising_least x xs up y at =
    elim (in_cases x y xs at) [ inl same ↦ omega (arith, same) | inr later ↦ omega (arith, rising_head x xs up y later) ]

-- a rising list within another is at most as long, and is that list where it is as long
pub within_rising : (t s : List ℕ) → IsRising s → IsRising t → IsSublist s t
    → (length s ≤ length t) × (length t ≤ length s → s ≡ t)
within_rising [] [] up up' within = (omega arith, λ _. refl)
within_rising [] (x ∷ xs) up up' within = absurd (in_none x (within x (in_head x xs)))
within_rising (y ∷ ys) [] up up' within = (omega arith, λ long. absurd (omega (arith, long)))
within_rising (y ∷ ys) (x ∷ xs) up up' within =
    elim (in_cases y x ys (within x (in_head x xs))) [
      | inl same ↦
          let rest : IsSublist xs ys = λ z at.
          elim (in_cases y z ys (within z (in_tail x z xs at))) [
            | inl first ↦ absurd (omega (arith, same, first, rising_head x xs up z at))
            | inr later ↦ later
          ] in
          let shorter : (length xs ≤ length ys) × (length ys ≤ length xs → xs ≡ ys) =
          within_rising ys xs (rising_tail x xs up) (rising_tail y ys up') rest in (
            omega (arith, shorter.0),
            λ long. ap (λ (m : ℕ). m ∷ xs) (sym same) ∙ ap (λ (l : List ℕ). y ∷ l) (shorter.1 (omega (arith, long))),
          )
      | inr later ↦
          let above : y < x = rising_head y ys up' x later in
          let rest : IsSublist (x ∷ xs) ys = λ z at.
          elim (in_cases y z ys (within z at)) [
            | inl first ↦ absurd (omega (arith, above, first, rising_least x xs up z at))
            | inr after ↦ after
          ] in
          let shorter : (length (x ∷ xs) ≤ length ys) × (length ys ≤ length (x ∷ xs) → x ∷ xs ≡ ys) =
          within_rising ys (x ∷ xs) up (rising_tail y ys up') rest in
          (omega (arith, shorter.0), λ long. absurd (omega (arith, long, shorter.0)))
    ]

-- rising lists with the same numbers are the same
pub same_rising : (s t : List ℕ) → IsRising s → IsRising t → IsSublist s t → IsSublist t s → s ≡ t
same_rising s t up up' first second = (within_rising t s up up' first).1 (within_rising s t up' up second).0
