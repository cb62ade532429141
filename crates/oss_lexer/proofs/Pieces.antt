-- What stands at the front of a text is a piece, and no other piece begins there.
use Rattle.std.proofs.Common.{◌≡◌, ℕ, ◌+◌, ◌<◌, ◌≤◌, suc, Bool, true, false, inl, inr, List, [], ◌∷◌, ◌++◌, length, get_or, take, drop, refl, sym, ap, ◌∙◌}
use Rattle.std.proofs.Common.{arith, one-add}
use Rattle.std.specs.List.{list_all, prefix_len}
use Rattle.std.proofs.lemmas.List.Sums.{prefix_len_is}
use Rattle.std.proofs.lemmas.Bool.{cases_Bool, and_parts, and_from, cond-true, cond-false}
use Rattle.oss_syntax.specs.Tokens.{NoFirstPasses}

-- the longest front of bytes that pass, and what follows it

-- one more byte that passes
pub one_more : (p : ℕ → Bool) (x : ℕ) (xs : List ℕ) → p x ≡ true → prefix_len p (x ∷ xs) ≡ suc (prefix_len p xs)
one_more p x xs e = cond-true (p x) (1 + prefix_len p xs) 0 e ∙ one-add (prefix_len p xs)

pub no_more : (p : ℕ → Bool) (x : ℕ) (xs : List ℕ) → p x ≡ false → prefix_len p (x ∷ xs) ≡ 0
no_more p x xs e = cond-false (p x) (1 + prefix_len p xs) 0 e

pub front_passes : (p : ℕ → Bool) (xs : List ℕ) → list_all p (take (prefix_len p xs) xs) ≡ true
front_passes p [] = refl
front_passes p (x ∷ xs) = elim (cases_Bool (p x)) [
  | inl e ↦ rw (one_more p x xs e) (and_from (p x) (list_all p (take (prefix_len p xs) xs)) e (front_passes p xs))
  | inr e ↦ rw (no_more p x xs e) refl
]

pub rest_stops : (p : ℕ → Bool) (xs : List ℕ) → NoFirstPasses p (drop (prefix_len p xs) xs)
rest_stops p [] = tt
rest_stops p (x ∷ xs) = elim (cases_Bool (p x)) [
  | inl e ↦ rw (one_more p x xs e) (rest_stops p xs)
  | inr e ↦ rw (no_more p x xs e) e
]

-- a text that passes, before bytes that stop, is the longest front
pub front_is : (p : ℕ → Bool) (text after : List ℕ) → list_all p text ≡ true → NoFirstPasses p after
    → prefix_len p (text ++ after) ≡ length text
front_is p [] [] all stops = refl
front_is p [] (b ∷ bs) all stops = no_more p b bs stops
front_is p (x ∷ xs) after all stops =
    let parts = and_parts (p x) (list_all p xs) all in
    one_more p x (xs ++ after) parts.0 ∙ ap suc (front_is p xs after parts.1 stops)

-- a loop that stops at the first byte that doesn't pass, or at the end
pub front_stops : (p : ℕ → Bool) (xs : List ℕ) (i : ℕ) → i < length xs → ((k : ℕ) → k < i → p (get_or xs k 0) ≡ true)
    → p (get_or xs i 0) ≡ false → i ≡ prefix_len p xs
front_stops p xs i h before here = sym (prefix_len_is p xs i 0 (omega arith) before (λ _. here))

pub front_all : (p : ℕ → Bool) (xs : List ℕ) (i : ℕ) → length xs ≤ i → ((k : ℕ) → k < i → p (get_or xs k 0) ≡ true)
    → length xs ≡ prefix_len p xs
front_all p xs i h before = sym (prefix_len_is p xs (length xs) 0 (omega arith) (λ k l. before k (omega arith)) (λ l. absurd (omega arith)))
