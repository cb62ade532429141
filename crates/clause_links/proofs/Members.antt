-- Members of lists, by the first one and by a cut at one.
use Rattle.std.proofs.Common.{◌≡◌, ◌≢◌, ◌<◌, ◌≤◌, ◌+◌, ◌-◌, ◌⊎◌, ℕ, zero, suc, List, [], ◌∷◌, ◌++◌, length, take, get_or, Option, Some, None, refl, sym}
use Rattle.std.proofs.Common.{◌∙◌, ap, subst, inl, inr, arith}
use Rattle.std.specs.List.{Contains, slice_get}
use Rattle.std.proofs.lemmas.List.{take_all, take_more}
use Rattle.std.proofs.lemmas.List.Elements.{Contains-append_left, Contains-append_right, Contains-append_cases, Contains-push, Contains-push_cases}
use Rattle.std.proofs.lemmas.Option.{none-some, slice_get_within, slice_get-get_or, get_or_from_slice_get}
use Rattle.clause_links.specs.WatchLists.{last_member}

pub no_member : (x : ℕ) → Contains [] x → ⊥
no_member x h = omega (arith, h.1)

pub has_head : (x : ℕ) (xs : List ℕ) → Contains (x ∷ xs) x
has_head x xs = Contains-append_left (x ∷ []) xs x (Contains-push [] x)

pub has_tail : (x : ℕ) (xs : List ℕ) (y : ℕ) → Contains xs y → Contains (x ∷ xs) y
has_tail x xs y h = Contains-append_right (x ∷ []) xs y h

pub has_cases : (x : ℕ) (xs : List ℕ) (y : ℕ) → Contains (x ∷ xs) y → (x ≡ y) ⊎ Contains xs y
has_cases x xs y h =
    elim (Contains-append_cases (x ∷ []) xs y h) [
      | inl here ↦ elim (Contains-push_cases [] x y here) [
        | inl none ↦ absurd (no_member y none)
        | inr e ↦ inl e
      ]
      | inr there ↦ inr there
    ]

-- a member in the middle, and the members beside it
pub has_middle : (front : List ℕ) (x : ℕ) (back : List ℕ) → Contains (front ++ x ∷ back) x
has_middle front x back = Contains-append_right front (x ∷ back) x (has_head x back)

pub has_beside : (front : List ℕ) (x : ℕ) (back : List ℕ) (y : ℕ) → Contains (front ++ back) y
    → Contains (front ++ x ∷ back) y
has_beside front x back y h =
    elim (Contains-append_cases front back y h) [
      | inl left ↦ Contains-append_left front (x ∷ back) y left
      | inr right ↦ Contains-append_right front (x ∷ back) y (has_tail x back y right)
    ]

pub beside_cases : (front : List ℕ) (x : ℕ) (back : List ℕ) (y : ℕ) → Contains (front ++ x ∷ back) y → (x ≡ y)
    ⊎ Contains (front ++ back) y
beside_cases front x back y h =
    elim (Contains-append_cases front (x ∷ back) y h) [
      | inl left ↦ inr (Contains-append_left front back y left)
      | inr right ↦ elim (has_cases x back y right) [
        | inl e ↦ inl e
        | inr there ↦ inr (Contains-append_right front back y there)
      ]
    ]

-- what stands before and behind a member
pub record Cut (xs : List ℕ) (x : ℕ) : Type 0 where
  pub front : List ℕ
  pub back : List ℕ
  pub is : xs ≡ front ++ x ∷ back

pub cut_at : (xs : List ℕ) (x : ℕ) → Contains xs x → Cut xs x
cut_at [] x h = absurd (no_member x h)
cut_at (y ∷ ys) x h =
    elim (has_cases y ys x h) [
      | inl e ↦ record { front = []; back = ys; is = ap (λ (z : ℕ). z ∷ ys) e }
      | inr there ↦
          let cut : Cut ys x = cut_at ys x there in
          record { front = y ∷ cut.front; back = cut.back; is = ap (λ (zs : List ℕ). y ∷ zs) cut.is }
    ]

-- a list with a last member ends with it, and one without is empty
pub ends_with : (xs : List ℕ) (x : ℕ) → last_member xs ≡ Some x → (init : List ℕ) × (xs ≡ init ++ x ∷ [])
ends_with xs x e =
    let i : ℕ = length xs - 1 in
    let within : i < length xs = slice_get_within xs i x e in
    (take i xs, sym (take_all (i + 1) xs (omega arith)) ∙ take_more xs i x within ∙ ap (λ (z : ℕ). take i xs ++ z ∷ []) (get_or_from_slice_get xs i x x e))

pub no_last : (xs : List ℕ) → last_member xs ≡ None → xs ≡ []
no_last [] e = refl
no_last (x ∷ xs) e =
    let i : ℕ = length (x ∷ xs) - 1 in
    let within : i < length (x ∷ xs) = omega arith in
    absurd (none-some (get_or (x ∷ xs) i x) (sym e ∙ slice_get-get_or (x ∷ xs) i x within))

pub first_or_none : (xs : List ℕ) → slice_get xs 0 ≡ None → xs ≡ []
first_or_none [] e = refl
first_or_none (x ∷ xs) e = absurd (none-some x (sym e))
