-- What a list is after a key was added, and where the key stands.
use Rattle.std.proofs.Common.{◌≡◌, ℕ, zero, suc, ◌+◌, ◌≤◌, Bool, true, false, ◌||◌, not, cond, List, [], ◌∷◌, ◌++◌, Some, slice_get, length, take}
use Rattle.std.proofs.Common.{unwrap_or, refl, sym, ap, subst, ◌∙◌, inl, inr, ◌⊎◌, arith, length-append}
use Rattle.std.specs.List.{list_any, position_or_len}
use Rattle.std.proofs.lemmas.Bool.{false≢true}
use Rattle.indexmap.specs.IndexSet.{insert_key}

pub get_left : {X : Type 0} (xs ys : List X) (n : ℕ) (x : X) → slice_get xs n ≡ Some x → slice_get (xs ++ ys) n ≡ Some x
get_left [] ys n x e = cc
get_left (y ∷ xs) ys zero x e = e
get_left (y ∷ xs) ys (suc n) x e = get_left xs ys n x e

pub get_last : {X : Type 0} (xs : List X) (y : X) → slice_get (xs ++ y ∷ []) (length xs) ≡ Some y
get_last [] y = refl
get_last (x ∷ xs) y = get_last xs y

-- an element of a grown list is an old one, or the new one at the end
pub get_grown : {X : Type 0} (xs : List X) (y : X) (n : ℕ) (x : X) → slice_get (xs ++ y ∷ []) n ≡ Some x
    → (slice_get xs n ≡ Some x) ⊎ ((n ≡ length xs) × (y ≡ x))
get_grown [] y zero x e = inr (refl, ap (λ o. unwrap_or o y) e)
get_grown [] y (suc n) x e = inl e
get_grown (z ∷ xs) y zero x e = inl e
get_grown (z ∷ xs) y (suc n) x e =
    elim (get_grown xs y n x e) [ inl h ↦ inl h | inr h ↦ inr (omega arith, h.1) ]

or_right : (b c : Bool) → b ≡ false → (b || c) ≡ true → c ≡ true
or_right true c e h = absurd (false≢true (sym e))
or_right false c e h = h

or_left : (b c : Bool) → b ≡ true → (b || c) ≡ true
or_left true c e = refl
or_left false c e = absurd (false≢true e)

or_both : (b c : Bool) → c ≡ true → (b || c) ≡ true
or_both true c e = refl
or_both false c e = e

or_false : (b c : Bool) → (b || c) ≡ false → (b ≡ false) × (c ≡ false)
or_false true c h = absurd (false≢true (sym h))
or_false false c h = (refl, h)

pub take_whole : {X : Type 0} (xs : List X) → take (length xs) xs ≡ xs
take_whole [] = refl
take_whole (x ∷ xs) = ap (λ l. x ∷ l) (take_whole xs)

pub take_left : {X : Type 0} (xs ys : List X) → take (length xs) (xs ++ ys) ≡ xs
take_left [] ys = refl
take_left (x ∷ xs) ys = ap (λ l. x ∷ l) (take_left xs ys)

-- the old elements are a front of the list after a key was added
pub insert_front : {X : Type 0} (eq : X → X → Bool) (xs : List X) (x : X) → take (length xs) (insert_key eq xs x) ≡ xs
insert_front eq xs x = by (list_any (eq x) xs) refl
  where
    by : (b : Bool) → list_any (eq x) xs ≡ b → take (length xs) (insert_key eq xs x) ≡ xs
    by true e =
        subst (λ l. take (length xs) l ≡ xs) (sym (ap (λ c. cond c xs (xs ++ x ∷ [])) e)) (take_whole xs)
    by false e =
        subst (λ l. take (length xs) l ≡ xs) (sym (ap (λ c. cond c xs (xs ++ x ∷ [])) e)) (take_left xs (x ∷ []))

module _ {X : Type 0} (eq : X → X → Bool) (sound : (x y : X) → eq x y ≡ true → x ≡ y) (total : (x : X) → eq x x ≡ true) where
  -- an element that stands in the list is found in it
  pub listed : (xs : List X) (n : ℕ) (x : X) → slice_get xs n ≡ Some x → list_any (eq x) xs ≡ true
  listed [] n x e = cc
  listed (y ∷ xs) zero x e =
      or_left (eq x y) (list_any (eq x) xs) (subst (λ z. eq x z ≡ true) (sym (ap (λ o. unwrap_or o x) e)) (total x))
  listed (y ∷ xs) (suc n) x e = or_both (eq x y) (list_any (eq x) xs) (listed xs n x e)

  -- where it is found, it stands at the first such place
  pub place_there : (xs : List X) (x : X) → list_any (eq x) xs ≡ true
      → slice_get xs (position_or_len (eq x) xs) ≡ Some x
  place_there [] x h = absurd (false≢true h)
  place_there (y ∷ xs) x h = by (eq x y) refl (λ e. place_there xs x (or_right (eq x y) (list_any (eq x) xs) e h))
    where
      by : (b : Bool) → eq x y ≡ b → (eq x y ≡ false → slice_get xs (position_or_len (eq x) xs) ≡ Some x)
          → slice_get (y ∷ xs) (cond (not (eq x y)) (1 + position_or_len (eq x) xs) 0) ≡ Some x
      by true e rest =
          subst (λ c. slice_get (y ∷ xs) (cond (not c) (1 + position_or_len (eq x) xs) 0) ≡ Some x) (sym e) (ap Some (sym (sound x y e)))
      by false e rest =
          let more : suc (position_or_len (eq x) xs) ≡ 1 + position_or_len (eq x) xs = omega arith in
          subst (λ c. slice_get (y ∷ xs) (cond (not c) (1 + position_or_len (eq x) xs) 0) ≡ Some x) (sym e)
          (subst (λ k. slice_get (y ∷ xs) k ≡ Some x) more (rest e))

  -- where it is not found, its place is the end
  pub place_new : (xs : List X) (x : X) → list_any (eq x) xs ≡ false → position_or_len (eq x) xs ≡ length xs
  place_new [] x h = refl
  place_new (y ∷ xs) x h =
      let parts = or_false (eq x y) (list_any (eq x) xs) h in
      let rest : position_or_len (eq x) xs ≡ length xs = place_new xs x parts.1 in
      ap (λ c. cond (not c) (1 + position_or_len (eq x) xs) 0) parts.0 ∙ omega arith

  pub key_there : (xs : List X) (x : X) → list_any (eq x) xs ≡ true → insert_key eq xs x ≡ xs
  key_there xs x h = ap (λ c. cond c xs (xs ++ x ∷ [])) h

  pub key_new : (xs : List X) (x : X) → list_any (eq x) xs ≡ false → insert_key eq xs x ≡ xs ++ x ∷ []
  key_new xs x h = ap (λ c. cond c xs (xs ++ x ∷ [])) h

  -- a key that is not found differs from each element
  pub not_listed : (xs : List X) (n : ℕ) (x : X) → list_any (eq x) xs ≡ false → slice_get xs n ≡ Some x → ⊥
  not_listed xs n x h e = false≢true (sym h ∙ listed xs n x e)

  -- after a key was added it stands at its place
  pub key_at : (xs : List X) (x : X) → slice_get (insert_key eq xs x) (position_or_len (eq x) xs) ≡ Some x
  key_at xs x = by (list_any (eq x) xs) refl
    where
      by : (b : Bool) → list_any (eq x) xs ≡ b → slice_get (insert_key eq xs x) (position_or_len (eq x) xs) ≡ Some x
      by true e = subst (λ l. slice_get l (position_or_len (eq x) xs) ≡ Some x) (sym (key_there xs x e)) (place_there xs x e)
      by false e =
          subst (λ l. slice_get l (position_or_len (eq x) xs) ≡ Some x) (sym (key_new xs x e))
          (subst (λ k. slice_get (xs ++ x ∷ []) k ≡ Some x) (sym (place_new xs x e)) (get_last xs x))

  -- the old elements keep their places
  pub key_keeps : (xs : List X) (x : X) (n : ℕ) (y : X) → slice_get xs n ≡ Some y
      → slice_get (insert_key eq xs x) n ≡ Some y
  key_keeps xs x n y h = by (list_any (eq x) xs) refl
    where
      by : (b : Bool) → list_any (eq x) xs ≡ b → slice_get (insert_key eq xs x) n ≡ Some y
      by true e = subst (λ l. slice_get l n ≡ Some y) (sym (key_there xs x e)) h
      by false e = subst (λ l. slice_get l n ≡ Some y) (sym (key_new xs x e)) (get_left xs (x ∷ []) n y h)

  pub key_front : (xs : List X) (x : X) → take (length xs) (insert_key eq xs x) ≡ xs
  key_front xs x = insert_front eq xs x

  pub key_grows : (xs : List X) (x : X) → length xs ≤ length (insert_key eq xs x)
  key_grows xs x = by (list_any (eq x) xs) refl
    where
      by : (b : Bool) → list_any (eq x) xs ≡ b → length xs ≤ length (insert_key eq xs x)
      by true e = subst (λ l. length xs ≤ length l) (sym (key_there xs x e)) (omega arith)
      by false e = subst (λ l. length xs ≤ length l) (sym (key_new xs x e)) (omega (arith, length-append xs (x ∷ [])))

  pub key_adds_one : (xs : List X) (x : X) → length (insert_key eq xs x) ≤ length xs + 1
  key_adds_one xs x = by (list_any (eq x) xs) refl
    where
      by : (b : Bool) → list_any (eq x) xs ≡ b → length (insert_key eq xs x) ≤ length xs + 1
      by true e = subst (λ l. length l ≤ length xs + 1) (sym (key_there xs x e)) (omega arith)
      by false e = subst (λ l. length l ≤ length xs + 1) (sym (key_new xs x e)) (omega (arith, length-append xs (x ∷ [])))

  -- what is found stays found
  pub found_still : (xs : List X) (x y : X) → list_any (eq y) xs ≡ true → list_any (eq y) (insert_key eq xs x) ≡ true
  found_still xs x y h =
      listed (insert_key eq xs x) (position_or_len (eq y) xs) y
      (key_keeps xs x (position_or_len (eq y) xs) y (place_there xs y h))

  -- no element stands twice, also after a key was added
  pub once_still : (xs : List X) (x : X)
      → ((n k : ℕ) (y : X) → slice_get xs n ≡ Some y → slice_get xs k ≡ Some y → n ≡ k)
      → (n k : ℕ) (y : X) → slice_get (insert_key eq xs x) n ≡ Some y → slice_get (insert_key eq xs x) k ≡ Some y → n ≡ k
  once_still xs x once n k y h i = by (list_any (eq x) xs) refl
    where
      by : (b : Bool) → list_any (eq x) xs ≡ b → n ≡ k
      by true e =
          let same = key_there xs x e in
          once n k y (subst (λ l. slice_get l n ≡ Some y) same h) (subst (λ l. slice_get l k ≡ Some y) same i)
      by false e =
          let same = key_new xs x e in
          elim (get_grown xs x n y (subst (λ l. slice_get l n ≡ Some y) same h)) [
            | inl a ↦ elim (get_grown xs x k y (subst (λ l. slice_get l k ≡ Some y) same i)) [
              | inl b ↦ once n k y a b
              | inr b ↦ absurd (not_listed xs n x e (subst (λ z. slice_get xs n ≡ Some z) (sym b.1) a))
            ]
            | inr a ↦ elim (get_grown xs x k y (subst (λ l. slice_get l k ≡ Some y) same i)) [
              | inl b ↦ absurd (not_listed xs k x e (subst (λ z. slice_get xs k ≡ Some z) (sym a.1) b))
              | inr b ↦ a.0 ∙ sym b.0
            ]
          ]

  -- an element of the list afterwards is an old one, or the key at the end
  pub key_or_old : (xs : List X) (x : X) (n : ℕ) (y : X) → slice_get (insert_key eq xs x) n ≡ Some y
      → (slice_get xs n ≡ Some y) ⊎ ((n ≡ length xs) × (x ≡ y))
  key_or_old xs x n y h = by (list_any (eq x) xs) refl
    where
      by : (b : Bool) → list_any (eq x) xs ≡ b → (slice_get xs n ≡ Some y) ⊎ ((n ≡ length xs) × (x ≡ y))
      by true e = inl (subst (λ l. slice_get l n ≡ Some y) (key_there xs x e) h)
      by false e = get_grown xs x n y (subst (λ l. slice_get l n ≡ Some y) (key_new xs x e) h)

  -- the only place of an element is the place at which it is found
  pub place_is : (xs : List X) (n : ℕ) (x : X) → slice_get xs n ≡ Some x → ((k : ℕ) → slice_get xs k ≡ Some x → k ≡ n)
      → position_or_len (eq x) xs ≡ n
  place_is xs n x h only = only (position_or_len (eq x) xs) (place_there xs x (listed xs n x h))
