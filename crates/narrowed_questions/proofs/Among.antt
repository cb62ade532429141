use Rattle.std.proofs.Common.{◌≡◌, ℕ, zero, suc, ◌+◌, ◌<◌, ◌⊎◌, Bool, true, false, not, cond, List, [], ◌∷◌, ◌++◌, map, length, Option, Some, slice_get}
use Rattle.std.proofs.Common.{refl, sym, ap, ◌∙◌, inl, inr, arith}
use Rattle.std.proofs.lemmas.Bool.{false≢true}
use Rattle.std.specs.List.{flat_map, range_with_len, filter, position_or_len, find}

-- x is one of the elements
abbrev pub Among : {X : Type 0} → List X → X → Type 0
Among [] x = ⊥
Among (y ∷ ys) x = (y ≡ x) ⊎ Among ys x

pub among_append_left : {X : Type 0} (xs ys : List X) (x : X) → Among xs x → Among (xs ++ ys) x
among_append_left [] ys x h = absurd h
among_append_left (z ∷ xs) ys x (inl e) = inl e
among_append_left (z ∷ xs) ys x (inr h) = inr (among_append_left xs ys x h)

pub among_append_right : {X : Type 0} (xs ys : List X) (x : X) → Among ys x → Among (xs ++ ys) x
among_append_right [] ys x h = h
among_append_right (z ∷ xs) ys x h = inr (among_append_right xs ys x h)

pub among_map : {X Y : Type 0} (f : X → Y) (xs : List X) (x : X) → Among xs x → Among (map f xs) (f x)
among_map f [] x h = absurd h
among_map f (z ∷ xs) x (inl e) = inl (ap f e)
among_map f (z ∷ xs) x (inr h) = inr (among_map f xs x h)

pub among_range : (a n k : ℕ) → k < n → Among (range_with_len a n) (a + k)
among_range a zero k h = absurd (omega arith)
among_range a (suc n) zero h = inl (omega arith)
among_range a (suc n) (suc k) h =
    let ih = among_range (a + 1) n k (omega arith) in
    let e : a + 1 + k ≡ a + suc k = omega arith in
    inr (rw e at ih)

pub among_flat_map : {X Y : Type 0} (f : X → List Y) (xs : List X) (x : X) (y : Y) → Among xs x → Among (f x) y
    → Among (flat_map f xs) y
among_flat_map f [] x y h k = absurd h
among_flat_map f (z ∷ xs) x y (inl e) k = among_append_left (f z) (flat_map f xs) y (rw e k)
among_flat_map f (z ∷ xs) x y (inr h) k = among_append_right (f z) (flat_map f xs) y (among_flat_map f xs x y h k)

pub among_filter_step : {X : Type 0} (b : Bool) (z x : X) (rest : List X) → (z ≡ x → b ≡ true)
    → (z ≡ x) ⊎ Among rest x → Among (cond b (z ∷ rest) rest) x
among_filter_step true z x rest p h = h
among_filter_step false z x rest p (inl e) = absurd (false≢true (p e))
among_filter_step false z x rest p (inr h) = h

pub among_filter : {X : Type 0} (p : X → Bool) (xs : List X) (x : X) → Among xs x → p x ≡ true → Among (filter p xs) x
among_filter p [] x h t = absurd h
among_filter p (z ∷ xs) x (inl e) t = among_filter_step (p z) z x (filter p xs) (λ d. ap p d ∙ t) (inl e)
among_filter p (z ∷ xs) x (inr h) t = among_filter_step (p z) z x (filter p xs) (λ d. ap p d ∙ t) (inr (among_filter p xs x h t))

-- the first place at which a test passes that only x passes is a place of x
pub get_at_position_step : {X : Type 0} (b : Bool) (z x : X) (xs : List X) (m : ℕ) → (b ≡ true → z ≡ x)
    → (b ≡ false → slice_get xs m ≡ Some x) → slice_get (z ∷ xs) (cond (not b) (1 + m) 0) ≡ Some x
get_at_position_step true z x xs m h k = ap Some (h refl)
get_at_position_step false z x xs m h k =
    let e : 1 + m ≡ suc m = omega arith in
    rw e (k refl)

pub get_at_position : {X : Type 0} (p : X → Bool) (xs : List X) (x : X) → ((y : X) → p y ≡ true → y ≡ x) → p x ≡ true
    → Among xs x
    → slice_get xs (position_or_len p xs) ≡ Some x
get_at_position p [] x only t h = absurd h
get_at_position p (z ∷ xs) x only t (inl e) =
    get_at_position_step (p z) z x xs (position_or_len p xs) (only z) (λ f. absurd (false≢true (sym f ∙ ap p e ∙ t)))
get_at_position p (z ∷ xs) x only t (inr h) =
    get_at_position_step (p z) z x xs (position_or_len p xs) (only z) (λ f. get_at_position p xs x only t h)

pub below_length : {X : Type 0} (xs : List X) (n : ℕ) (x : X) → slice_get xs n ≡ Some x → n < length xs
below_length [] n x e = cc
below_length (y ∷ ys) zero x e = omega arith
below_length (y ∷ ys) (suc n) x e = let h = below_length ys n x e in omega arith

-- what `find` gives stands in the list and passes
pub found_step : {X : Type 0} (p : X → Bool) (b : Bool) (z x : X) (o : Option X) (xs : List X) → p z ≡ b
    → cond b (Some z) o ≡ Some x
    → (o ≡ Some x → (n : ℕ) × (slice_get xs n ≡ Some x) × (p x ≡ true))
    → (n : ℕ) × (slice_get (z ∷ xs) n ≡ Some x) × (p x ≡ true)
found_step p true z x o xs t e k =
    let same : z ≡ x = cc in
    (0, ap Some same, ap p (sym same) ∙ t)
found_step p false z x o xs t e k = let r = k e in (suc r.0, r.1, r.2)

pub found : {X : Type 0} (p : X → Bool) (xs : List X) (x : X) → find p xs ≡ Some x
    → (n : ℕ) × (slice_get xs n ≡ Some x) × (p x ≡ true)
found p [] x e = cc
found p (z ∷ xs) x e = found_step p (p z) z x (find p xs) xs refl e (found p xs x)
