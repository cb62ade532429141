use Rattle.std.proofs.Common.{◌≡◌, ℕ, zero, suc, ◌+◌, ◌<◌, List, [], ◌∷◌, ◌++◌, length, take, get_or, min, refl, ap, ◌∙◌, arith}
use Rattle.std.specs.List.{flat_map, zip}
use Rattle.std.proofs.lemmas.List.{flat_map_more, get_or_default}

-- Loops over two lists side by side.

zip_taken : {X Y : Type 0} (xs : List X) (ys : List Y) (i : ℕ) (x : X) (y : Y) → i < length xs → i < length ys
    → x ≡ get_or xs i x → y ≡ get_or ys i y
    → take i (zip xs ys) ++ (x, y) ∷ [] ≡ take (i + 1) (zip xs ys)
zip_taken [] ys i x y l m e f = absurd (omega arith)
zip_taken (a ∷ xs) [] i x y l m e f = absurd (omega arith)
zip_taken (a ∷ xs) (b ∷ ys) zero x y l m e f = cc (e, f)
zip_taken (a ∷ xs) (b ∷ ys) (suc i) x y l m e f =
    let z : suc i + 1 ≡ suc (i + 1) = omega arith in
    rw z (ap (λ u. (a, b) ∷ u) (zip_taken xs ys i x y (omega arith) (omega arith) e f))

-- one more pair
pub zip_more : {X Y A : Type 0} (f : X × Y → List A) (old now : List A) (xs : List X) (ys : List Y) (i : ℕ) (x : X) (y : Y) → i < length xs → i < length ys
    → x ≡ get_or xs i x → y ≡ get_or ys i y → now ≡ old ++ flat_map f (take i (zip xs ys))
    → now ++ f (x, y) ≡ old ++ flat_map f (take (i + 1) (zip xs ys))
zip_more f old now xs ys i x y l m e g h =
    rw h (flat_map_more f old (take i (zip xs ys)) (x, y) ∙ ap (λ u. old ++ flat_map f u) (zip_taken xs ys i x y l m e g))

-- the same, where the second of the pair is read with a default
pub zip_more_read : {X Y A : Type 0} (f : X × Y → List A) (old now : List A) (xs : List X) (ys : List Y) (i : ℕ) (x : X) (d : Y) → i < length xs → i < length ys
    → x ≡ get_or xs i x → now ≡ old ++ flat_map f (take i (zip xs ys))
    → now ++ f (x, get_or ys i d) ≡ old ++ flat_map f (take (i + 1) (zip xs ys))
zip_more_read f old now xs ys i x d l m e h = zip_more f old now xs ys i x (get_or ys i d) l m e (get_or_default ys i d (get_or ys i d) m) h

-- all pairs
pub zip_whole : {X Y : Type 0} (xs : List X) (ys : List Y) (n : ℕ) → n ≡ min (length xs) (length ys)
    → take n (zip xs ys) ≡ zip xs ys
zip_whole [] ys n e = let z : n ≡ 0 = omega arith in rw z refl
zip_whole (a ∷ xs) [] n e = let z : n ≡ 0 = omega arith in rw z refl
zip_whole (a ∷ xs) (b ∷ ys) zero e = absurd (omega arith)
zip_whole (a ∷ xs) (b ∷ ys) (suc n) e = ap (λ u. (a, b) ∷ u) (zip_whole xs ys n (omega arith))
