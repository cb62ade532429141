-- Facts of each element of a list, and two lists side by side.
use Rattle.std.proofs.Common.{◌≡◌, ℕ, zero, suc, ◌<◌, Bool, true, false, cond, ◌||◌, List, [], ◌∷◌, ◌++◌, length, map, filter_map, find, slice_get, Option}
use Rattle.std.proofs.Common.{Some, None}
use Rattle.std.proofs.Common.{option_map, refl, sym, ap, subst, ◌∙◌, arith}
use Rattle.std.specs.Prelude.{All, flat_map}
use Rattle.std.proofs.lemmas.Bool.{or_right}
use Rattle.std.specs.List.{list_any, cons_option}
use Rattle.std.proofs.lemmas.Option.{none-some, same_Some, slice_get-map}

-- two lists that are made alike, at one place
pub same_at : {A B C : Type 0} (f : A → C) (g : B → C) (xs : List A) (ys : List B) → map f xs ≡ map g ys → (n : ℕ)
    → option_map f (slice_get xs n) ≡ option_map g (slice_get ys n)
same_at f g xs ys e n = sym (slice_get-map f xs n) ∙ (ap (λ list. slice_get list n) e ∙ slice_get-map g ys n)

-- a fact of each element
abbrev pub Each : {X : Type 0} → (X → Type 0) → List X → Type 0
Each P [] = Unit {0}
Each P (x ∷ xs) = P x × Each P xs

pub each_of_all : {X : Type 0} (P : X → Type 0) (xs : List X) → All P xs → Each P xs
each_of_all P [] all = tt
each_of_all P (x ∷ xs) all =
    (all 0 x (omega arith), each_of_all P xs (λ k d l. let more : suc k < suc (length xs) = omega (arith, l) in all (suc k) d more))

pub each_at : {X : Type 0} (P : X → Type 0) (xs : List X) → Each P xs → (n : ℕ) (x : X) → slice_get xs n ≡ Some x → P x
each_at P [] each n x at = absurd (none-some x at)
each_at P (y ∷ xs) each zero x at = subst P (same_Some y x at) each.0
each_at P (y ∷ xs) each (suc n) x at = each_at P xs each.1 n x at

pub each_both : {X : Type 0} (P Q : X → Type 0) (xs : List X) → Each P xs → Each Q xs → Each (λ x. P x × Q x) xs
each_both P Q [] p q = tt
each_both P Q (x ∷ xs) p q = ((p.0, q.0), each_both P Q xs p.1 q.1)

pub each_more : {X : Type 0} (P Q : X → Type 0) → ((x : X) → P x → Q x) → (xs : List X) → Each P xs → Each Q xs
each_more P Q so [] each = tt
each_more P Q so (x ∷ xs) each = (so x each.0, each_more P Q so xs each.1)

-- what is kept of each element
kept_one : {Y : Type 0} (Q : Y → Type 0) (o : Option Y) (ys : List Y) → ((y : Y) → o ≡ Some y → Q y) → Each Q ys
    → Each Q (cons_option o ys)
kept_one Q None ys so each = each
kept_one Q (Some y) ys so each = (so y refl, each)

pub each_kept : {X Y : Type 0} (f : X → Option Y) (P : X → Type 0) (Q : Y → Type 0)
    → ((x : X) (y : Y) → P x → f x ≡ Some y → Q y) → (xs : List X) → Each P xs → Each Q (filter_map f xs)
each_kept f P Q so [] each = tt
each_kept f P Q so (x ∷ xs) each =
    kept_one Q (f x) (filter_map f xs) (λ y e. so x y each.0 e) (each_kept f P Q so xs each.1)

-- what is made of each element
pub each_mapped : {X Y : Type 0} (f : X → Y) (P : Y → Type 0) (xs : List X) → Each P (map f xs) → Each (λ x. P (f x)) xs
each_mapped f P [] each = tt
each_mapped f P (x ∷ xs) each = (each.0, each_mapped f P xs each.1)

-- no element passes a test
pub none_passes : {X : Type 0} (test : X → Bool) (xs : List X) → Each (λ x. test x ≡ false) xs → list_any test xs
    ≡ false
none_passes test [] each = refl
none_passes test (x ∷ xs) each = ap (λ b. b || list_any test xs) each.0 ∙ none_passes test xs each.1

-- lists that are empty together

pub both_empty : {X : Type 0} (xs ys : List X) → xs ++ ys ≡ [] → (xs ≡ []) × (ys ≡ [])
both_empty [] ys e = (refl, e)
both_empty (x ∷ xs) ys e = cc

pub each_empty : {X Y : Type 0} (f : X → List Y) (xs : List X) → flat_map f xs ≡ [] → Each (λ x. f x ≡ []) xs
each_empty f [] e = tt
each_empty f (x ∷ xs) e =
    let both = both_empty (f x) (flat_map f xs) e in
    (both.0, each_empty f xs both.1)

-- the same elements kept, by what is made of them
pub kept_same : {X Y : Type 0} (f g : X → Option Y) → ((x : X) → f x ≡ g x) → (xs : List X) → filter_map f xs
    ≡ filter_map g xs
kept_same f g same xs = ap (λ (h : _ → Option _). filter_map h xs) (λ j x. same x j)

pub mapped_same : {X Y : Type 0} (f g : X → Y) (xs : List X) → Each (λ x. f x ≡ g x) xs → map f xs ≡ map g xs
mapped_same f g [] same = refl
mapped_same f g (x ∷ xs) same = λ j. same.0 j ∷ mapped_same f g xs same.1 j

pub each_true : {X : Type 0} (xs : List X) → Each (λ (x : X). Unit {0}) xs
each_true [] = tt
each_true (x ∷ xs) = (tt, each_true xs)

pub all_of_each : {X : Type 0} (P : X → Type 0) (xs : List X) → Each P xs → All P xs
all_of_each P [] each k d l = absurd (let h : k < 0 = l in omega (arith, h))
all_of_each P (x ∷ xs) each zero d l = each.0
all_of_each P (x ∷ xs) each (suc k) d l = all_of_each P xs each.1 k d (let h : suc k < suc (length xs) = l in omega (arith, h))

-- what is found has the fact
pub each_found : {X : Type 0} (P : X → Type 0) (test : X → Bool) (xs : List X) → Each P xs → (x : X) → find test xs
    ≡ Some x → P x
each_found P test [] each x e = absurd (none-some x e)
each_found {X = X} P test (y ∷ xs) each x e = by (test y) (each_found P test xs each.1 x) e
  where
    by : (b : Bool) → (find test xs ≡ Some x → P x) → cond b (Some y) (find test xs) ≡ Some x → P x
    by true later h = subst P (same_Some y x h) each.0
    by false later h = later h

-- an element at a place that passes a test
pub any_at : {X : Type 0} (test : X → Bool) (xs : List X) (n : ℕ) (x : X) → slice_get xs n ≡ Some x → test x ≡ true
    → list_any test xs ≡ true
any_at test [] n x at passes = absurd (none-some x at)
any_at test (y ∷ xs) zero x at passes =
    ap (λ z. test z || list_any test xs) (same_Some y x at) ∙ ap (λ b. b || list_any test xs) passes
any_at test (y ∷ xs) (suc n) x at passes = or_right (test y) (list_any test xs) (any_at test xs n x at passes)
