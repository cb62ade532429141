-- First places in lists.
use Rattle.std.proofs.Common.{◌≡◌, ℕ, suc, nat_lt, ◌+◌, ◌<◌, Bool, true, false, cond, List, [], ◌∷◌, ◌++◌, length}
use Rattle.std.proofs.Common.{get_or, Option, Some, None, position, refl, sym, ap, ◌∙◌, arith}
use Rattle.std.proofs.lemmas.Iterator.Adapters.{position_from-zero}
use Rattle.std.proofs.lemmas.List.Sums.{position_or_len_is}
use Rattle.std.proofs.lemmas.Bool.{lt-ltb}
use Rattle.std.specs.List.{position_from, position_or_len}
use Rattle.std.specs.Option.{option_or}

push_step : (b : Bool) (i n : ℕ) (rest more : Option ℕ) (c : Bool)
    → rest ≡ option_or more (cond c (Some (i + 1 + n)) None)
    → cond b (Some i) rest ≡ option_or (cond b (Some i) more) (cond c (Some (i + suc n)) None)
push_step true i n rest more c e = refl
push_step false i n rest more c e =
    let k : i + 1 + n ≡ i + suc n = omega arith in
    e ∙ ap (λ m. option_or more (cond c (Some m) None)) k

position_from-push : {X : Type 0} (p : X → Bool) (i : ℕ) (xs : List X) (y : X)
    → position_from p i (xs ++ y ∷ []) ≡ option_or (position_from p i xs) (cond (p y) (Some (i + length xs)) None)
position_from-push p i [] y =
    let k : i ≡ i + 0 = omega arith in
    ap (λ m. cond (p y) (Some m) None) k
position_from-push p i (x ∷ xs) y = push_step (p x) i (length xs) (position_from p (i + 1) (xs ++ y ∷ [])) (position_from p (i + 1) xs) (p y)
    (position_from-push p (i + 1) xs y)

-- the first place in a list with one more at the end
pub position-push : {X : Type 0} (p : X → Bool) (xs : List X) (y : X)
    → position p (xs ++ y ∷ []) ≡ option_or (position p xs) (cond (p y) (Some (length xs)) None)
position-push p xs y =
    let k : 0 + length xs ≡ length xs = omega arith in
    position_from-zero p (xs ++ y ∷ []) ∙ (position_from-push p 0 xs y ∙ (λ j. option_or (sym (position_from-zero p xs) j) (cond (p y) (Some (k j)) None)))

-- the element at this place is the first that passes
pub position_here : {X : Type 0} (p : X → Bool) (xs : List X) (i : ℕ) (d : X) → i < length xs
    → ((k : ℕ) → k < i → p (get_or xs k d) ≡ false) → p (get_or xs i d) ≡ true → position p xs ≡ Some i
position_here p xs i d l before here =
    let at : position_or_len p xs ≡ i = position_or_len_is p xs i d (omega arith) before (λ _. here) in
    let within : nat_lt (position_or_len p xs) (length xs) ≡ true = lt-ltb _ _ (rw at l) in
    rw within (ap Some at)

place_case : (b : Bool) (n place : ℕ) → cond b (Some n) None ≡ Some place → n ≡ place
place_case true n place e = cc e
place_case false n place e = cc e

-- the place that is told is the first one
pub position_is : {X : Type 0} (p : X → Bool) (xs : List X) (place : ℕ) → position p xs ≡ Some place → position_or_len p xs ≡ place
position_is p xs place e = place_case (nat_lt (position_or_len p xs) (length xs)) (position_or_len p xs) place e

pub position_told : {X : Type 0} (p : X → Bool) (xs : List X) (place : ℕ) → position_or_len p xs ≡ place → place < length xs
    → position p xs ≡ Some place
position_told p xs place e l =
    let within : nat_lt (position_or_len p xs) (length xs) ≡ true = lt-ltb _ _ (rw e l) in
    rw within (ap Some e)
