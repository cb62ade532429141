-- Lists: first places, and lists cut in two.
use Rattle.std.proofs.Common.{◌≡◌, ℕ, zero, suc, nat_lt, min, ◌+◌, ◌<◌, ◌≤◌, Bool, true, false, not, ◌||◌, cond, ltb, List, [], ◌∷◌, ◌++◌, length, map}
use Rattle.std.proofs.Common.{filter_map, find, slice_get, option_map, option_and_then, take, drop, get_or, Option, Some, None, is_some, position, refl, sym}
use Rattle.std.proofs.Common.{ap, subst, ◌∙◌, arith, add-one, drop-cons}
use Rattle.std.proofs.lemmas.List.{take_more, map_more, length-map, length-take, get_or-map, get_or-take}
use Rattle.std.proofs.lemmas.List.Quantifiers.{position-Some}
use Rattle.std.proofs.lemmas.Iterator.Adapters.{position_from-zero}
use Rattle.std.proofs.lemmas.List.Folds.{find_at}
use Rattle.std.proofs.lemmas.Option.{slice_get_past, slice_get-map, slice_get-get_or, none-some}
use Rattle.std.specs.List.{position_from, list_any, position_or_len, prefix_len, cons_option}
use Rattle.std.proofs.lemmas.Bool.{lt-ltb, le-ltb, ltb-false}
use Rattle.std.specs.Option.{option_or, option_map_or}

-- the first place in a list with one more at the end

push_step : (b : Bool) (i n : ℕ) (rest more : Option ℕ) (c : Bool)
    → rest ≡ option_or more (cond c (Some (i + 1 + n)) None)
    → cond b (Some i) rest ≡ option_or (cond b (Some i) more) (cond c (Some (i + suc n)) None)
push_step true i n rest more c e = refl
push_step false i n rest more c e =
    let k : i + 1 + n ≡ i + suc n = omega arith in
    e ∙ ap (λ m. option_or more (cond c (Some m) None)) k

pub position_from-push : {X : Type 0} (p : X → Bool) (i : ℕ) (xs : List X) (y : X)
    → position_from p i (xs ++ y ∷ []) ≡ option_or (position_from p i xs) (cond (p y) (Some (i + length xs)) None)
position_from-push p i [] y =
    let k : i ≡ i + 0 = omega arith in
    ap (λ m. cond (p y) (Some m) None) k
position_from-push p i (x ∷ xs) y = push_step (p x) i (length xs) (position_from p (i + 1) (xs ++ y ∷ [])) (position_from p (i + 1) xs) (p y)
    (position_from-push p (i + 1) xs y)

pub position-push : {X : Type 0} (p : X → Bool) (xs : List X) (y : X)
    → position p (xs ++ y ∷ []) ≡ option_or (position p xs) (cond (p y) (Some (length xs)) None)
position-push p xs y =
    let k : 0 + length xs ≡ length xs = omega arith in
    position_from-zero p (xs ++ y ∷ []) ∙ (position_from-push p 0 xs y ∙ (λ j. option_or (sym (position_from-zero p xs) j) (cond (p y) (Some (k j)) None)))

-- there is a first place exactly where some element passes

any_step : (b r : Bool) (i : ℕ) (rest : Option ℕ) → is_some rest ≡ r → is_some (cond b (Some i) rest) ≡ (b || r)
any_step true r i rest e = refl
any_step false r i rest e = e

position_from-any : {X : Type 0} (p : X → Bool) (i : ℕ) (xs : List X) → is_some (position_from p i xs) ≡ list_any p xs
position_from-any p i [] = refl
position_from-any p i (x ∷ xs) = any_step (p x) (list_any p xs) i (position_from p (i + 1) xs) (position_from-any p (i + 1) xs)

pub position-any : {X : Type 0} (p : X → Bool) (xs : List X) → is_some (position p xs) ≡ list_any p xs
position-any p xs = ap is_some (position_from-zero p xs) ∙ position_from-any p 0 xs

-- this is the element of a list at a place
pub record IsItemAt {X : Type 0} (xs : List X) (i : ℕ) (x : X) : Type 0 where
  pub within : i < length xs
  pub same : x ≡ get_or xs i x

-- what is left of a list at one of its elements
pub drop_here : {X : Type 0} (xs : List X) (i : ℕ) (x : X) → i < length xs → x ≡ get_or xs i x
    → drop i xs ≡ x ∷ drop (i + 1) xs
drop_here xs i x l e = drop-cons xs i x l ∙ (λ j. sym e j ∷ drop (sym (add-one i) j) xs)

-- what stands before place i of those that pass: the first that passes stands there
before_step : (b r : Bool) (j i k : ℕ) (rest : Option ℕ) → j < k → option_map_or (λ m. nat_lt m k) rest false ≡ r
    → option_map_or (λ m. nat_lt m k) (cond b (Some j) rest) false ≡ (b || r)
before_step true r j i k rest l e = lt-ltb j k l
before_step false r j i k rest l e = e

never_step : (b : Bool) (j k : ℕ) (rest : Option ℕ) → k ≤ j → option_map_or (λ m. nat_lt m k) rest false ≡ false
    → option_map_or (λ m. nat_lt m k) (cond b (Some j) rest) false ≡ false
never_step true j k rest l e = le-ltb j k l
never_step false j k rest l e = e

never_before : {X : Type 0} (p : X → Bool) (j k : ℕ) (xs : List X) → k ≤ j
    → option_map_or (λ m. nat_lt m k) (position_from p j xs) false ≡ false
never_before p j k [] l = refl
never_before p j k (x ∷ xs) l = never_step (p x) j k (position_from p (j + 1) xs) l (never_before p (j + 1) k xs (omega arith))

first_before : {X : Type 0} (p : X → Bool) (j i : ℕ) (xs : List X)
    → option_map_or (λ m. nat_lt m (j + i)) (position_from p j xs) false ≡ list_any p (take i xs)
first_before p j zero xs = never_before p j (j + 0) xs (omega arith)
first_before p j (suc i) [] = refl
first_before p j (suc i) (x ∷ xs) =
    let k : (j + 1) + i ≡ j + suc i = omega arith in
    before_step (p x) (list_any p (take i xs)) j i (j + suc i) (position_from p (j + 1) xs) (omega arith)
    (ap (λ n. option_map_or (λ m. nat_lt m n) (position_from p (j + 1) xs) false) (sym k) ∙ first_before p (j + 1) i xs)

pub position_before : {X : Type 0} (p : X → Bool) (i : ℕ) (xs : List X)
    → option_map_or (λ m. nat_lt m i) (position p xs) false ≡ list_any p (take i xs)
position_before p i xs =
    let k : i ≡ 0 + i = omega arith in
    (λ j. option_map_or (λ m. nat_lt m (k j)) (position_from-zero p xs j) false) ∙ first_before p 0 i xs

-- what f makes of the elements up to one more, and of the one at a place
pub map_taken : {X Y : Type 0} (f : X → Y) (xs : List X) (i : ℕ) (x : X) → i < length xs → x ≡ get_or xs i x
    → map f (take (i + 1) xs) ≡ map f (take i xs) ++ f x ∷ []
map_taken {Y = Y} f xs i x l e = map_more f xs i x l ∙ ap (λ y. map f (take i xs) ++ f y ∷ []) (sym e)

pub mapped_within : {X Y : Type 0} (f : X → Y) (xs : List X) (i : ℕ) → i < length xs → i < length (map f xs)
mapped_within f xs i l = subst (λ n. i < n) (sym (length-map xs f)) l

pub mapped_at : {X Y : Type 0} (f : X → Y) (xs : List X) (i : ℕ) (x : X) → i < length xs → x ≡ get_or xs i x
    → f x ≡ get_or (map f xs) i (f x)
mapped_at f xs i x l e = ap f e ∙ sym (get_or-map f xs i x (f x) l)

-- lists made from lists

pub filter_map-map : {A B C : Type 0} (f : B → Option C) (g : A → B) (xs : List A)
    → filter_map f (map g xs) ≡ filter_map (λ x. f (g x)) xs
filter_map-map f g [] = refl
filter_map-map f g (x ∷ xs) = ap (cons_option (f (g x))) (filter_map-map f g xs)

option_map_step : {B C : Type 0} (h : B → C) (o : Option B) (rest : List B) (more : List C) → more ≡ map h rest
    → cons_option (option_map h o) more ≡ map h (cons_option o rest)
option_map_step h None rest more e = e
option_map_step h (Some y) rest more e = ap (λ list. h y ∷ list) e

pub filter_map-option_map : {A B C : Type 0} (h : B → C) (f : A → Option B) (xs : List A)
    → filter_map (λ x. option_map h (f x)) xs ≡ map h (filter_map f xs)
filter_map-option_map h f [] = refl
filter_map-option_map h f (x ∷ xs) = option_map_step h (f x) (filter_map f xs) (filter_map (λ y. option_map h (f y)) xs) (filter_map-option_map h f xs)

prefix_len-map : {X Y : Type 0} (p : Y → Bool) (f : X → Y) (xs : List X)
    → prefix_len p (map f xs) ≡ prefix_len (λ x. p (f x)) xs
prefix_len-map p f [] = refl
prefix_len-map p f (x ∷ xs) = ap (λ n. cond (p (f x)) (1 + n) 0) (prefix_len-map p f xs)

pub position-map : {X Y : Type 0} (p : Y → Bool) (f : X → Y) (xs : List X)
    → position p (map f xs) ≡ position (λ x. p (f x)) xs
position-map p f xs =
    ap (λ n. cond (ltb n (length (map f xs))) (Some n) None) (prefix_len-map (λ y. not (p y)) f xs)
    ∙ ap (λ m. cond (ltb (prefix_len (λ x. not (p (f x))) xs) m) (Some (prefix_len (λ x. not (p (f x))) xs)) None) (length-map xs f)

placed : {X : Type 0} (xs : List X) (n : ℕ) (b : Bool) → ltb n (length xs) ≡ b
    → slice_get xs n ≡ option_and_then (slice_get xs) (cond (ltb n (length xs)) (Some n) None)
placed xs n true e = sym (ap (λ t. option_and_then (slice_get xs) (cond t (Some n) None)) e)
placed xs n false e = slice_get_past xs n (ltb-false n (length xs) e) ∙ sym (ap (λ t. option_and_then (slice_get xs) (cond t (Some n) None)) e)

pub find-by_position : {X : Type 0} (p : X → Bool) (xs : List X)
    → find p xs ≡ option_and_then (slice_get xs) (position p xs)
find-by_position p xs = find_at p xs ∙ placed xs (position_or_len p xs) (ltb (position_or_len p xs) (length xs)) refl

-- one more of what f makes
pub taken_one : {X Y : Type 0} (f : X → Y) (xs : List X) (i : ℕ) (x : X) → i < length xs → x ≡ get_or xs i x
    → take (i + 1) (map f xs) ≡ take i (map f xs) ++ f x ∷ []
taken_one f xs i x l e = take_more (map f xs) i (f x) (mapped_within f xs i l) ∙ ap (λ y. take i (map f xs) ++ y ∷ []) (sym (mapped_at f xs i x l e))

-- what f makes of an element before place i, which is the first that passes, where f is b of each that passes
pub first_seen : {X Y : Type 0} (p : X → Bool) (f : X → Y) (y : Y) (xs : List X) (i k : ℕ)
    → ((x : X) → p x ≡ true → f x ≡ y)
    → position p xs ≡ Some k → k < length (map f (take i xs)) → slice_get (map f (take i xs)) k ≡ Some y
first_seen p f y [] i k gives at l = absurd (none-some k at)
first_seen {X = X} p f y (x ∷ xs) i k gives at l =
    let here = position-Some p (x ∷ xs) k x at in
    let short : length (map f (take i (x ∷ xs))) ≡ min i (length (x ∷ xs)) = length-map (take i (x ∷ xs)) f ∙ length-take i (x ∷ xs) in
    let within : k < length (take i (x ∷ xs)) = subst (λ n. k < n) (length-map (take i (x ∷ xs)) f) l in
    let below : k < i = omega (arith, short, l) in
    slice_get-map f (take i (x ∷ xs)) k
    ∙ (ap (option_map f) (slice_get-get_or (take i (x ∷ xs)) k x within ∙ ap (λ (z : X). Some z) (get_or-take i (x ∷ xs) k x below))
    ∙ ap (λ z. Some z) (gives (get_or (x ∷ xs) k x) here.1))

-- tests of elements
pub list_any-map : {X Y : Type 0} (p : Y → Bool) (f : X → Y) (xs : List X)
    → list_any p (map f xs) ≡ list_any (λ x. p (f x)) xs
list_any-map p f [] = refl
list_any-map p f (x ∷ xs) = ap (λ b. p (f x) || b) (list_any-map p f xs)

pub list_any-same : {X : Type 0} (p q : X → Bool) → ((x : X) → p x ≡ q x) → (xs : List X)
    → list_any p xs ≡ list_any q xs
list_any-same p q same xs = λ j. list_any (λ x. same x j) xs

pub position_within : {X : Type 0} (p : X → Bool) (xs : List X) (k : ℕ) → position p xs ≡ Some k → k < length xs
position_within p [] k at = absurd (none-some k at)
position_within p (x ∷ xs) k at = (position-Some p (x ∷ xs) k x at).0
