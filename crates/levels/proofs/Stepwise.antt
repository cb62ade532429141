-- Lists that grow by what each element gives.

use Rattle.std.proofs.Common.{◌≡◌, ℕ, zero, suc, ◌+◌, ◌<◌, ◌≤◌, Bool, true, false, not, cond, IsTrue, ◌↔◌, ◌==◌, List}
use Rattle.std.proofs.Common.{[], ◌∷◌, ◌++◌, length, take, drop, get_or, None, slice_get, map, filter, refl, sym, ap, subst, ◌∙◌, arith}
use Rattle.std.proofs.Common.{append_assoc, Result}
use Rattle.std.specs.Prelude.{IfOk, slice_index_or}
use Rattle.std.proofs.lemmas.Bool.{false≢true, eq-eqb, ne_eqb}
use Rattle.std.proofs.Math.Seq.{drop-cons}
use Rattle.std.proofs.lemmas.List.{take_more, map-append, append-nil, drop_all, length-map}
use Rattle.std.proofs.lemmas.List.FromFn.{map-range_with_len_more}
use Rattle.std.proofs.lemmas.Grind.{flat_map-append}
use Rattle.std.proofs.lemmas.Nat.Bits.{bit_at_above}
use Rattle.std.specs.List.{flat_map, range_with_len}
use Rattle.port_types.specs.declared.sets.Set24.{Set24}
use Rattle.port_types.specs.Sets.{has_place}
use Rattle.levels.specs.LevelQuestions.{outside_set}

grown : {A : Type 0} (old now after made whole : List A) (x : List A) → now ≡ old ++ made → after ≡ now ++ x → whole ≡ made ++ x
    → after ≡ old ++ whole
grown old now after made whole x e f g =
    f ∙ (ap (λ l. l ++ x) e ∙ (append_assoc old made x ∙ ap (λ l. old ++ l) (sym g)))

pub mapped_on : {X A : Type 0} (f : X → A) (old now after : List A) (xs : List X) (i : ℕ) (d x : X) → i < length xs → get_or xs i d ≡ x
    → now ≡ old ++ map f (take i xs) → after ≡ now ++ f x ∷ [] → after ≡ old ++ map f (take (i + 1) xs)
mapped_on f old now after xs i d x l g e h =
    let whole = ap (map f) (take_more xs i d l ∙ ap (λ y. take i xs ++ y ∷ []) g) ∙ map-append f (take i xs) (x ∷ []) in
    grown old now after (map f (take i xs)) (map f (take (i + 1) xs)) (f x ∷ []) e h whole

pub read_on : {X A : Type 0} (f : X → List A) (old now after : List A) (xs : List X) (i : ℕ) (d x : X) → i < length xs → get_or xs i d ≡ x
    → now ≡ old ++ flat_map f (take i xs) → after ≡ now ++ f x → after ≡ old ++ flat_map f (take (i + 1) xs)
read_on f old now after xs i d x l g e h =
    let whole = ap (flat_map f) (take_more xs i d l ∙ ap (λ y. take i xs ++ y ∷ []) g)
    ∙ (flat_map-append f (take i xs) (x ∷ []) ∙ ap (λ y. flat_map f (take i xs) ++ y) (append-nil (f x))) in
    grown old now after (flat_map f (take i xs)) (flat_map f (take (i + 1) xs)) (f x) e h whole

-- what is still to come begins with the element here
pub to_come : {X : Type 0} (xs : List X) (i : ℕ) (d x : X) → i < length xs → get_or xs i d ≡ x → drop i xs ≡ x ∷ drop (i + 1) xs
to_come xs i d x l g =
    let next : suc i ≡ i + 1 = omega arith in
    drop-cons xs i d l ∙ (ap (λ y. y ∷ drop (suc i) xs) g ∙ ap (λ n. x ∷ drop n xs) next)

-- an element that is put or passed over, and what is still to come
put_or_not : {X A : Type 0} (f : X → A) (now after whole : List A) (x : X) (rest : List X) (b : Bool)
    → now ++ map f (cond b (x ∷ rest) rest) ≡ whole → after ≡ now ++ cond b (f x ∷ []) [] → after ++ map f rest ≡ whole
put_or_not f now after whole x rest true e h = ap (λ l. l ++ map f rest) h ∙ (append_assoc now (f x ∷ []) (map f rest) ∙ e)
put_or_not f now after whole x rest false e h = ap (λ l. l ++ map f rest) (h ∙ append-nil now) ∙ e

pub filtered_on : {X A : Type 0} (f : X → A) (p : X → Bool) (now after whole : List A) (xs : List X) (i : ℕ) (d x : X) → i < length xs
    → get_or xs i d ≡ x → now ++ map f (filter p (drop i xs)) ≡ whole → after ≡ now ++ cond (p x) (f x ∷ []) []
    → after ++ map f (filter p (drop (i + 1) xs)) ≡ whole
filtered_on f p now after whole xs i d x l g e h =
    put_or_not f now after whole x (filter p (drop (i + 1) xs)) (p x)
    (ap (λ l. now ++ map f (filter p l)) (sym (to_come xs i d x l g)) ∙ e) h

pub filtered_all : {X A : Type 0} (f : X → A) (p : X → Bool) (now whole : List A) (xs : List X) (i : ℕ) → length xs ≤ i
    → now ++ map f (filter p (drop i xs)) ≡ whole → now ≡ whole
filtered_all f p now whole xs i l e =
    sym (append-nil now) ∙ (ap (λ l. now ++ map f (filter p l)) (sym (drop_all i xs l)) ∙ e)

turned : {A : Type 0} (b : Bool) (x : List A) → cond (not b) x [] ≡ cond b [] x
turned true x = refl
turned false x = refl

pub kept_on : {X A : Type 0} (f : X → A) (set : Set24) (now after whole : List A) (xs : List X) (i : ℕ) (d x : X) → i < length xs
    → get_or xs i d ≡ x → now ++ map f (outside_set set i (drop i xs)) ≡ whole → after ≡ now ++ cond (has_place set i) [] (f x ∷ [])
    → after ++ map f (outside_set set (i + 1) (drop (i + 1) xs)) ≡ whole
kept_on f set now after whole xs i d x l g e h =
    let rest = outside_set set (i + 1) (drop (i + 1) xs) in
    put_or_not f now after whole x rest (not (has_place set i))
    (ap (λ l. now ++ map f l) (other (has_place set i) rest x ∙ ap (outside_set set i) (sym (to_come xs i d x l g))) ∙ e)
    (h ∙ ap (λ l. now ++ l) (sym (turned (has_place set i) (f x ∷ [])))) where
      other : {X : Type 0} (b : Bool) (rest : List X) (x : X) → cond (not b) (x ∷ rest) rest ≡ cond b rest (x ∷ rest)
      other true rest x = refl
      other false rest x = refl

pub kept_all : {X A : Type 0} (f : X → A) (set : Set24) (now whole : List A) (xs : List X) (i : ℕ) → length xs ≤ i
    → now ++ map f (outside_set set i (drop i xs)) ≡ whole → now ≡ whole
kept_all f set now whole xs i l e =
    sym (append-nil now) ∙ (ap (λ l. now ++ map f (outside_set set i l)) (sym (drop_all i xs l)) ∙ e)

-- a test that says whether a bit is 1
pub same_test : (r : Bool) (n : ℕ) → IsTrue r ↔ (n ≡ 1) → r ≡ (n == 1)
same_test true n h = sym (eq-eqb n 1 (h.0 refl))
same_test false n h = sym (ne_eqb n 1 (λ e. false≢true (h.1 e)))

-- two pieces that were put one after the other
pub put_two : {A : Type 0} (old mid new a b : List A) → mid ≡ old ++ a → new ≡ mid ++ b → new ≡ old ++ (a ++ b)
put_two old mid new a b e f = f ∙ (ap (λ l. l ++ b) e ∙ append_assoc old a b)

-- one number more of a range
pub ranged_on : {A : Type 0} (f : ℕ → A) (now after : List A) (k : ℕ) → now ≡ map f (range_with_len 0 k) → after ≡ now ++ f k ∷ []
    → after ≡ map f (range_with_len 0 (k + 1))
ranged_on f now after k e h =
    h ∙ (ap (λ l. l ++ f k ∷ []) e ∙ sym (map-range_with_len_more f 0 k k (omega arith)))

-- a range as long as a list is as long as the list's image
pub ranged_whole : {X Y A : Type 0} (f : ℕ → A) (g : X → Y) (now : List A) (k : ℕ) (xs : List X) → k ≡ length xs
    → now ≡ map f (range_with_len 0 k) → now ≡ map f (range_with_len 0 (length (map g xs)))
ranged_whole f g now k xs e h = h ∙ ap (λ n. map f (range_with_len 0 n)) (e ∙ sym (length-map xs g))

-- a number past all places is in no set
pub past_set : (set : Set24) (p : ℕ) → 24 ≤ p → false ≡ has_place set p
past_set set p l = sym (ap (λ n. n == 1) (bit_at_above set.bits 24 p set.in_range l))

-- a choice that was made
pub chosen_first : {A E : Type 0} (r : Result A E) (x y : A) (b : Bool) → b ≡ true → IfOk r (λ v. v ≡ x) → IfOk r (λ v. v ≡ cond b x y)
chosen_first r x y b e h = subst (λ (t : Bool). IfOk r (λ v. v ≡ cond t x y)) (sym e) h

pub chosen_second : {A E : Type 0} (r : Result A E) (x y : A) (b : Bool) → b ≡ false → IfOk r (λ v. v ≡ y) → IfOk r (λ v. v ≡ cond b x y)
chosen_second r x y b e h = subst (λ (t : Bool). IfOk r (λ v. v ≡ cond t x y)) (sym e) h

-- where there is nothing at a place, the read gives what stands for nothing
pub none_there : {X : Type 0} (xs : List X) (n : ℕ) (d : X) → None ≡ slice_get xs n → d ≡ slice_index_or xs n d
none_there [] zero d e = refl
none_there [] (suc n) d e = refl
none_there (x ∷ xs) zero d e = cc
none_there (x ∷ xs) (suc n) d e = none_there xs n d e

pub none_mapped : {X Y : Type 0} (g : X → Y) (xs : List X) (n : ℕ) (d : Y) → None ≡ slice_get xs n → d ≡ slice_index_or (map g xs) n d
none_mapped g [] zero d e = refl
none_mapped g [] (suc n) d e = refl
none_mapped g (x ∷ xs) zero d e = cc
none_mapped g (x ∷ xs) (suc n) d e = none_mapped g xs n d e
