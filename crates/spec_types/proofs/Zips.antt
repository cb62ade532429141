-- Lists that are made of what two others give, side by side.

use Rattle.std.proofs.Common.{◌≡◌, ℕ, zero, suc, ◌+◌, ◌≤◌, List, [], ◌∷◌, ◌++◌, length, take, drop, map, slice_get, Option, Some, None, option_map, refl, sym}
use Rattle.std.proofs.Common.{ap, ◌∙◌, arith}
use Rattle.std.proofs.lemmas.List.{take_all, length-map}
use Rattle.std.proofs.lemmas.Option.{slice_get-map, slice_get_past}
use Rattle.std.specs.List.{zip, cons_option, flat_map}
use Rattle.std.specs.Option.{option_map_or}
use Rattle.oss_base.specs.declared.sites.FaultSite.{FaultSite}
use Rattle.spec_names.specs.Noting.{noted}
use Rattle.spec_types.specs.Tables.{both}
use Rattle.spec_types.proofs.Walking.{noted-append}
use Rattle.spec_types.proofs.Counting.{taken_more}

pub drop-nil : {P : Type 0} (i : ℕ) → drop {A = P} i [] ≡ []
drop-nil zero = refl
drop-nil (suc i) = refl

pub no_item : {P : Type 0} (i : ℕ) → slice_get {X = P} [] i ≡ None
no_item i = slice_get_past [] i (omega arith)

both_none : {A B : Type 0} (o : Option A) → both {A = A} {B = B} o None ≡ None
both_none None = refl
both_none (Some a) = refl

pub zip_at : {A B : Type 0} (xs : List A) (ys : List B) (i : ℕ)
    → slice_get (zip xs ys) i ≡ both (slice_get xs i) (slice_get ys i)
zip_at [] ys i = no_item i ∙ ap (λ o. both o (slice_get ys i)) (sym (no_item i))
zip_at (x ∷ xs) [] i = no_item i ∙ (sym (both_none (slice_get (x ∷ xs) i)) ∙ ap (both (slice_get (x ∷ xs) i)) (sym (no_item i)))
zip_at (x ∷ xs) (y ∷ ys) zero = refl
zip_at (x ∷ xs) (y ∷ ys) (suc i) = zip_at xs ys i

pub zip_short : {A B : Type 0} (xs : List A) (ys : List B) → length (zip xs ys) ≤ length xs
zip_short [] ys = omega arith
zip_short (x ∷ xs) [] = omega arith
zip_short (x ∷ xs) (y ∷ ys) = let rest = zip_short xs ys in omega (arith, rest)

-- one more of what `f` gives of both
pub zipped_more : {A B C : Type 0} (f : A × B → C) (xs : List A) (ys : List B) (made more : List C) (i : ℕ)
    → more ≡ made ++ cons_option (option_map f (both (slice_get xs i) (slice_get ys i))) []
    → made ≡ take i (map f (zip xs ys))
    → more ≡ take (i + 1) (map f (zip xs ys))
zipped_more f xs ys made more i put so =
    taken_more (map f (zip xs ys)) made more i so
    (put ∙ ap (λ o. made ++ cons_option o []) (sym (slice_get-map f (zip xs ys) i ∙ ap (option_map f) (zip_at xs ys i))))

pub zipped_all : {A B C : Type 0} (f : A × B → C) (xs : List A) (ys : List B) (made : List C) (i : ℕ) → length xs ≤ i
    → made ≡ take i (map f (zip xs ys)) → made ≡ map f (zip xs ys)
zipped_all f xs ys made i past so =
    so ∙ take_all i (map f (zip xs ys)) (let short = zip_short xs ys in let same = length-map (zip xs ys) f in omega (arith, short, same))

-- what each pair notes

pub record NotedBoth {P : Type 0} (f : P → List FaultSite) (pairs : List P) (before now : Option FaultSite)
    (i : ℕ) : Type 0 where
  pub all : noted (flat_map f (drop i pairs)) now ≡ noted (flat_map f pairs) before

pub noted_both_start : {P : Type 0} (f : P → List FaultSite) (pairs : List P) (before : Option FaultSite)
    → NotedBoth f pairs before before 0
noted_both_start f pairs before = record { all = refl }

pub drop_here : {P A : Type 0} (f : P → List A) (pairs : List P) (i : ℕ)
    → flat_map f (drop i pairs) ≡ option_map_or f (slice_get pairs i) [] ++ flat_map f (drop (i + 1) pairs)
drop_here f [] i =
    ap (flat_map f) (drop-nil i ∙ sym (drop-nil (i + 1))) ∙ ap (λ o. option_map_or f o [] ++ flat_map f (drop (i + 1) [])) (sym (no_item i))
drop_here f (p ∷ pairs) zero = let e : 0 + 1 ≡ suc 0 = omega arith in ap (λ n. f p ++ flat_map f (drop n (p ∷ pairs))) (sym e)
drop_here f (p ∷ pairs) (suc i) =
    let e : suc i + 1 ≡ suc (i + 1) = omega arith in
    drop_here f pairs i ∙ ap (λ n. option_map_or f (slice_get pairs i) [] ++ flat_map f (drop n (p ∷ pairs))) (sym e)

pub noted_both_more : {P : Type 0} (f : P → List FaultSite) (pairs : List P) (before now next : Option FaultSite)
    (i : ℕ) (o : Option P)
    → slice_get pairs i ≡ o → next ≡ noted (option_map_or f o []) now → NotedBoth f pairs before now i
    → NotedBoth f pairs before next (i + 1)
noted_both_more f pairs before now next i o is notes so = record {
  all = ap (noted (flat_map f (drop (i + 1) pairs))) (notes ∙ ap (λ p. noted (option_map_or f p []) now) (sym is))
      ∙ (sym (noted-append (option_map_or f (slice_get pairs i) []) (flat_map f (drop (i + 1) pairs)) now)
      ∙ (ap (λ list. noted list now) (sym (drop_here f pairs i)) ∙ so.all));
}

drop_none : {P : Type 0} (pairs : List P) (i : ℕ) → length pairs ≤ i → drop i pairs ≡ []
drop_none [] i l = drop-nil i
drop_none (p ∷ pairs) zero l = absurd (omega arith)
drop_none (p ∷ pairs) (suc i) l = drop_none pairs i (omega arith)

pub noted_zip_all : {A B : Type 0} (f : A × B → List FaultSite) (xs : List A) (ys : List B)
    (before now : Option FaultSite) (i : ℕ) → length xs ≤ i
    → NotedBoth f (zip xs ys) before now i → now ≡ noted (flat_map f (zip xs ys)) before
noted_zip_all f xs ys before now i past so =
    ap (λ list. noted (flat_map f list) now) (sym (drop_none (zip xs ys) i (let short = zip_short xs ys in omega (arith, short)))) ∙ so.all

-- the same where both are told by equal options
pub both_are : {A B C : Type 0} (f : A × B → C) (made more : List C) (a : Option A) (b : Option B) (p : Option A)
    {q : Option B}
    → more ≡ made ++ cons_option (option_map f (both a b)) [] → a ≡ p → b ≡ q
    → more ≡ made ++ cons_option (option_map f (both p q)) []
both_are f made more a b p put d e = put ∙ (λ j. made ++ cons_option (option_map f (both (d j) (e j))) [])

pub map_of_map : {X Y Z : Type 0} (f : Y → Z) (g : X → Y) (xs : List X) → map f (map g xs) ≡ map (λ x. f (g x)) xs
map_of_map f g [] = refl
map_of_map f g (x ∷ xs) = ap (λ list. f (g x) ∷ list) (map_of_map f g xs)
