-- The first of the faults that are noted one after the other.
use Rattle.std.proofs.Common.{◌≡◌, ℕ, nat_lt, ◌+◌, ◌<◌, Bool, true, false, not, cond, if◌then◌else◌, List, [], ◌∷◌, ◌++◌, length, map, filter, filter_map, take}
use Rattle.std.proofs.Common.{drop, get_or, Option, Some, None, refl, sym, ap, ◌∙◌}
use Rattle.std.proofs.lemmas.List.{take_more}
use Rattle.std.specs.List.{list_any, flat_map, cons_option}
use Rattle.std.specs.Option.{option_map_or}
use Rattle.oss_base.specs.declared.fault.FaultKind.{FaultKind}
use Rattle.oss_base.specs.declared.sites.FaultSite.{FaultSite}
use Rattle.oss_syntax.specs.declared.words.Word.{Word}
use Rattle.spec_names.specs.Scopes.{is_named}
use Rattle.spec_names.specs.NamesFaults.{site, lacking, again, again_after, same_name, start_of, one_site}
use Rattle.oss_base.specs.Sites.{earlier_site}
use Rattle.spec_names.specs.Noting.{noted, none_if}
use Rattle.spec_names.specs.Tables.{IsPlaceTable, entry_place}
use Rattle.spec_names.proofs.Lists.{IsItemAt, drop_here, position_before, mapped_within, mapped_at}

pub noted-append : (xs ys : List FaultSite) (first : Option FaultSite)
    → noted (xs ++ ys) first ≡ noted ys (noted xs first)
noted-append [] ys first = refl
noted-append (x ∷ xs) ys first = noted-append xs ys (earlier_site first (Some x))

-- one step of a loop that notes what each element has: what was to come was `here` and `rest`
pub noted_step : (all here rest : List FaultSite) (before now whole : Option FaultSite)
    → all ≡ here ++ rest → now ≡ noted here before → noted all before ≡ whole → noted rest now ≡ whole
noted_step all here rest before now whole split is so =
    ap (noted rest) is ∙ (sym (noted-append here rest before) ∙ (ap (λ list. noted list before) (sym split) ∙ so))

lacking_split : {A : Type 0} (kind : FaultKind) (offset : A → ℕ) (b : Bool) (x : A) (kept : List A)
    → map (λ y. site kind (offset y)) (cond (not b) (x ∷ kept) kept) ≡ none_if b (site kind (offset x)) ++ map
    (λ y. site kind (offset y)) kept
lacking_split kind offset true x kept = refl
lacking_split kind offset false x kept = refl

pub lacking-cons : {A : Type 0} (kind : FaultKind) (means : A → Bool) (offset : A → ℕ) (x : A) (xs : List A)
    → lacking kind means offset (x ∷ xs) ≡ none_if (means x) (site kind (offset x)) ++ lacking kind means offset xs
lacking-cons kind means offset x xs = lacking_split kind offset (means x) x (filter (λ y. not (means y)) xs)

pub lacking_here : {A : Type 0} (kind : FaultKind) (means : A → Bool) (offset : A → ℕ) (xs : List A) (i : ℕ) (x : A)
    → i < length xs → x ≡ get_or xs i x
    → lacking kind means offset (drop i xs) ≡ none_if (means x) (site kind (offset x)) ++ lacking kind means offset
    (drop (i + 1) xs)
lacking_here kind means offset xs i x l e = ap (lacking kind means offset) (drop_here xs i x l e) ∙ lacking-cons kind means offset x (drop (i + 1) xs)

none_if-not : (b : Bool) (s : FaultSite) → (if b then s ∷ [] else []) ≡ none_if (not b) s
none_if-not true s = refl
none_if-not false s = refl

again-cons : {A : Type 0} (kind : FaultKind) (same : A → A → Bool) (offset : A → ℕ) (before : List A) (x : A)
    (xs : List A)
    → again_after kind same offset before (x ∷ xs)
    ≡ none_if (not (list_any (same x) before)) (site kind (offset x)) ++ again_after kind same offset (before ++ x ∷ []) xs
again-cons kind same offset before x xs =
    ap (λ list. list ++ again_after kind same offset (before ++ x ∷ []) xs) (none_if-not (list_any (same x) before) (site kind (offset x)))

pub again_here : {A : Type 0} (kind : FaultKind) (same : A → A → Bool) (offset : A → ℕ) (xs : List A) (i : ℕ) (x : A)
    → i < length xs → x ≡ get_or xs i x
    → again_after kind same offset (take i xs) (drop i xs)
    ≡ none_if (not (list_any (same x) (take i xs))) (site kind (offset x)) ++ again_after kind same offset (take (i + 1) xs) (drop (i + 1) xs)
again_here {A = A} kind same offset xs i x l e =
    ap (again_after kind same offset (take i xs)) (drop_here xs i x l e)
    ∙ (again-cons kind same offset (take i xs) x (drop (i + 1) xs)
    ∙ ap (λ list. none_if (not (list_any (same x) (take i xs))) (site kind (offset x)) ++ again_after kind same offset list (drop (i + 1) xs))
    (sym (take_more xs i x l ∙ ap (λ (y : A). take i xs ++ y ∷ []) (sym e))))

pub flat_here : {A B : Type 0} (f : A → List B) (xs : List A) (i : ℕ) (x : A) → i < length xs → x ≡ get_or xs i x
    → flat_map f (drop i xs) ≡ f x ++ flat_map f (drop (i + 1) xs)
flat_here f xs i x l e = ap (flat_map f) (drop_here xs i x l e)

-- one step of a loop that notes the words that stood before, by the table of their first places
pub again_step : {W : Type 0} (kind : FaultKind) (f : W → Word) (xs : List W) (i : ℕ) (x : W)
    (table : List (List ℕ × ℕ)) (stood : Bool)
    (first now whole : Option FaultSite)
    → IsItemAt xs i x → IsPlaceTable (map f xs) table
    → stood ≡ option_map_or (λ m. nat_lt m i) (entry_place table (f x).text) false
    → now ≡ noted (none_if (not stood) (site kind (start_of (f x)))) first
    → noted (again_after kind same_name start_of (take i (map f xs)) (drop i (map f xs))) first ≡ whole
    → noted (again_after kind same_name start_of (take (i + 1) (map f xs)) (drop (i + 1) (map f xs))) now ≡ whole
again_step kind f xs i x table stood first now whole at tells stood_is now_is so =
    let before : stood ≡ list_any (same_name (f x)) (take i (map f xs)) =
    stood_is ∙ ((λ j. option_map_or (λ m. nat_lt m i) (tells (f x).text j) false) ∙ position_before (is_named (f x).text) i (map f xs)) in
    noted_step (again_after kind same_name start_of (take i (map f xs)) (drop i (map f xs)))
    (none_if (not (list_any (same_name (f x)) (take i (map f xs)))) (site kind (start_of (f x))))
    (again_after kind same_name start_of (take (i + 1) (map f xs)) (drop (i + 1) (map f xs))) first now whole
    (again_here kind same_name start_of (map f xs) i (f x) (mapped_within f xs i at.within) (mapped_at f xs i x at.within at.same))
    (now_is ∙ ap (λ b. noted (none_if (not b) (site kind (start_of (f x)))) first) before) so

-- tests that agree find the same
pub lacking-same : {A : Type 0} (kind : FaultKind) (f g : A → Bool) (offset : A → ℕ) → ((x : A) → f x ≡ g x)
    → (xs : List A) → lacking kind f offset xs ≡ lacking kind g offset xs
lacking-same kind f g offset same xs = λ j. lacking kind (λ x. same x j) offset xs

-- one step of a loop that notes what means nothing
pub lacking_step : {A : Type 0} (kind : FaultKind) (means : A → Bool) (offset : A → ℕ) (xs : List A) (i : ℕ) (x : A)
    (well : Bool)
    (first now whole : Option FaultSite)
    → i < length xs → x ≡ get_or xs i x → well ≡ means x → now ≡ noted (none_if well (site kind (offset x))) first
    → noted (lacking kind means offset (drop i xs)) first ≡ whole
    → noted (lacking kind means offset (drop (i + 1) xs)) now ≡ whole
lacking_step kind means offset xs i x well first now whole l e tells is so =
    noted_step (lacking kind means offset (drop i xs)) (none_if (means x) (site kind (offset x))) (lacking kind means offset (drop (i + 1) xs)) first now
    whole
    (lacking_here kind means offset xs i x l e)
    (is ∙ ap (λ b. noted (none_if b (site kind (offset x))) first) tells) so

-- the same over what f makes of the elements
pub lacking_map_step : {W A : Type 0} (kind : FaultKind) (means : A → Bool) (offset : A → ℕ) (f : W → A) (xs : List W)
    (i : ℕ) (x : W) (well : Bool)
    (first now whole : Option FaultSite)
    → i < length xs → x ≡ get_or xs i x → well ≡ means (f x)
    → now ≡ noted (none_if well (site kind (offset (f x)))) first
    → noted (lacking kind means offset (drop i (map f xs))) first ≡ whole
    → noted (lacking kind means offset (drop (i + 1) (map f xs))) now ≡ whole
lacking_map_step kind means offset f xs i x well first now whole l e =
    lacking_step kind means offset (map f xs) i (f x) well first now whole (mapped_within f xs i l) (mapped_at f xs i x l e)

-- and one of a loop that notes what each element has
pub flat_step : {A : Type 0} (f : A → List FaultSite) (xs : List A) (i : ℕ) (x : A) (first now whole : Option FaultSite)
    → i < length xs → x ≡ get_or xs i x → now ≡ noted (f x) first
    → noted (flat_map f (drop i xs)) first ≡ whole → noted (flat_map f (drop (i + 1) xs)) now ≡ whole
flat_step f xs i x first now whole l e is so = noted_step (flat_map f (drop i xs)) (f x) (flat_map f (drop (i + 1) xs)) first now whole
    (flat_here f xs i x l e) is so

-- one step of a loop that notes what an option gives of each
pub option_step : {W A : Type 0} (h : A → Option FaultSite) (f : W → A) (xs : List W) (i : ℕ) (x : W)
    (first now whole : Option FaultSite)
    → i < length xs → x ≡ get_or xs i x → now ≡ noted (one_site (h (f x))) first
    → noted (filter_map h (drop i (map f xs))) first ≡ whole
    → noted (filter_map h (drop (i + 1) (map f xs))) now ≡ whole
option_step h f xs i x first now whole l e is so =
    noted_step (filter_map h (drop i (map f xs))) (one_site (h (f x))) (filter_map h (drop (i + 1) (map f xs))) first now whole
    (ap (filter_map h) (drop_here (map f xs) i (f x) (mapped_within f xs i l) (mapped_at f xs i x l e)) ∙ option_here (h (f x))
    (filter_map h (drop (i + 1) (map f xs)))) is so
  where
    option_here : (o : Option FaultSite) (rest : List FaultSite) → cons_option o rest ≡ one_site o ++ rest
    option_here None rest = refl
    option_here (Some s) rest = refl

-- several lists, noted one after the other
pub noted_two : (a b : List FaultSite) (x y z : Option FaultSite) → y ≡ noted a x → z ≡ noted b y → z ≡ noted (a ++ b) x
noted_two a b x y z ya zb = zb ∙ (ap (noted b) ya ∙ sym (noted-append a b x))

-- the same words, and the same list
pub again_along : (kind : FaultKind) (ws vs : List Word) (old new : Option FaultSite) → ws ≡ vs
    → new ≡ noted (again kind same_name start_of ws) old → new ≡ noted (again kind same_name start_of vs) old
again_along kind ws vs old new e is = is ∙ ap (λ list. noted (again kind same_name start_of list) old) e

pub noted_along : (a b : List FaultSite) (old new : Option FaultSite) → a ≡ b → new ≡ noted a old → new ≡ noted b old
noted_along a b old new e is = is ∙ ap (λ list. noted list old) e
