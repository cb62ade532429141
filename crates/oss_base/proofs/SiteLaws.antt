-- The order of sites of faults, and the first of a list of them.
use Rattle.std.proofs.Common.{◌≡◌, ◌≢◌, ◌<◌, ◌≤◌, ℕ, zero, suc, Bool, true, false, nat_eq, nat_lt, List, [], ◌∷◌, ◌++◌, length, get_or, refl, sym, ◌∙◌}
use Rattle.std.proofs.Common.{subst, ap, arith}
use Rattle.std.specs.Prelude.{◌↔◌, ◌&&◌, ◌||◌, ◌==◌, if◌then◌else◌, Option, None, Some, All, Contains}
use Rattle.std.proofs.lemmas.Bool.Decides.{nat_tests}
use Rattle.std.proofs.lemmas.List.Elements.{All-nil, All-cons, All-contains, All-weaker, Contains-get_or}
use Rattle.oss_base.specs.Faults.{fault_number}
use Rattle.oss_base.proofs.FaultNumbers.{fault_number-injective}
use Rattle.oss_base.specs.Sites.{goes_before, earlier_site, first_of, IsFirstSite}
use Rattle.oss_base.specs.declared.fault.FaultKind.{FaultKind}
use Rattle.oss_base.specs.declared.sites.FaultSite.{FaultSite}

-- ---- the order over plain numbers: offsets a, b, c with numbers l, m, n
abbrev stands_before : ℕ → ℕ → ℕ → ℕ → Bool
stands_before a l b m = nat_lt a b || (a == b && nat_lt l m)

before_trans : (a l b m c n : ℕ) → stands_before c n b m ≡ true → stands_before b m a l ≡ true
    → stands_before c n a l ≡ true
before_trans a l b m c n h k = grind (arith, nat_tests)

behind_trans : (a l b m c n : ℕ) → stands_before b m a l ≡ false → stands_before c n b m ≡ false
    → stands_before c n a l ≡ false
behind_trans a l b m c n h k = grind (arith, nat_tests)

before_flip : (a l b m : ℕ) → stands_before b m a l ≡ true → stands_before a l b m ≡ false
before_flip a l b m h = grind (arith, nat_tests)

before_self : (a l : ℕ) → stands_before a l a l ≡ false
before_self a l = grind (arith, nat_tests)

same_offsets : (a l b m : ℕ) → stands_before a l b m ≡ false → stands_before b m a l ≡ false → a ≡ b
same_offsets a l b m h k = grind (arith, nat_tests)

same_numbers : (a l b m : ℕ) → stands_before a l b m ≡ false → stands_before b m a l ≡ false → l ≡ m
same_numbers a l b m h k = grind (arith, nat_tests)

-- ---- the order of sites
site_trans : (a b c : FaultSite) → goes_before c b ≡ true → goes_before b a ≡ true → goes_before c a ≡ true
site_trans a b c h k = before_trans a.offset (fault_number a.kind) b.offset (fault_number b.kind) c.offset (fault_number c.kind) h k

site_behind : (a b c : FaultSite) → goes_before b a ≡ false → goes_before c b ≡ false → goes_before c a ≡ false
site_behind a b c h k = behind_trans a.offset (fault_number a.kind) b.offset (fault_number b.kind) c.offset (fault_number c.kind) h k

site_flip : (a b : FaultSite) → goes_before b a ≡ true → goes_before a b ≡ false
site_flip a b h = before_flip a.offset (fault_number a.kind) b.offset (fault_number b.kind) h

site_self : (a : FaultSite) → goes_before a a ≡ false
site_self a = before_self a.offset (fault_number a.kind)

site_of : FaultKind → ℕ → FaultSite
site_of kind offset = record { kind = kind; offset = offset }

same_site : (a b : FaultSite) → goes_before a b ≡ false → goes_before b a ≡ false → a ≡ b
unfolding site_of
same_site a b h k =
    ap (λ (kind : FaultKind). site_of kind a.offset)
    (fault_number-injective a.kind b.kind (same_numbers a.offset (fault_number a.kind) b.offset (fault_number b.kind) h k))
    ∙ ap (site_of b.kind) (same_offsets a.offset (fault_number a.kind) b.offset (fault_number b.kind) h k)

-- ---- the earlier of two
earlier_cases : (a b c : FaultSite) (p q : Bool) → goes_before b a ≡ p → goes_before c b ≡ q
    → earlier_site (earlier_site (Some a) (Some b)) (Some c) ≡ earlier_site (Some a) (earlier_site (Some b) (Some c))
earlier_cases a b c true true e f =
    rw (e, f, site_trans a b c f e)
earlier_cases a b c true false e f = rw (e, f, e)
earlier_cases a b c false true e f = rw (e, f)
earlier_cases a b c false false e f = rw (e, f, site_behind a b c e f, e)

earlier_assoc : (a b c : Option FaultSite) → earlier_site (earlier_site a b) c ≡ earlier_site a (earlier_site b c)
earlier_assoc None b c = refl
earlier_assoc (Some a) None c = refl
earlier_assoc (Some a) (Some b) None = refl
earlier_assoc (Some a) (Some b) (Some c) = earlier_cases a b c (goes_before b a) (goes_before c b) refl refl

pub first_of-append : (xs ys : List FaultSite) → first_of (xs ++ ys) ≡ earlier_site (first_of xs) (first_of ys)
first_of-append [] ys = refl
first_of-append (x ∷ xs) ys = ap (earlier_site (Some x)) (first_of-append xs ys) ∙ sym (earlier_assoc (Some x) (first_of xs) (first_of ys))

pub first_of-push : (xs : List FaultSite) (site : FaultSite) (old : Option FaultSite) → old ≡ first_of xs
    → earlier_site old (Some site) ≡ first_of (xs ++ site ∷ [])
first_of-push xs site old e = ap (λ (o : Option FaultSite). earlier_site o (Some site)) e ∙ sym (first_of-append xs (site ∷ []))

-- ---- the first of a list is its least member
earlier_some : (x : FaultSite) (o : Option FaultSite) → earlier_site (Some x) o ≢ None
earlier_some x None e = cc
earlier_some x (Some y) e = cc

pub none_is_empty : (xs : List FaultSite) → first_of xs ≡ None → xs ≡ []
none_is_empty [] e = refl
none_is_empty (x ∷ xs) e = absurd (earlier_some x (first_of xs) e)

here : (x : FaultSite) (xs : List FaultSite) → Contains (x ∷ xs) x
here x xs = (0, omega arith, refl)

there : (x y : FaultSite) (xs : List FaultSite) → Contains xs y → Contains (x ∷ xs) y
there x y xs h = (suc h.0, omega (arith, h.1), h.2)

least_cases : (x t : FaultSite) (xs : List FaultSite) (b : Bool) → goes_before t x ≡ b → IsFirstSite xs t
    → IsFirstSite (x ∷ xs) (if b then t else x)
least_cases x t xs true e h = record {
  member = there x t xs h.member;
  least = All-cons (λ other. goes_before other t ≡ false) x xs (site_flip x t e) h.least;
}
least_cases x t xs false e h = record {
  member = here x xs;
  least = All-cons (λ other. goes_before other x ≡ false) x xs (site_self x)
      (All-weaker (λ other. goes_before other t ≡ false) (λ other. goes_before other x ≡ false) (λ u behind. site_behind x t u e behind) xs h.least);
}

single_least : (x : FaultSite) → IsFirstSite (x ∷ []) x
single_least x = record {
  member = here x [];
  least = All-cons (λ other. goes_before other x ≡ false) x [] (site_self x) (All-nil (λ other. goes_before other x ≡ false));
}

some_same : (a b : FaultSite) → Some a ≡ Some b → a ≡ b
some_same a b e = cc

least_of : (x : FaultSite) (xs : List FaultSite) (s : FaultSite) (o : Option FaultSite) → first_of xs ≡ o
    → ((t : FaultSite) → first_of xs ≡ Some t → IsFirstSite xs t) → earlier_site (Some x) o ≡ Some s
    → IsFirstSite (x ∷ xs) s
least_of x xs s None e later is =
    subst (λ (t : FaultSite). IsFirstSite (x ∷ xs) t) (some_same x s is)
    (subst (λ (l : List FaultSite). IsFirstSite (x ∷ l) x) (sym (none_is_empty xs e)) (single_least x))
least_of x xs s (Some t) e later is =
    subst (λ (u : FaultSite). IsFirstSite (x ∷ xs) u) (some_same _ s is) (least_cases x t xs (goes_before t x) refl (later t e))

pub first_is_least : (xs : List FaultSite) (s : FaultSite) → first_of xs ≡ Some s → IsFirstSite xs s
first_is_least [] s e = absurd (cc)
first_is_least (x ∷ xs) s e = least_of x xs s (first_of xs) refl (first_is_least xs) e

least_once : (xs : List FaultSite) (s t : FaultSite) → IsFirstSite xs s → IsFirstSite xs t → s ≡ t
least_once xs s t h k =
    same_site s t (All-contains (λ other. goes_before other t ≡ false) xs s k.least h.member)
    (All-contains (λ other. goes_before other s ≡ false) xs t h.least k.member)

no_member : (s : FaultSite) → Contains [] s → ⊥
no_member s h = absurd (omega (arith, h.1))

first_from : (xs : List FaultSite) (s : FaultSite) (o : Option FaultSite) → first_of xs ≡ o → IsFirstSite xs s
    → first_of xs ≡ Some s
first_from xs s None e h = absurd (no_member s (subst (λ (l : List FaultSite). Contains l s) (none_is_empty xs e) h.member))
first_from xs s (Some t) e h = e ∙ ap Some (least_once xs t s (first_is_least xs t e) h)

pub least_is_first : (xs : List FaultSite) (s : FaultSite) → IsFirstSite xs s → first_of xs ≡ Some s
least_is_first xs s h = first_from xs s (first_of xs) refl h

-- ---- the order of the list does not matter
all_members : (P : FaultSite → Type 0) (xs : List FaultSite) → ((s : FaultSite) → Contains xs s → P s) → All P xs
all_members P xs h = λ k d inside. h (get_or xs k d) (Contains-get_or xs k d inside)

empty_members : (ys : List FaultSite) → ((s : FaultSite) → Contains ys s → ⊥) → ys ≡ []
empty_members [] h = refl
empty_members (y ∷ ys) h = absurd (h y (here y ys))

same_first : (xs ys : List FaultSite) (o : Option FaultSite) → first_of xs ≡ o
    → ((s : FaultSite) → Contains xs s ↔ Contains ys s) → first_of xs ≡ first_of ys
same_first xs ys None e same =
    e ∙ ap first_of (sym (empty_members ys (λ s h. no_member s (subst (λ (l : List FaultSite). Contains l s) (none_is_empty xs e) ((same s).1 h)))))
same_first xs ys (Some s) e same =
    let least = first_is_least xs s e in
    e ∙ sym (least_is_first ys s (record {
      member = (same s).0 least.member;
      least = all_members (λ other. goes_before other s ≡ false) ys
          (λ t h. All-contains (λ other. goes_before other s ≡ false) xs t least.least ((same t).1 h));
    }))

pub same_members_same_first : (xs ys : List FaultSite) → ((s : FaultSite) → Contains xs s ↔ Contains ys s)
    → first_of xs ≡ first_of ys
same_members_same_first xs ys same = same_first xs ys (first_of xs) refl same
