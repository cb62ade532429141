use Rattle.std.proofs.Common.{◌≡◌, ℕ, ◌+◌, ◌-◌, ◌%◌, ◌<◌, ◌≤◌, ◌↔◌, true, ltb, [], length, get_or, sym, ap, ◌∙◌, subst, arith}
use Rattle.std.proofs.Math.Nat.{add-mod_right, mod-eq_of_lt}
use Rattle.std.proofs.lemmas.Bool.{cond-true, cond-false, cases_lt, lt-ltb, le-ltb}
use Rattle.std.proofs.Math.Logic.{inl, inr}
use Rattle.typed_ltl.specs.Formulas as form
use Rattle.typed_ltl.specs.Formulas.{Ltl, Proposition}
use Rattle.typed_ltl.specs.Traces.{Assignment, Trace, assignment, lasso_place, word}
use Rattle.typed_ltl.specs.Truth.{Holds, HoldsUntil, proposition_truth}
use Rattle.typed_ltl.specs.Laws.{Recurs, TruthRecurs, WordsRecur, LassoTruthRecurs}
use Rattle.typed_ltl.proofs.Derived.{or_is_core, implies_is_core, future_is_core, always_is_core, never_is_core, releases_is_core}

-- P agrees at i and at i + p, for i from l on
abbrev pub Repeats : (ℕ → Type 0) → ℕ → ℕ → Type 0
Repeats P l p = (i : ℕ) → l ≤ i → (P i → P (i + p)) × (P (i + p) → P i)

pub not_repeats : (P : ℕ → Type 0) (l p : ℕ) → Repeats P l p → Repeats (λ i. P i → ⊥) l p
not_repeats P l p r i le = (λ n h. n ((r i le).1 h), λ n h. n ((r i le).0 h))

pub and_repeats : (P Q : ℕ → Type 0) (l p : ℕ) → Repeats P l p → Repeats Q l p → Repeats (λ i. P i × Q i) l p
and_repeats P Q l p r s i le =
    (λ h. ((r i le).0 h.0, (s i le).0 h.1), λ h. ((r i le).1 h.0, (s i le).1 h.1))

pub next_repeats : (P : ℕ → Type 0) (l p : ℕ) → Repeats P l p → Repeats (λ i. P (i + 1)) l p
next_repeats P l p r i le =
    let e : (i + 1) + p ≡ (i + p) + 1 = omega arith in
    let both = r (i + 1) (omega arith) in
    (λ h. subst P e (both.0 h), λ h. both.1 (subst P (sym e) h))

pub until_repeats : (P Q : ℕ → Type 0) (l p : ℕ) → Repeats P l p → Repeats Q l p → Repeats (HoldsUntil P Q) l p
until_repeats P Q l p r s i le = (
  λ reach none. reach (λ j lo q t.
      none (j + p) (omega arith) ((s j (omega arith)).0 q) (λ k low high.
      let e : (k - p) + p ≡ k = omega arith in
      subst P e ((r (k - p) (omega arith)).0 (t (k - p) (omega arith) (omega arith))))),
  λ reach none. reach (λ j lo q t.
      let e : (j - p) + p ≡ j = omega arith in
      none (j - p) (omega arith) ((s (j - p) (omega arith)).1 (subst Q (sym e) q)) (λ k low high.
      (r k (omega arith)).1 (t (k + p) (omega arith) (omega arith)))),
)

-- what has the truth of something that repeats itself does so too
pub repeats_along : (P Q : ℕ → Type 0) (l p : ℕ) → ((i : ℕ) → P i ↔ Q i) → Repeats Q l p → Repeats P l p
repeats_along P Q l p e r i le =
    (λ h. (e (i + p)).1 ((r i le).0 ((e i).0 h)), λ h. (e i).1 ((r i le).1 ((e (i + p)).0 h)))

same_proposition : (a : Proposition) (x x' y y' : Assignment) → x ≡ x' → y ≡ y'
    → proposition_truth x y a ≡ proposition_truth x' y' a
same_proposition a x x' y y' e f = ap (λ z. proposition_truth z y a) e ∙ ap (λ z. proposition_truth x' z a) f

atom_repeats : (w : Trace) (l p : ℕ) → Recurs w l p → (a : Proposition)
    → Repeats (λ i. proposition_truth (w i) (w (i + 1)) a ≡ true) l p
atom_repeats w l p r a i le =
    let turn : (i + 1) + p ≡ (i + p) + 1 = omega arith in
    let next : w ((i + p) + 1) ≡ w (i + 1) = ap w (sym turn) ∙ r (i + 1) (omega arith) in
    let e : proposition_truth (w (i + p)) (w ((i + p) + 1)) a ≡ proposition_truth (w i) (w (i + 1)) a =
    same_proposition a (w (i + p)) (w i) (w ((i + p) + 1)) (w (i + 1)) (r i le) next in
    (λ h. e ∙ h, λ h. sym e ∙ h)

pub truth_repeats : (w : Trace) (l p : ℕ) → Recurs w l p → (f : Ltl) → Repeats (Holds w f) l p
truth_repeats w l p r form.True = λ i le. (λ h. h, λ h. h)
truth_repeats w l p r form.False = λ i le. (λ h. h, λ h. h)
truth_repeats w l p r (form.Atomic a) = atom_repeats w l p r a
truth_repeats w l p r (form.Not f) = not_repeats (Holds w f) l p (truth_repeats w l p r f)
truth_repeats w l p r (form.And f g) = and_repeats (Holds w f) (Holds w g) l p (truth_repeats w l p r f) (truth_repeats w l p r g)
truth_repeats w l p r (form.Or f g) =
    repeats_along (Holds w (form.Or f g)) (Holds w (form.Not (form.And (form.Not f) (form.Not g)))) l p (or_is_core f g w)
    (not_repeats _ l p (and_repeats _ _ l p (not_repeats (Holds w f) l p (truth_repeats w l p r f))
    (not_repeats (Holds w g) l p (truth_repeats w l p r g))))
truth_repeats w l p r (form.Implies f g) =
    repeats_along (Holds w (form.Implies f g)) (Holds w (form.Not (form.And f (form.Not g)))) l p (implies_is_core f g w)
    (not_repeats _ l p (and_repeats (Holds w f) _ l p (truth_repeats w l p r f) (not_repeats (Holds w g) l p (truth_repeats w l p r g))))
truth_repeats w l p r (form.Iff f g) =
    let rf = truth_repeats w l p r f in
    let rg = truth_repeats w l p r g in
    λ i le. (
      λ h. (λ a. (rg i le).0 (h.0 ((rf i le).1 a)), λ a. (rf i le).0 (h.1 ((rg i le).1 a))),
      λ h. (λ a. (rg i le).1 (h.0 ((rf i le).0 a)), λ a. (rf i le).1 (h.1 ((rg i le).0 a))),
    )
truth_repeats w l p r (form.Then f) = next_repeats (Holds w f) l p (truth_repeats w l p r f)
truth_repeats w l p r (form.Until f g) = until_repeats (Holds w f) (Holds w g) l p (truth_repeats w l p r f) (truth_repeats w l p r g)
truth_repeats w l p r (form.Releases f g) =
    repeats_along (Holds w (form.Releases f g)) (Holds w (form.Not (form.Until (form.Not f) (form.Not g)))) l p (releases_is_core f g w)
    (not_repeats _ l p (until_repeats _ _ l p (not_repeats (Holds w f) l p (truth_repeats w l p r f))
    (not_repeats (Holds w g) l p (truth_repeats w l p r g))))
truth_repeats w l p r (form.Future f) =
    repeats_along (Holds w (form.Future f)) (Holds w (form.Until form.True f)) l p (future_is_core f w)
    (until_repeats (Holds w form.True) _ l p (λ i le. (λ h. h, λ h. h)) (truth_repeats w l p r f))
truth_repeats w l p r (form.Always f) =
    repeats_along (Holds w (form.Always f)) (Holds w (form.Not (form.Until form.True (form.Not f)))) l p (always_is_core f w)
    (not_repeats _ l p (until_repeats (Holds w form.True) _ l p (λ i le. (λ h. h, λ h. h)) (not_repeats (Holds w f) l p (truth_repeats w l p r f))))
truth_repeats w l p r (form.Never f) =
    repeats_along (Holds w (form.Never f)) (Holds w (form.Not (form.Until form.True f))) l p (never_is_core f w)
    (not_repeats _ l p (until_repeats (Holds w form.True) _ l p (λ i le. (λ h. h, λ h. h)) (truth_repeats w l p r f)))

pub truth_recurs : TruthRecurs
truth_recurs w l p r f i le = truth_repeats w l p r f i le

-- ---- places of a lasso

pub place_before : (n l i : ℕ) → i < n → lasso_place n l i ≡ i
place_before n l i h = cond-true (ltb i n) i (l + (i - l) % (n - l)) (lt-ltb i n h)

pub place_past : (n l i : ℕ) → n ≤ i → lasso_place n l i ≡ l + (i - l) % (n - l)
place_past n l i h = cond-false (ltb i n) i (l + (i - l) % (n - l)) (le-ltb i n h)

pub place_in_loop : (n l i : ℕ) → l < n → l ≤ i → lasso_place n l i ≡ l + (i - l) % (n - l)
place_in_loop n l i lt le =
    elim (cases_lt i n) [
      | inl h ↦
          let m : i - l < n - l = omega arith in
          let e : (i - l) % (n - l) ≡ i - l = mod-eq_of_lt m in
          let s : l + (i - l) ≡ i = omega arith in
          place_before n l i h ∙ sym (ap (λ x. l + x) e ∙ s)
      | inr h ↦ place_past n l i h
    ]

pub place_recurs : (n l i : ℕ) → l < n → l ≤ i → lasso_place n l (i + (n - l)) ≡ lasso_place n l i
place_recurs n l i lt le =
    let e : (i + (n - l)) - l ≡ (i - l) + (n - l) = omega arith in
    place_in_loop n l (i + (n - l)) lt (omega arith)
    ∙ (ap (λ x. l + x % (n - l)) e
    ∙ (ap (λ x. l + x) (add-mod_right (i - l) (n - l))
    ∙ sym (place_in_loop n l i lt le)))

pub words_recur : WordsRecur
words_recur states l lt i le = ap (λ k. assignment (get_or states k [])) (place_recurs (length states) l i lt le)

pub lasso_truth_recurs : LassoTruthRecurs
lasso_truth_recurs states l lt f i le =
    truth_repeats (word states l) l (length states - l) (words_recur states l lt) f i le

pub place_end : (n l i : ℕ) → l < n → i ≡ n → lasso_place n l i ≡ l
place_end n l i lt e =
    let turn : i ≡ l + (n - l) = omega arith in
    ap (lasso_place n l) turn ∙ (place_recurs n l l lt (omega arith) ∙ place_before n l l lt)
