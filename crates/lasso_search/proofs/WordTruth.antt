-- Truth of core formulas on the word of a lasso is decided, by the rows of truth values of lassos; and what repeats
-- itself from the loop on is told by the places of the lasso.
use Rattle.std.proofs.Common.{◌≡◌, ℕ, zero, suc, ◌+◌, ◌-◌, ◌<◌, ◌≤◌, ◌↔◌, Bool, true, false, ◌&&◌, ◌||◌, List, length, get_or, inl, inr, sym, ap, ◌∙◌, subst}
use Rattle.std.proofs.Common.{arith}
use Rattle.std.proofs.lemmas.Bool.{and_from, or_parts, cases_lt, true_from_ne_false, true≢false}
use Rattle.port_types.specs.declared.types.Value.{Value}
use Rattle.typed_ltl.specs.Formulas as form
use Rattle.typed_ltl.specs.Formulas.{Ltl}
use Rattle.typed_ltl.specs.Traces.{Trace, lasso_place, word}
use Rattle.typed_ltl.specs.Truth.{Holds, HoldsUntil}
use Rattle.typed_ltl.specs.Rows.{truth_row}
use Rattle.typed_ltl.proofs.Periodicity.{Repeats, truth_repeats, words_recur, place_before, place_recurs}
use Rattle.typed_ltl.proofs.RowTruth.{rows_are_right}
use Rattle.first_lasso.proofs.Words.{place_within}
use Rattle.core_ltl.specs.CoreFormulas.{Core, CoreHolds}
use Rattle.core_ltl.specs.CoreFormulas as core

-- a core formula as a formula
abbrev pub as_formula : Core → Ltl
as_formula core.True = form.True
as_formula (core.Atomic p) = form.Atomic p
as_formula (core.Not f) = form.Not (as_formula f)
as_formula (core.And f g) = form.And (as_formula f) (as_formula g)
as_formula (core.Next f) = form.Then (as_formula f)
as_formula (core.Until f g) = form.Until (as_formula f) (as_formula g)

same_truth : (w : Trace) (f : Core) (i : ℕ) → Holds w (as_formula f) i ↔ CoreHolds w f i
same_truth w core.True i = (λ h. h, λ h. h)
same_truth w (core.Atomic p) i = (λ h. h, λ h. h)
same_truth w (core.Not f) i = let e = same_truth w f i in (λ n h. n (e.1 h), λ n h. n (e.0 h))
same_truth w (core.And f g) i =
    let e = same_truth w f i in
    let d = same_truth w g i in
    (λ h. (e.0 h.0, d.0 h.1), λ h. (e.1 h.0, d.1 h.1))
same_truth w (core.Next f) i = same_truth w f (i + 1)
same_truth w (core.Until f g) i =
    let e = same_truth w f in
    let d = same_truth w g in (
      λ u none. u (λ j le q t. none j le ((d j).0 q) (λ k lo hi. (e k).0 (t k lo hi))),
      λ u none. u (λ j le q t. none j le ((d j).1 q) (λ k lo hi. (e k).1 (t k lo hi))),
    )

module _ (P : ℕ → Type 0) (n l : ℕ) (lt : l < n) (r : Repeats P l (n - l)) where
  abbrev TellsOf : ℕ → Type 0
  TellsOf i = (P (lasso_place n l i) → P i) × (P i → P (lasso_place n l i))

  before_end : (i : ℕ) → i < n → TellsOf i
  before_end i h = let e = place_before n l i h in (λ p. subst P e p, λ p. subst P (sym e) p)

  place_tells : (m i : ℕ) → i ≤ m → TellsOf i
  place_tells zero i le = before_end i (omega arith)
  place_tells (suc m) i le =
      elim (cases_lt i n) [
        | inl h ↦ before_end i h
        | inr h ↦
            let j : ℕ = i - (n - l) in
            let e : j + (n - l) ≡ i = omega arith in
            let d : lasso_place n l i ≡ lasso_place n l j = ap (lasso_place n l) (sym e) ∙ place_recurs n l j lt (omega arith) in
            let back = place_tells m j (omega arith) in
            let turn = r j (omega arith) in
            (λ p. subst P e (turn.0 (back.0 (subst P d p))), λ p. subst P (sym d) (back.1 (turn.1 (subst P (sym e) p))))
      ]

-- the truth value of a core formula at a position of a lasso's word
abbrev pub truth_at : List (List Value) → ℕ → Core → ℕ → Bool
truth_at states l f i = get_or (truth_row states l (as_formula f)) (lasso_place (length states) l i) false

module _ (states : List (List Value)) (l : ℕ) (lt : l < length states) (f : Core) (i : ℕ) where
  at_place : (Holds (word states l) (as_formula f) (lasso_place (length states) l i) → Holds (word states l) (as_formula f) i)
      × (Holds (word states l) (as_formula f) i → Holds (word states l) (as_formula f) (lasso_place (length states) l i))
  at_place =
      place_tells (Holds (word states l) (as_formula f)) (length states) l lt
      (truth_repeats (word states l) l (length states - l) (words_recur states l lt) (as_formula f)) i i (omega arith)

  row_tells : (truth_at states l f i ≡ true) ↔ Holds (word states l) (as_formula f) (lasso_place (length states) l i)
  row_tells = rows_are_right states l lt (as_formula f) (lasso_place (length states) l i) (place_within (length states) l i lt)

  pub truth_told : truth_at states l f i ≡ true → CoreHolds (word states l) f i
  truth_told h = (same_truth (word states l) f i).0 (at_place.0 (row_tells.0 h))

  pub truth_tells : CoreHolds (word states l) f i → truth_at states l f i ≡ true
  truth_tells h = row_tells.1 (at_place.1 ((same_truth (word states l) f i).1 h))

-- the expansion law of until

pub reaches_here : (P Q : ℕ → Type 0) (i : ℕ) → Q i → HoldsUntil P Q i
reaches_here P Q i q none = none i (omega arith) q (λ k lo hi. absurd (omega arith))

pub reaches_later : (P Q : ℕ → Type 0) (i : ℕ) → P i → HoldsUntil P Q (i + 1) → HoldsUntil P Q i
reaches_later P Q i p r none = r (λ j le q t. none j (omega arith) q (λ k lo hi.
    elim (cases_lt i k) [
      | inl h ↦ t k (omega arith) hi
      | inr h ↦ let e : i ≡ k = omega arith in subst P e p
    ]))

pub until_unfolds : (P Q : ℕ → Type 0) (i : ℕ) (b a x : Bool) → (Q i → b ≡ true) → (P i → a ≡ true)
    → (HoldsUntil P Q (i + 1) → x ≡ true) → HoldsUntil P Q i → (b || (a && x)) ≡ true
until_unfolds P Q i b a x here stays later r = true_from_ne_false (b || (a && x)) (λ no.
    let parts = or_parts b (a && x) no in
    r (λ j le q t. elim (cases_lt i j) [
      | inl h ↦
          let on : x ≡ true = later (λ none. none j (omega arith) q (λ k lo hi. t k (omega arith) hi)) in
          let both : (a && x) ≡ true = and_from a x (stays (t i (omega arith) h)) on in
          true≢false (sym both ∙ parts.1)
      | inr h ↦
          let e : j ≡ i = omega arith in
          true≢false (sym (here (subst Q e q)) ∙ parts.0)
    ]))
