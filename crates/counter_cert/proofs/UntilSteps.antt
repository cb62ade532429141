-- The expansion law of until: it holds exactly where its right side does, or its left side does and it holds at the
-- next position.
use Rattle.std.proofs.Common.{◌≡◌, ℕ, ◌+◌, Bool, true, ◌&&◌, ◌||◌, inl, inr, sym, ◌∙◌, subst, arith}
use Rattle.std.proofs.lemmas.Bool.{and_from, or_parts, cases_lt, true_from_ne_false, true≢false}
use Rattle.typed_ltl.specs.Truth.{HoldsUntil}

pub reaches_here : (P Q : ℕ → Type 0) (i : ℕ) → Q i → HoldsUntil P Q i
reaches_here P Q i q none = none i (omega arith) q (λ k lo hi. absurd (omega arith))

pub reaches_later : (P Q : ℕ → Type 0) (i : ℕ) → P i → HoldsUntil P Q (i + 1) → HoldsUntil P Q i
reaches_later P Q i p r none = r (λ j le q t. none j (omega arith) q (λ k lo hi.
    elim (cases_lt i k) [
      | inl h ↦ t k (omega arith) hi
      | inr h ↦ let e : i ≡ k = omega arith in subst P e p
    ]))

pub until_unfolds : (P Q : ℕ → Type 0) (i : ℕ) (b a x : Bool) → (Q i → b ≡ true) → (P i → a ≡ true)
    → (HoldsUntil P Q (i + 1) → x ≡ true) → HoldsUntil P Q i → (b || (a && x)) ≡ true
until_unfolds P Q i b a x here stays later r = true_from_ne_false (b || (a && x)) (λ no.
    let parts = or_parts b (a && x) no in
    r (λ j le q t. elim (cases_lt i j) [
      | inl h ↦
          let on : x ≡ true = later (λ none. none j (omega arith) q (λ k lo hi. t k (omega arith) hi)) in
          let both : (a && x) ≡ true = and_from a x (stays (t i (omega arith) h)) on in
          true≢false (sym both ∙ parts.1)
      | inr h ↦
          let e : j ≡ i = omega arith in
          true≢false (sym (here (subst Q e q)) ∙ parts.0)
    ]))
