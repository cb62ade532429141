use Rattle.std.proofs.Common.{◌≡◌, ℕ, zero, suc, ◌+◌, ◌-◌, ◌<◌, ◌≤◌, Bool, true, false, ◌&&◌, ◌||◌, sym, ap, ◌∙◌, subst, arith}
use Rattle.std.proofs.lemmas.Bool.{or_left, or_right, and_from, and_parts, or_cases, cases_lt, true_from_ne_false}
use Rattle.std.proofs.Math.Logic.{inl, inr}
use Rattle.typed_ltl.specs.Truth.{Throughout, HoldsUntil}
use Rattle.typed_ltl.proofs.Periodicity.{Repeats}

-- a table of the truth values of P below n
pub record Table (n : ℕ) (f : ℕ → Bool) (P : ℕ → Type 0) : Type 0 where
  pub told : (i : ℕ) → i < n → f i ≡ true → P i
  pub tells : (i : ℕ) → i < n → P i → f i ≡ true

-- an until told from the end backwards
pub record Backwards (n : ℕ) (f g u : ℕ → Bool) : Type 0 where
  pub step : (i : ℕ) → i < n → u i ≡ (g i || (f i && u (i + 1)))

reaches_here : (P Q : ℕ → Type 0) (i : ℕ) → Q i → HoldsUntil P Q i
reaches_here P Q i q none = none i (omega arith) q (λ k lo hi. absurd (omega arith))

reaches_later : (P Q : ℕ → Type 0) (i : ℕ) → P i → HoldsUntil P Q (i + 1) → HoldsUntil P Q i
reaches_later P Q i p r none = r (λ j le q t. none j (omega arith) q (λ k lo hi.
    elim (cases_lt i k) [
      | inl h ↦ t k (omega arith) hi
      | inr h ↦ let e : i ≡ k = omega arith in subst P e p
    ]))

module _ (P Q : ℕ → Type 0) (n : ℕ) (f g u : ℕ → Bool) (fs : Table n f P) (gs : Table n g Q) (back : Backwards n f g u) where
  pub back_told : (u n ≡ true → HoldsUntil P Q n) → (d i : ℕ) → i + d ≡ n → u i ≡ true → HoldsUntil P Q i
  back_told end zero i e h =
      let e' : i ≡ n = omega arith in
      subst (HoldsUntil P Q) (sym e') (end (ap u (sym e') ∙ h))
  back_told end (suc d) i e h =
      let lt : i < n = omega arith in
      let now : (g i || (f i && u (i + 1))) ≡ true = sym (back.step i lt) ∙ h in
      elim (or_cases (g i) (f i && u (i + 1)) now) [
        | inl here ↦ reaches_here P Q i (gs.told i lt here)
        | inr later ↦
            let parts = and_parts (f i) (u (i + 1)) later in
            reaches_later P Q i (fs.told i lt parts.0) (back_told end d (i + 1) (omega arith) parts.1)
      ]

  pub back_tells : (d i j : ℕ) → i + d ≡ j → j < n → Q j → Throughout P i j → u i ≡ true
  back_tells zero i j e lt q t =
      let e' : i ≡ j = omega arith in
      let here : g i ≡ true = gs.tells i (omega arith) (subst Q (sym e') q) in
      back.step i (omega arith) ∙ or_left (g i) (f i && u (i + 1)) here
  back_tells (suc d) i j e lt q t =
      let here : f i ≡ true = fs.tells i (omega arith) (t i (omega arith) (omega arith)) in
      let later : u (i + 1) ≡ true = back_tells d (i + 1) j (omega arith) lt q (λ k lo hi. t k (omega arith) hi) in
      back.step i (omega arith) ∙ or_right (g i) (f i && u (i + 1)) (and_from (f i) (u (i + 1)) here later)

  pub back_passes : u n ≡ true → (d i : ℕ) → i + d ≡ n → Throughout P i n → u i ≡ true
  back_passes end zero i e t = let e' : i ≡ n = omega arith in ap u e' ∙ end
  back_passes end (suc d) i e t =
      let here : f i ≡ true = fs.tells i (omega arith) (t i (omega arith) (omega arith)) in
      let later : u (i + 1) ≡ true = back_passes end d (i + 1) (omega arith) (λ k lo hi. t k (omega arith) hi) in
      back.step i (omega arith) ∙ or_right (g i) (f i && u (i + 1)) (and_from (f i) (u (i + 1)) here later)

-- two passes: the first one ends with false, the second one with what the first one told at l
module _ (P Q : ℕ → Type 0) (n l : ℕ) (f g u v : ℕ → Bool) (fs : Table n f P) (gs : Table n g Q)
    (first : Backwards n f g u) (second : Backwards n f g v) (inside : l < n)
    (starts : u n ≡ false) (goes_on : v n ≡ u l)
    (rp : Repeats P l (n - l)) (rq : Repeats Q l (n - l)) (ru : Repeats (HoldsUntil P Q) l (n - l)) where
  round : l + (n - l) ≡ n
  round = omega arith

  first_told : u l ≡ true → HoldsUntil P Q n
  first_told h =
      let at_l : HoldsUntil P Q l = back_told P Q n f g u fs gs first (λ e. cc) (n - l) l round h in
      subst (HoldsUntil P Q) round ((ru l (omega arith)).0 at_l)

  -- a witness behind the end is found by the first pass: it moves back by one round at a time
  first_tells : (m j : ℕ) → j ≤ m → n ≤ j → Q j → Throughout P n j → u l ≡ true
  first_tells zero j le lo q t = absurd (omega arith)
  first_tells (suc m) j le lo q t =
      let e : (j - (n - l)) + (n - l) ≡ j = omega arith in
      let q' : Q (j - (n - l)) = (rq (j - (n - l)) (omega arith)).1 (subst Q (sym e) q) in
      let t' : Throughout P l (j - (n - l)) = λ k low high. (rp k low).1 (t (k + (n - l)) (omega arith) (omega arith)) in
      elim (cases_lt (j - (n - l)) n) [
        | inl h ↦ back_tells P Q n f g u fs gs first ((j - (n - l)) - l) l (j - (n - l)) (omega arith) h q' t'
        | inr h ↦ first_tells m (j - (n - l)) (omega arith) h q' (λ k low high. t' k (omega arith) high)
      ]

  pub until_told : (i : ℕ) → i < n → v i ≡ true → HoldsUntil P Q i
  until_told i lt h =
      back_told P Q n f g v fs gs second (λ e. first_told (sym goes_on ∙ e)) (n - i) i (omega arith) h

  pub until_tells : (i : ℕ) → i < n → HoldsUntil P Q i → v i ≡ true
  until_tells i lt r = true_from_ne_false (v i) (λ no. r (λ j le q t.
      let yes : v i ≡ true = elim (cases_lt j n) [
        | inl h ↦ back_tells P Q n f g v fs gs second (j - i) i j (omega arith) h q t
        | inr h ↦
            let end : u l ≡ true = first_tells j j (omega arith) h q (λ k low high. t k (omega arith) high) in
            back_passes P Q n f g v fs gs second (goes_on ∙ end) (n - i) i (omega arith) (λ k low high. t k low (omega arith))
      ] in
      cc))
