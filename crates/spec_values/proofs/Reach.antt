-- No value of a term is beyond the term's reach.
use Rattle.std.proofs.Common.{ℕ, ◌+◌, ◌^◌, ◌≤◌, true, false, ℤ, pos, negsuc, ◌+ℤ◌, ◌-ℤ◌, neg_ℤ, ◌≤ℤ◌, unsigned_abs, arith}
use Rattle.std.proofs.lemmas.Int.{ints}
use Rattle.typed_ltl.specs.Formulas.{Number, Proposition, Ltl}
use Rattle.typed_ltl.specs.Formulas as form
use Rattle.typed_ltl.specs.Traces.{Assignment, Trace}
use Rattle.typed_ltl.specs.Truth.{number_value, IsModerateNumber, IsModerateProposition, IsModerateOn}
use Rattle.spec_values.specs.SmallNumbers.{HoldsNumerals, reach, HasShortSides, HasShortTerms}
use Rattle.spec_values.specs.Laws.{ShortIsModerate, ShortIsModerateOn}

-- a number of at most n in absolute value
abbrev pub Spans : ℕ → ℤ → Type 0
Spans n z = (neg_ℤ (pos n) ≤ℤ z) × (z ≤ℤ pos n)

pub abs_spans : (n : ℕ) (z : ℤ) → Spans n z → unsigned_abs z ≤ n
abs_spans n (pos k) h = omega (arith, ints, h.1)
abs_spans n (negsuc k) h = omega (arith, ints, h.0)

pub spans_abs : (z : ℤ) → Spans (unsigned_abs z) z
spans_abs (pos k) = (omega (arith, ints), omega (arith, ints))
spans_abs (negsuc k) = (omega (arith, ints), omega (arith, ints))

spans_sum : (m n : ℕ) (x y : ℤ) → Spans m x → Spans n y → Spans (m + n) (x +ℤ y)
spans_sum m n x y h k = (omega (arith, ints, h.0, k.0), omega (arith, ints, h.1, k.1))

spans_difference : (m n : ℕ) (x y : ℤ) → Spans m x → Spans n y → Spans (m + n) (x -ℤ y)
spans_difference m n x y h k = (omega (arith, ints, h.0, k.1), omega (arith, ints, h.1, k.0))

spans_opposite : (n : ℕ) (x : ℤ) → Spans n x → Spans n (neg_ℤ x)
spans_opposite n x h = (omega (arith, ints, h.1), omega (arith, ints, h.0))

module _ (now next : Assignment) (here : HoldsNumerals now) (then : HoldsNumerals next) where
  reached : (t : Number) → Spans (reach t) (number_value now next t)
  reached (form.Literal z) = spans_abs z
  reached (form.NumberAt p false) = here p
  reached (form.NumberAt p true) = then p
  reached (form.Sum a b) = spans_sum (reach a) (reach b) (number_value now next a) (number_value now next b) (reached a) (reached b)
  reached (form.Difference a b) =
      spans_difference (reach a) (reach b) (number_value now next a) (number_value now next b) (reached a) (reached b)
  reached (form.Opposite a) = spans_opposite (reach a) (number_value now next a) (reached a)

  within : (t : Number) → reach t ≤ 2 ^ 61 → unsigned_abs (number_value now next t) ≤ 2 ^ 61
  within t l = omega (arith, abs_spans (reach t) (number_value now next t) (reached t), l)

  moderate : (t : Number) → reach t ≤ 2 ^ 61 → IsModerateNumber now next t
  moderate (form.Literal z) l = l
  moderate (form.NumberAt p b) l = within (form.NumberAt p b) l
  moderate (form.Sum a b) l = (moderate a (omega (arith, l)), moderate b (omega (arith, l)), within (form.Sum a b) l)
  moderate (form.Difference a b) l = (moderate a (omega (arith, l)), moderate b (omega (arith, l)), within (form.Difference a b) l)
  moderate (form.Opposite a) l = (moderate a l, within (form.Opposite a) l)

pub short_is_moderate : ShortIsModerate
short_is_moderate now next here then t short = moderate now next here then t (omega (arith, short))

module _ (w : Trace) (numerals : (i : ℕ) → HoldsNumerals (w i)) where
  sides : (a : Proposition) → HasShortSides a → (i : ℕ) → IsModerateProposition (w i) (w (i + 1)) a
  sides (form.TruthAt p next) h i = tt
  sides (form.Equals a b) h i =
      (short_is_moderate (w i) (w (i + 1)) (numerals i) (numerals (i + 1)) a h.0, short_is_moderate (w i) (w (i + 1)) (numerals i) (numerals (i + 1)) b h.1)
  sides (form.AtMost a b) h i =
      (short_is_moderate (w i) (w (i + 1)) (numerals i) (numerals (i + 1)) a h.0, short_is_moderate (w i) (w (i + 1)) (numerals i) (numerals (i + 1)) b h.1)
  sides (form.SameName a b) h i = tt

  terms : (f : Ltl) → HasShortTerms f → IsModerateOn w f
  terms form.True h = tt
  terms form.False h = tt
  terms (form.Atomic a) h = sides a h
  terms (form.Not f) h = terms f h
  terms (form.And f g) h = (terms f h.0, terms g h.1)
  terms (form.Or f g) h = (terms f h.0, terms g h.1)
  terms (form.Implies f g) h = (terms f h.0, terms g h.1)
  terms (form.Iff f g) h = (terms f h.0, terms g h.1)
  terms (form.Then f) h = terms f h
  terms (form.Until f g) h = (terms f h.0, terms g h.1)
  terms (form.Releases f g) h = (terms f h.0, terms g h.1)
  terms (form.Future f) h = terms f h
  terms (form.Always f) h = terms f h
  terms (form.Never f) h = terms f h

pub short_is_moderate_on : ShortIsModerateOn
short_is_moderate_on w numerals f short = terms w numerals f short
