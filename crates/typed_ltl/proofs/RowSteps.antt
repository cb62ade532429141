use Rattle.std.proofs.Common.{◌≡◌, ℕ, ◌+◌, ◌<◌, ◌≤◌, ◌≢◌, Bool, false, List, length, get_or, set, refl, sym, ◌∙◌, subst, arith}
use Rattle.std.proofs.lemmas.List.{length-set, get_or-set_same, get_or-set_other, ext_get_or}
use Rattle.std.proofs.lemmas.Bool.{cases_lt}
use Rattle.std.proofs.Math.Logic.{inl, inr}

-- the cells before i are those of the row R, the others those of xs
pub record Filled (R xs ys : List Bool) (i : ℕ) : Type 0 where
  pub len : length ys ≡ length xs
  pub done : (k : ℕ) → k < i → get_or ys k false ≡ get_or R k false
  pub rest : (k : ℕ) → i ≤ k → get_or ys k false ≡ get_or xs k false

pub Filled-start : (R xs : List Bool) → Filled R xs xs 0
Filled-start R xs = record { len = refl; done = λ k lt. absurd (omega arith); rest = λ k le. refl }

pub Filled-more : (R xs ys : List Bool) (i : ℕ) (y : Bool) → i < length xs → Filled R xs ys i → y ≡ get_or R i false
    → Filled R xs (set ys i y) (i + 1)
Filled-more R xs ys i y lt f e = record {
  len = length-set ys i y ∙ f.len;
  done = λ k below. elim (cases_lt k i) [
    | inl h ↦ let ne : k ≢ i = omega arith in get_or-set_other ys i k y false ne ∙ f.done k h
    | inr h ↦
        let same : i ≡ k = omega arith in
        subst (λ n. get_or (set ys i y) n false ≡ get_or R n false) same
        (get_or-set_same ys i y false (omega (arith, f.len)) ∙ e)
  ];
  rest = λ k above. let ne : k ≢ i = omega arith in get_or-set_other ys i k y false ne ∙ f.rest k (omega arith);
}

pub Filled-end : (R xs ys : List Bool) (n : ℕ) → length R ≡ length xs → n ≡ length xs → Filled R xs ys n → ys ≡ R
Filled-end R xs ys n len e f =
    ext_get_or false ys R (f.len ∙ sym len) (λ i lt. f.done i (omega (arith, f.len)))

-- the cells from i on are those of the row R, the others those of xs
pub record Settled (R xs ys : List Bool) (i : ℕ) : Type 0 where
  pub len : length ys ≡ length xs
  pub done : (k : ℕ) → i ≤ k → k < length xs → get_or ys k false ≡ get_or R k false
  pub rest : (k : ℕ) → k < i → get_or ys k false ≡ get_or xs k false

pub Settled-start : (R xs : List Bool) → Settled R xs xs (length xs)
Settled-start R xs = record { len = refl; done = λ k le lt. absurd (omega arith); rest = λ k lt. refl }

pub Settled-more : (R xs ys : List Bool) (i j : ℕ) (y : Bool) → i + 1 ≡ j → j ≤ length xs → Settled R xs ys j
    → y ≡ get_or R i false
    → Settled R xs (set ys i y) i
Settled-more R xs ys i j y step le s e = record {
  len = length-set ys i y ∙ s.len;
  done = λ k above lt. elim (cases_lt i k) [
    | inl h ↦ let ne : k ≢ i = omega arith in get_or-set_other ys i k y false ne ∙ s.done k (omega arith) lt
    | inr h ↦
        let same : i ≡ k = omega arith in
        subst (λ n. get_or (set ys i y) n false ≡ get_or R n false) same
        (get_or-set_same ys i y false (omega (arith, s.len)) ∙ e)
  ];
  rest = λ k below. let ne : k ≢ i = omega arith in get_or-set_other ys i k y false ne ∙ s.rest k (omega arith);
}

pub Settled-end : (R xs ys : List Bool) → length R ≡ length xs → Settled R xs ys 0 → ys ≡ R
Settled-end R xs ys len s =
    ext_get_or false ys R (s.len ∙ sym len) (λ i lt. s.done i (omega arith) (omega (arith, s.len)))
