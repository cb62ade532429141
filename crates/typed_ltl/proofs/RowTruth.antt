use Rattle.std.proofs.Common.{◌≡◌, ℕ, suc, ◌+◌, ◌-◌, ◌<◌, ◌↔◌, Bool, true, false, not, ◌&&◌, ◌||◌, ◌⊎◌, List, [], length, get_or, replicate, refl, sym, ap}
use Rattle.std.proofs.Common.{◌∙◌, subst, arith}
use Rattle.std.proofs.lemmas.List.{length-replicate, get_or-replicate, get_or_past, get_or_default}
use Rattle.std.proofs.lemmas.Bool.{and_from, and_parts, cases_lt, not-true, not_from_false, false_from_ne_true}
use Rattle.std.proofs.Math.Logic.{inl, inr}
use Rattle.port_types.specs.declared.types.Value.{Value}
use Rattle.typed_ltl.specs.Formulas as form
use Rattle.typed_ltl.specs.Formulas.{Ltl, Proposition}
use Rattle.typed_ltl.specs.Traces.{word}
use Rattle.typed_ltl.specs.Truth.{Holds, HoldsUntil, proposition_truth}
use Rattle.typed_ltl.specs.Rows.{proposition_row, not_row, and_row, iff_row, until_back, then_row, until_row, future_row, truth_row}
use Rattle.typed_ltl.specs.Rows.{RowsAreRight}
use Rattle.typed_ltl.proofs.Derived.{or_is_core, implies_is_core, future_is_core, always_is_core, never_is_core, releases_is_core}
use Rattle.typed_ltl.proofs.Periodicity.{Repeats, until_repeats, truth_repeats, words_recur}
use Rattle.typed_ltl.proofs.RowPlaces.{length_not, at_not, length_and, at_and, length_iff, at_iff, length_successor_row, at_successor_row, length_until}
use Rattle.typed_ltl.proofs.RowPlaces.{at_until, length_proposition_row, proposition_on_word}
use Rattle.typed_ltl.proofs.Untils.{Table, Backwards, until_told, until_tells}

-- a row has the truth of P at each of n states
pub record Shows (n : ℕ) (fs : List Bool) (P : ℕ → Type 0) : Type 0 where
  pub len : length fs ≡ n
  pub told : (i : ℕ) → i < n → get_or fs i false ≡ true → P i
  pub tells : (i : ℕ) → i < n → P i → get_or fs i false ≡ true

-- ---- one lemma for each operation on rows

not_shows : (n : ℕ) (fs : List Bool) (P : ℕ → Type 0) → Shows n fs P → Shows n (not_row fs) (λ i. P i → ⊥)
not_shows n fs P s = record {
  len = length_not fs ∙ s.len;
  told = λ i lt h p.
      let e : not (get_or fs i false) ≡ true = sym (at_not fs i (omega (arith, s.len))) ∙ h in
      let no : get_or fs i false ≡ false = not-true (get_or fs i false) e in
      let yes : get_or fs i false ≡ true = s.tells i lt p in
      cc;
  tells = λ i lt np.
      at_not fs i (omega (arith, s.len)) ∙ not_from_false (get_or fs i false) (false_from_ne_true (get_or fs i false) (λ h. np (s.told i lt h)));
}

and_shows : (n : ℕ) (fs gs : List Bool) (P Q : ℕ → Type 0) → Shows n fs P → Shows n gs Q
    → Shows n (and_row fs gs) (λ i. P i × Q i)
and_shows n fs gs P Q s t =
    let e : length fs ≡ length gs = s.len ∙ sym t.len in
    record {
      len = length_and fs gs e ∙ s.len;
      told = λ i lt h.
          let both = and_parts (get_or fs i false) (get_or gs i false) (sym (at_and fs gs i e (omega (arith, s.len))) ∙ h) in
          (s.told i lt both.0, t.told i lt both.1);
      tells = λ i lt h.
          at_and fs gs i e (omega (arith, s.len)) ∙ and_from (get_or fs i false) (get_or gs i false) (s.tells i lt h.0) (t.tells i lt h.1);
    }

iff_cases : (a b : Bool) (P Q : Type 0) → (a ≡ true → P) → (P → a ≡ true) → (b ≡ true → Q) → (Q → b ≡ true)
    → ((((a && b) || (not a && not b)) ≡ true) → (P → Q) × (Q → P))
    × ((P → Q) × (Q → P) → ((a && b) || (not a && not b)) ≡ true)
iff_cases true true P Q ap pa bq qb = (λ h. (λ p. bq refl, λ q. ap refl), λ h. refl)
iff_cases true false P Q ap pa bq qb =
    (λ h. absurd (let no : ◌≡◌ {A = Bool} false true = h in cc), λ h. let no : false ≡ true = qb (h.0 (ap refl)) in no)
iff_cases false true P Q ap pa bq qb =
    (λ h. absurd (let no : ◌≡◌ {A = Bool} false true = h in cc), λ h. let no : false ≡ true = pa (h.1 (bq refl)) in no)
iff_cases false false P Q ap pa bq qb =
    (λ h. (λ p. absurd (let no : false ≡ true = pa p in cc), λ q. absurd (let no : false ≡ true = qb q in cc)), λ h. refl)

iff_shows : (n : ℕ) (fs gs : List Bool) (P Q : ℕ → Type 0) → Shows n fs P → Shows n gs Q
    → Shows n (iff_row fs gs) (λ i. (P i → Q i) × (Q i → P i))
iff_shows n fs gs P Q s t =
    let e : length fs ≡ length gs = s.len ∙ sym t.len in
    record {
      len = length_iff fs gs e ∙ s.len;
      told = λ i lt h.
          (iff_cases (get_or fs i false) (get_or gs i false) (P i) (Q i) (s.told i lt) (s.tells i lt) (t.told i lt) (t.tells i lt)).0
          (sym (at_iff fs gs i e (omega (arith, s.len))) ∙ h);
      tells = λ i lt h.
          at_iff fs gs i e (omega (arith, s.len)) ∙
          (iff_cases (get_or fs i false) (get_or gs i false) (P i) (Q i) (s.told i lt) (s.tells i lt) (t.told i lt) (t.tells i lt)).1 h;
    }

-- the next state of the last one is state l
next_at : (n l : ℕ) (fs : List Bool) (i : ℕ) → length fs ≡ n → i < n
    → ((suc i < n) × (get_or fs (suc i) (get_or fs l false) ≡ get_or fs (suc i) false))
    ⊎ ((suc i ≡ n) × (get_or fs (suc i) (get_or fs l false) ≡ get_or fs l false))
next_at n l fs i e lt =
    elim (cases_lt (suc i) n) [
      | inl h ↦ inl (h, get_or_default fs (suc i) (get_or fs l false) false (omega (arith, e)))
      | inr h ↦ inr (omega arith, get_or_past fs (suc i) (get_or fs l false) (omega (arith, e)))
    ]

then_shows : (n l : ℕ) (fs : List Bool) (P : ℕ → Type 0) → l < n → Repeats P l (n - l) → Shows n fs P
    → Shows n (then_row l fs) (λ i. P (i + 1))
then_shows n l fs P inside r s = record {
  len = length_successor_row (get_or fs l false) fs ∙ s.len;
  told = λ i lt h.
      let e : get_or fs (suc i) (get_or fs l false) ≡ true = sym (at_successor_row (get_or fs l false) fs i (omega (arith, s.len))) ∙ h in
      let one : suc i ≡ i + 1 = omega arith in
      subst P one (elim (next_at n l fs i s.len lt) [
        | inl h ↦ s.told (suc i) h.0 (sym h.1 ∙ e)
        | inr h ↦
            let turn : l + (n - l) ≡ suc i = omega (arith, h.0) in
            subst P turn ((r l (omega arith)).0 (s.told l inside (sym h.1 ∙ e)))
      ]);
  tells = λ i lt p.
      let one : i + 1 ≡ suc i = omega arith in
      let p' : P (suc i) = subst P one p in
      at_successor_row (get_or fs l false) fs i (omega (arith, s.len)) ∙
      elim (next_at n l fs i s.len lt) [
        | inl h ↦ h.1 ∙ s.tells (suc i) h.0 p'
        | inr h ↦
            let turn : suc i ≡ l + (n - l) = omega (arith, h.0) in
            h.1 ∙ s.tells l inside ((r l (omega arith)).1 (subst P turn p'))
      ];
}

-- a row as a table
table : (n : ℕ) (fs : List Bool) (P : ℕ → Type 0) → Shows n fs P → Table n (λ i. get_or fs i false) P
table n fs P s = record { told = s.told; tells = s.tells }

backwards : (n : ℕ) (after : Bool) (fs gs : List Bool) → length fs ≡ n → length fs ≡ length gs
    → Backwards n (λ i. get_or fs i false) (λ i. get_or gs i false) (λ i. get_or (until_back after fs gs) i after)
backwards n after fs gs len e = record {
  step = λ i lt.
      let one : suc i ≡ i + 1 = omega arith in
      subst (λ k. get_or (until_back after fs gs) i after ≡ (get_or gs i false || (get_or fs i false && get_or (until_back after fs gs) k after)))
      one (at_until after fs gs i e (omega (arith, len)));
}

until_shows : (n l : ℕ) (fs gs : List Bool) (P Q : ℕ → Type 0) → l < n → Repeats P l (n - l) → Repeats Q l (n - l)
    → Shows n fs P → Shows n gs Q → Shows n (until_row l fs gs) (HoldsUntil P Q)
until_shows n l fs gs P Q inside rp rq s t =
    let e : length fs ≡ length gs = s.len ∙ sym t.len in
    let after : Bool = get_or (until_back false fs gs) l false in
    let len1 : length (until_back false fs gs) ≡ n = length_until false fs gs e ∙ s.len in
    let len2 : length (until_row l fs gs) ≡ n = length_until (get_or (until_back false fs gs) l false) fs gs e ∙ s.len in
    let starts : get_or (until_back false fs gs) n false ≡ false = get_or_past (until_back false fs gs) n false (omega (arith, len1)) in
    let goes_on : get_or (until_row l fs gs) n (get_or (until_back false fs gs) l false) ≡ get_or (until_back false fs gs) l false =
    get_or_past (until_row l fs gs) n (get_or (until_back false fs gs) l false) (omega (arith, len2)) in
    let first = backwards n false fs gs s.len e in
    let second = backwards n (get_or (until_back false fs gs) l false) fs gs s.len e in
    let ru = until_repeats P Q l (n - l) rp rq in
    record {
      len = len2;
      told = λ i lt h.
          until_told P Q n l (λ i. get_or fs i false) (λ i. get_or gs i false) (λ i. get_or (until_back false fs gs) i false)
          (λ i. get_or (until_row l fs gs) i (get_or (until_back false fs gs) l false))
          (table n fs P s) (table n gs Q t) first second inside starts goes_on rp rq ru i lt
          (get_or_default (until_row l fs gs) i (get_or (until_back false fs gs) l false) false (omega (arith, len2)) ∙ h);
      tells = λ i lt h.
          get_or_default (until_row l fs gs) i false (get_or (until_back false fs gs) l false) (omega (arith, len2)) ∙
          until_tells P Q n l (λ i. get_or fs i false) (λ i. get_or gs i false) (λ i. get_or (until_back false fs gs) i false)
          (λ i. get_or (until_row l fs gs) i (get_or (until_back false fs gs) l false))
          (table n fs P s) (table n gs Q t) first second inside starts goes_on rp rq ru i lt h;
    }

true_shows : (n : ℕ) (P : ℕ → Type 0) → ((i : ℕ) → P i) → Shows n (replicate n true) P
true_shows n P all = record {
  len = length-replicate n true;
  told = λ i lt h. all i;
  tells = λ i lt p. get_or-replicate n i true false lt;
}

false_shows : (n : ℕ) (P : ℕ → Type 0) → ((i : ℕ) → P i → ⊥) → Shows n (replicate n false) P
false_shows n P none = record {
  len = length-replicate n false;
  told = λ i lt h. absurd (let no : get_or (replicate n false) i false ≡ false = get_or-replicate n i false false lt in cc);
  tells = λ i lt p. absurd (none i p);
}

proposition_shows : (states : List (List Value)) (l : ℕ) (a : Proposition) → l < length states
    → Shows (length states) (proposition_row a (get_or states l []) states)
    (λ i. proposition_truth (word states l i) (word states l (i + 1)) a ≡ true)
proposition_shows states l a inside = record {
  len = length_proposition_row a (get_or states l []) states;
  told = λ i lt h. sym (proposition_on_word states l a inside i lt) ∙ h;
  tells = λ i lt h. proposition_on_word states l a inside i lt ∙ h;
}

shows_along : (n : ℕ) (fs : List Bool) (P Q : ℕ → Type 0) → ((i : ℕ) → P i ↔ Q i) → Shows n fs Q → Shows n fs P
shows_along n fs P Q e s = record {
  len = s.len;
  told = λ i lt h. (e i).1 (s.told i lt h);
  tells = λ i lt p. s.tells i lt ((e i).0 p);
}

future_shows : (n l : ℕ) (fs : List Bool) (T P : ℕ → Type 0) → l < n → ((i : ℕ) → T i) → Repeats P l (n - l)
    → Shows n fs P → Shows n (future_row l fs) (HoldsUntil T P)
future_shows n l fs T P inside all rp s =
    subst (λ k. Shows n (until_row l (replicate k true) fs) (HoldsUntil T P)) (sym s.len)
    (until_shows n l (replicate n true) fs T P inside (λ i le. (λ h. all (i + (n - l)), λ h. all i)) rp (true_shows n T all) s)

module _ (states : List (List Value)) (l : ℕ) (inside : l < length states) where
  repeats : (f : Ltl) → Repeats (Holds (word states l) f) l (length states - l)
  repeats f = truth_repeats (word states l) l (length states - l) (words_recur states l inside) f

  pub rows_show : (f : Ltl) → Shows (length states) (truth_row states l f) (Holds (word states l) f)
  rows_show form.True = true_shows (length states) (Holds (word states l) form.True) (λ i. tt)
  rows_show form.False = false_shows (length states) (Holds (word states l) form.False) (λ i h. h)
  rows_show (form.Atomic a) = proposition_shows states l a inside
  rows_show (form.Not f) = not_shows (length states) (truth_row states l f) (Holds (word states l) f) (rows_show f)
  rows_show (form.And f g) =
      and_shows (length states) (truth_row states l f) (truth_row states l g) (Holds (word states l) f) (Holds (word states l) g) (rows_show f)
      (rows_show g)
  rows_show (form.Or f g) =
      shows_along (length states) (truth_row states l (form.Or f g)) (Holds (word states l) (form.Or f g))
      (Holds (word states l) (form.Not (form.And (form.Not f) (form.Not g)))) (or_is_core f g (word states l))
      (not_shows (length states) (and_row (not_row (truth_row states l f)) (not_row (truth_row states l g)))
      (Holds (word states l) (form.And (form.Not f) (form.Not g)))
      (and_shows (length states) (not_row (truth_row states l f)) (not_row (truth_row states l g)) (Holds (word states l) (form.Not f))
      (Holds (word states l) (form.Not g))
      (not_shows (length states) (truth_row states l f) (Holds (word states l) f) (rows_show f))
      (not_shows (length states) (truth_row states l g) (Holds (word states l) g) (rows_show g))))
  rows_show (form.Implies f g) =
      shows_along (length states) (truth_row states l (form.Implies f g)) (Holds (word states l) (form.Implies f g))
      (Holds (word states l) (form.Not (form.And f (form.Not g)))) (implies_is_core f g (word states l))
      (not_shows (length states) (and_row (truth_row states l f) (not_row (truth_row states l g))) (Holds (word states l) (form.And f (form.Not g)))
      (and_shows (length states) (truth_row states l f) (not_row (truth_row states l g)) (Holds (word states l) f) (Holds (word states l) (form.Not g))
      (rows_show f)
      (not_shows (length states) (truth_row states l g) (Holds (word states l) g) (rows_show g))))
  rows_show (form.Iff f g) =
      iff_shows (length states) (truth_row states l f) (truth_row states l g) (Holds (word states l) f) (Holds (word states l) g) (rows_show f)
      (rows_show g)
  rows_show (form.Then f) =
      then_shows (length states) l (truth_row states l f) (Holds (word states l) f) inside (repeats f) (rows_show f)
  rows_show (form.Until f g) =
      until_shows (length states) l (truth_row states l f) (truth_row states l g) (Holds (word states l) f) (Holds (word states l) g) inside
      (repeats f) (repeats g) (rows_show f) (rows_show g)
  rows_show (form.Releases f g) =
      shows_along (length states) (truth_row states l (form.Releases f g)) (Holds (word states l) (form.Releases f g))
      (Holds (word states l) (form.Not (form.Until (form.Not f) (form.Not g)))) (releases_is_core f g (word states l))
      (not_shows (length states) (until_row l (not_row (truth_row states l f)) (not_row (truth_row states l g)))
      (Holds (word states l) (form.Until (form.Not f) (form.Not g)))
      (until_shows (length states) l (not_row (truth_row states l f)) (not_row (truth_row states l g)) (Holds (word states l) (form.Not f))
      (Holds (word states l) (form.Not g)) inside
      (repeats (form.Not f)) (repeats (form.Not g))
      (not_shows (length states) (truth_row states l f) (Holds (word states l) f) (rows_show f))
      (not_shows (length states) (truth_row states l g) (Holds (word states l) g) (rows_show g))))
  rows_show (form.Future f) =
      shows_along (length states) (truth_row states l (form.Future f)) (Holds (word states l) (form.Future f))
      (Holds (word states l) (form.Until form.True f)) (future_is_core f (word states l))
      (future_shows (length states) l (truth_row states l f) (Holds (word states l) form.True) (Holds (word states l) f) inside (λ i. tt) (repeats f)
      (rows_show f))
  rows_show (form.Always f) =
      shows_along (length states) (truth_row states l (form.Always f)) (Holds (word states l) (form.Always f))
      (Holds (word states l) (form.Not (form.Until form.True (form.Not f)))) (always_is_core f (word states l))
      (not_shows (length states) (future_row l (not_row (truth_row states l f))) (Holds (word states l) (form.Until form.True (form.Not f)))
      (future_shows (length states) l (not_row (truth_row states l f)) (Holds (word states l) form.True) (Holds (word states l) (form.Not f)) inside
      (λ i. tt) (repeats (form.Not f))
      (not_shows (length states) (truth_row states l f) (Holds (word states l) f) (rows_show f))))
  rows_show (form.Never f) =
      shows_along (length states) (truth_row states l (form.Never f)) (Holds (word states l) (form.Never f))
      (Holds (word states l) (form.Not (form.Until form.True f))) (never_is_core f (word states l))
      (not_shows (length states) (future_row l (truth_row states l f)) (Holds (word states l) (form.Until form.True f))
      (future_shows (length states) l (truth_row states l f) (Holds (word states l) form.True) (Holds (word states l) f) inside (λ i. tt) (repeats f)
      (rows_show f)))

pub rows_are_right : RowsAreRight
rows_are_right states l inside f i lt =
    let s = rows_show states l inside f in
    (s.told i lt, s.tells i lt)
