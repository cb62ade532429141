-- The trail: what a push and a backtrack do, and that no literal is both true and false.
use Rattle.std.proofs.Common.{◌≡◌, ◌≢◌, ◌<◌, ◌≤◌, ℕ, zero, suc, Bool, true, false, not, List, [], ◌∷◌, ◌++◌, length, take, set, get_or, Option}
use Rattle.std.proofs.Common.{Some, None, refl, sym, ap, ◌∙◌, inl, inr, arith}
use Rattle.std.proofs.lemmas.List.{get_or_append_left, get_or_push, length_push, get_or-take, get_or-set_same, get_or-set_other, get_or_past, length-set}
use Rattle.std.proofs.lemmas.List.{get_or_read}
use Rattle.std.proofs.lemmas.Bool.{cases_lt, cases_eq}
use mathlib.Core.Bool.{beq}
use Rattle.cnf.specs.declared.lit.Lit.{Lit}
use Rattle.cnf.specs.Clauses.{opposite}
use Rattle.sat_core.specs.declared.trail.Step.{Step}
use Rattle.sat_core.specs.Search.{step_at, lit_at, no_step, MadeTrue, IsUnassigned, IsTrail, unassigned_count, ValueIs, value_of}

abbrev pub lit_of : ℕ → Bool → Lit
lit_of v s = record { var = v; positive = s }

-- two literals of one variable with one sign are one literal
pub same_lit : (a b : Lit) → a.var ≡ b.var → a.positive ≡ b.positive → a ≡ b
same_lit a b v p = ap (λ (n : ℕ). lit_of n a.positive) v ∙ ap (λ (s : Bool). lit_of b.var s) p

pub opposite-opposite : (a : Lit) → opposite (opposite a) ≡ a
opposite-opposite a = same_lit _ _ refl (elim a.positive as (λ s. not (not s) ≡ s) [ true ↦ refl | false ↦ refl ])

not≢ : (b : Bool) → b ≡ not b → ⊥
not≢ true e = cc
not≢ false e = cc

pub not_opposite : (a : Lit) → a ≡ opposite a → ⊥
not_opposite a e = not≢ a.positive (ap (λ (l : Lit). l.positive) e)

-- the other sign
pub other_sign : (a b : Bool) → (a ≡ b → ⊥) → a ≡ not b
other_sign true true h = absurd (h refl)
other_sign true false h = refl
other_sign false true h = refl
other_sign false false h = absurd (h refl)

-- the steps before a push stand
pub step_at-push : (steps : List Step) (step : Step) (p : ℕ) → p < length steps
    → step_at (steps ++ step ∷ []) p ≡ step_at steps p
step_at-push steps step p h = get_or_append_left steps (step ∷ []) no_step p h

pub step_at-last : (steps : List Step) (step : Step) → step_at (steps ++ step ∷ []) (length steps) ≡ step
step_at-last steps step = get_or_push steps step no_step (length steps) refl

pub step_at-take : (steps : List Step) (n p : ℕ) → p < n → step_at (take n steps) p ≡ step_at steps p
step_at-take steps n p h = get_or-take n steps p no_step h

pub MadeTrue-push : (steps : List Step) (step : Step) (n : ℕ) (lit : Lit) → n ≤ length steps → MadeTrue steps n lit
    → MadeTrue (steps ++ step ∷ []) n lit
MadeTrue-push steps step n lit h m = (m.0, m.1, ap (λ (s : Step). s.lit) (step_at-push steps step m.0 (omega (arith, m.1))) ∙ m.2)

pub MadeTrue-later : (steps : List Step) (n m : ℕ) (lit : Lit) → n ≤ m → MadeTrue steps n lit → MadeTrue steps m lit
MadeTrue-later steps n m lit h t = (t.0, omega (arith, t.1), t.2)

pub MadeTrue-take : (steps : List Step) (keep n : ℕ) (lit : Lit) → n ≤ keep → MadeTrue steps n lit
    → MadeTrue (take keep steps) n lit
MadeTrue-take steps keep n lit h t = (t.0, t.1, ap (λ (s : Step). s.lit) (step_at-take steps keep t.0 (omega (arith, t.1))) ∙ t.2)

some_same : (a b : ℕ) → Some a ≡ Some b → a ≡ b
some_same a b e = cc

module _ (steps : List Step) (places : List (Option ℕ)) (trail : IsTrail steps places) where
  -- a variable stands at one place
  pub one_place : (p q : ℕ) → p < length steps → q < length steps → (lit_at steps p).var ≡ (lit_at steps q).var → p ≡ q
  one_place p q hp hq e =
      some_same p q (sym (trail.placed p hp) ∙ ap (λ v. get_or places v None) e ∙ trail.placed q hq)

  -- no literal is both true and false
  pub not_both : (lit : Lit) → MadeTrue steps (length steps) lit → MadeTrue steps (length steps) (opposite lit) → ⊥
  not_both lit a b =
      let e : a.0 ≡ b.0 = one_place a.0 b.0 a.1 b.1 (ap (λ (l : Lit). l.var) a.2 ∙ sym (ap (λ (l : Lit). l.var) b.2)) in
      not_opposite lit (sym a.2 ∙ ap (λ p. lit_at steps p) e ∙ b.2)

  -- the variable of a step is below the number of variables
  pub var_within : (p : ℕ) → p < length steps → (lit_at steps p).var < length places
  var_within p h =
      elim (cases_lt ((lit_at steps p).var) (length places)) [
        | inl w ↦ w
        | inr past ↦ let e : Some p ≡ None = sym (trail.placed p h) ∙ get_or_past places _ None past in absurd (cc)
      ]

  pub MadeTrue-within : (lit : Lit) → MadeTrue steps (length steps) lit → lit.var < length places
  MadeTrue-within lit t = rw (← ap (λ (l : Lit). l.var) t.2) (var_within t.0 t.1)

  -- a variable without a place is free
  pub free_from_none : (var : ℕ) → get_or places var None ≡ None → IsUnassigned steps var
  free_from_none var none p h e =
      let at : get_or places var None ≡ Some p = rw (← e) (trail.placed p h) in
      absurd (cc)

  pub counted_le : length steps ≤ length places
  counted_le = omega (arith, trail.counted)

-- a free variable's literals are neither true nor false
pub free_not_true : (steps : List Step) (lit : Lit) → IsUnassigned steps lit.var → MadeTrue steps (length steps) lit → ⊥
free_not_true steps lit free t = free t.0 t.1 (ap (λ (l : Lit). l.var) t.2)

-- counts
pub unassigned_count-fill : (places : List (Option ℕ)) (v p : ℕ) → v < length places → get_or places v None ≡ None
    → suc (unassigned_count (set places v (Some p))) ≡ unassigned_count places
unassigned_count-fill [] v p h e = absurd (omega arith)
unassigned_count-fill (None ∷ places) zero p h e = refl
unassigned_count-fill (Some q ∷ places) zero p h e = absurd (cc)
unassigned_count-fill (None ∷ places) (suc v) p h e = ap suc (unassigned_count-fill places v p (omega arith) e)
unassigned_count-fill (Some q ∷ places) (suc v) p h e = unassigned_count-fill places v p (omega arith) e

pub unassigned_count-clear : (places : List (Option ℕ)) (v p : ℕ) → v < length places → get_or places v None ≡ Some p
    → unassigned_count (set places v None) ≡ suc (unassigned_count places)
unassigned_count-clear [] v p h e = absurd (omega arith)
unassigned_count-clear (None ∷ places) zero p h e = absurd (cc)
unassigned_count-clear (Some q ∷ places) zero p h e = refl
unassigned_count-clear (None ∷ places) (suc v) p h e = ap suc (unassigned_count-clear places v p (omega arith) e)
unassigned_count-clear (Some q ∷ places) (suc v) p h e = unassigned_count-clear places v p (omega arith) e

-- a push at a free variable keeps the places right
pub IsTrail-push : (steps : List Step) (places : List (Option ℕ)) (step : Step) → IsTrail steps places
    → step.lit.var < length places → get_or places (step.lit.var) None ≡ None
    → IsTrail (steps ++ step ∷ []) (set places (step.lit.var) (Some (length steps)))
IsTrail-push steps places step trail within none =
    let v = step.lit.var in
    let n = length steps in
    let grown = length_push steps step in
    record {
      stands = λ var place e. elim (cases_eq var v) [
        | inl same ↦ (
            let e' : get_or (set places v (Some n)) v None ≡ Some place = ap (λ w. get_or (set places v (Some n)) w None) (sym same) ∙ e in
            let at : place ≡ n = some_same place n (sym e' ∙ get_or-set_same places v (Some n) None within) in
            (omega arith, ap (λ p. (lit_at (steps ++ step ∷ []) p).var) at ∙ ap (λ (s : Step). s.lit.var) (step_at-last steps step) ∙ sym same))
        | inr other ↦ (
            let e' : get_or places var None ≡ Some place = sym (get_or-set_other places v var (Some n) None other) ∙ e in
            let old = trail.stands var place e' in
            (omega (arith, old.0), ap (λ (s : Step). s.lit.var) (step_at-push steps step place old.0) ∙ old.1))
      ];
      placed = λ place h. elim (cases_lt place n) [
        | inl before ↦ (
            let same : (lit_at (steps ++ step ∷ []) place).var ≡ (lit_at steps place).var = ap (λ (s : Step). s.lit.var)
            (step_at-push steps step place before) in
            let here = trail.placed place before in
            let other : (lit_at steps place).var ≢ v = λ e. let clash : None ≡ Some place = sym none ∙ ap (λ w. get_or places w None) (sym e)
            ∙ here in cc in
            ap (λ w. get_or (set places v (Some n)) w None) same ∙ get_or-set_other places v _ (Some n) None other ∙ here)
        | inr past ↦ (
            let at : place ≡ n = omega arith in
            ap (λ p. get_or (set places v (Some n)) ((lit_at (steps ++ step ∷ []) p).var) None) at
            ∙ ap (λ (s : Step). get_or (set places v (Some n)) (s.lit.var) None) (step_at-last steps step)
            ∙ get_or-set_same places v (Some n) None within
            ∙ ap Some (sym at))
      ];
      counted = omega (arith, grown, trail.counted, unassigned_count-fill places v n within none, length-set places v (Some n));
    }

-- taking back the last step keeps them right
pub IsTrail-pop : (steps : List Step) (places : List (Option ℕ)) (step : Step) → IsTrail (steps ++ step ∷ []) places
    → IsTrail steps (set places (step.lit.var) None)
IsTrail-pop steps places step trail =
    let v = step.lit.var in
    let n = length steps in
    let grown = length_push steps step in
    let last = step_at-last steps step in
    let here : get_or places v None ≡ Some n = ap (λ (s : Step). get_or places (s.lit.var) None) (sym last) ∙ trail.placed n (omega arith) in
    let within : v < length places = rw (← ap (λ (s : Step). s.lit.var) last) (var_within (steps ++ step ∷ []) places trail n (omega arith)) in
    record {
      stands = λ var place e. elim (cases_eq var v) [
        | inl same ↦ (
            let e' : get_or (set places v None) v None ≡ Some place = ap (λ w. get_or (set places v None) w None) (sym same) ∙ e in
            let clash : None ≡ Some place = sym (get_or-set_same places v None None within) ∙ e' in
            absurd (cc))
        | inr other ↦ (
            let e' : get_or places var None ≡ Some place = sym (get_or-set_other places v var None None other) ∙ e in
            let old = trail.stands var place e' in
            let not_last : place ≢ n = λ at. other (sym old.1 ∙ ap (λ p. (lit_at (steps ++ step ∷ []) p).var) at ∙ ap (λ (s : Step). s.lit.var) last) in
            let before : place < n = omega (arith, old.0) in
            (before, ap (λ (s : Step). s.lit.var) (sym (step_at-push steps step place before)) ∙ old.1))
      ];
      placed = λ place h.
          let same : (lit_at (steps ++ step ∷ []) place).var ≡ (lit_at steps place).var = ap (λ (s : Step). s.lit.var) (step_at-push steps step place h) in
          let old : get_or places ((lit_at steps place).var) None ≡ Some place = ap (λ w. get_or places w None) (sym same) ∙ trail.placed place
          (omega arith) in
          let other : (lit_at steps place).var ≢ v = λ e. let clash : Some n ≡ Some place = sym here ∙ ap (λ w. get_or places w None) (sym e)
          ∙ old in let at : n ≡ place = some_same n place clash in omega arith in
          get_or-set_other places v _ None None other ∙ old;
      counted = omega (arith, grown, trail.counted, unassigned_count-clear places v n within here, length-set places v None);
    }

-- what a step's sign says of a literal of its variable
value_sign : (steps : List Step) (places : List (Option ℕ)) (lit : Lit) (p : ℕ) (a b : Bool) → p < length steps
    → (lit_at steps p).var ≡ lit.var → (lit_at steps p).positive ≡ a → lit.positive ≡ b
    → ValueIs steps places lit (Some (beq a b))
value_sign steps places lit p true true h v x y = (p, h, same_lit _ _ v (x ∙ sym y))
value_sign steps places lit p true false h v x y = (p, h, same_lit _ _ v (x ∙ sym (ap not y)))
value_sign steps places lit p false true h v x y = (p, h, same_lit _ _ v (x ∙ sym (ap not y)))
value_sign steps places lit p false false h v x y = (p, h, same_lit _ _ v (x ∙ sym y))

-- a variable with a value has a place, where a literal of that sign stands
place_of_value : (steps : List Step) (place : Option ℕ) (b : Bool) → value_of steps place ≡ Some b
    → (p : ℕ) × (place ≡ Some p) × ((lit_at steps p).positive ≡ b)
place_of_value steps None b e = cc
place_of_value steps (Some p) b e = (p, refl, cc)

pub none_of_value : (steps : List Step) (place : Option ℕ) → value_of steps place ≡ None → place ≡ None
none_of_value steps None e = refl
none_of_value steps (Some p) e = cc

pub value_of_none : (steps : List Step) (place : Option ℕ) → place ≡ None → value_of steps place ≡ None
value_of_none steps None e = refl
value_of_none steps (Some p) e = cc

pub value_by_sign : (steps : List Step) (places : List (Option ℕ)) (lit : Lit) (b : Bool) → IsTrail steps places
    → value_of steps (get_or places (lit.var) None) ≡ Some b → ValueIs steps places lit (Some (beq b lit.positive))
value_by_sign steps places lit b trail told =
    let at = place_of_value steps (get_or places (lit.var) None) b told in
    let on = trail.stands (lit.var) at.0 at.1 in
    value_sign steps places lit at.0 b lit.positive on.0 on.1 at.2 refl

-- the value of a variable is the sign of each of its literals that was made true
pub sign_by_value : (steps : List Step) (places : List (Option ℕ)) (var : ℕ) (b : Bool) → IsTrail steps places
    → value_of steps (get_or places var None) ≡ Some b → (lit : Lit) → MadeTrue steps (length steps) lit
    → lit.var ≡ var → b ≡ lit.positive
sign_by_value steps places var b trail told lit t e =
    let at = place_of_value steps (get_or places var None) b told in
    let on = trail.stands var at.0 at.1 in
    let place : at.0 ≡ t.0 = one_place steps places trail at.0 t.0 on.0 t.1 (on.1 ∙ sym e ∙ ap (λ (l : Lit). l.var) (sym t.2)) in
    sym at.2 ∙ ap (λ q. (lit_at steps q).positive) place ∙ ap (λ (l : Lit). l.positive) t.2

pub no_sign : (steps : List Step) (places : List (Option ℕ)) (var : ℕ) (b : Bool) → IsTrail steps places
    → get_or places var None ≡ None → (lit : Lit) → MadeTrue steps (length steps) lit → lit.var ≡ var
    → b ≡ lit.positive
no_sign steps places var b trail none lit t e = absurd (free_from_none steps places trail var none t.0 t.1 (ap (λ (l : Lit). l.var) t.2 ∙ e))

-- where a variable has no place, there are fewer steps than variables
pub trail_room : (steps : List Step) (places : List (Option ℕ)) (v : ℕ) → IsTrail steps places → v < length places
    → get_or places v None ≡ None → length steps < length places
trail_room steps places v trail within none = omega (arith, trail.counted, unassigned_count-fill places v 0 within none)
