use Rattle.std.proofs.Common.{◌≡◌, ℕ, zero, suc, ◌+◌, ◌<◌, Bool, false, not, ◌&&◌, ◌||◌, List, [], ◌∷◌, length, get_or, refl, sym, ap, ◌∙◌, arith}
use Rattle.std.proofs.lemmas.List.{get_or_past, get_or_default}
use Rattle.std.proofs.lemmas.Bool.{cases_lt}
use Rattle.std.proofs.Math.Logic.{inl, inr}
use Rattle.port_types.specs.declared.types.Value.{Value}
use Rattle.typed_ltl.specs.Formulas.{Proposition}
use Rattle.typed_ltl.specs.Traces.{assignment, lasso_place, word}
use Rattle.typed_ltl.specs.Truth.{proposition_truth}
use Rattle.typed_ltl.specs.Rows.{proposition_row, not_row, and_row, iff_row, successor_row, until_back}
use Rattle.typed_ltl.proofs.Periodicity.{place_before, place_end}

-- ---- lengths and elements

pub length_not : (fs : List Bool) → length (not_row fs) ≡ length fs
length_not [] = refl
length_not (f ∷ fs) = ap suc (length_not fs)

pub at_not : (fs : List Bool) (i : ℕ) → i < length fs → get_or (not_row fs) i false ≡ not (get_or fs i false)
at_not [] i h = absurd (omega arith)
at_not (f ∷ fs) zero h = refl
at_not (f ∷ fs) (suc i) h = at_not fs i (omega arith)

pub length_and : (fs gs : List Bool) → length fs ≡ length gs → length (and_row fs gs) ≡ length fs
length_and [] gs e = refl
length_and (f ∷ fs) [] e = absurd (omega arith)
length_and (f ∷ fs) (g ∷ gs) e = ap suc (length_and fs gs (omega arith))

pub at_and : (fs gs : List Bool) (i : ℕ) → length fs ≡ length gs → i < length fs
    → get_or (and_row fs gs) i false ≡ (get_or fs i false && get_or gs i false)
at_and [] gs i e h = absurd (omega arith)
at_and (f ∷ fs) [] i e h = absurd (omega arith)
at_and (f ∷ fs) (g ∷ gs) zero e h = refl
at_and (f ∷ fs) (g ∷ gs) (suc i) e h = at_and fs gs i (omega arith) (omega arith)

pub length_iff : (fs gs : List Bool) → length fs ≡ length gs → length (iff_row fs gs) ≡ length fs
length_iff [] gs e = refl
length_iff (f ∷ fs) [] e = absurd (omega arith)
length_iff (f ∷ fs) (g ∷ gs) e = ap suc (length_iff fs gs (omega arith))

pub at_iff : (fs gs : List Bool) (i : ℕ) → length fs ≡ length gs → i < length fs
    → get_or (iff_row fs gs) i false
    ≡ ((get_or fs i false && get_or gs i false) || (not (get_or fs i false) && not (get_or gs i false)))
at_iff [] gs i e h = absurd (omega arith)
at_iff (f ∷ fs) [] i e h = absurd (omega arith)
at_iff (f ∷ fs) (g ∷ gs) zero e h = refl
at_iff (f ∷ fs) (g ∷ gs) (suc i) e h = at_iff fs gs i (omega arith) (omega arith)

pub length_successor_row : (after : Bool) (fs : List Bool) → length (successor_row after fs) ≡ length fs
length_successor_row after [] = refl
length_successor_row after (f ∷ fs) = ap suc (length_successor_row after fs)

pub at_successor_row : (after : Bool) (fs : List Bool) (i : ℕ) → i < length fs
    → get_or (successor_row after fs) i false ≡ get_or fs (suc i) after
at_successor_row after [] i h = absurd (omega arith)
at_successor_row after (f ∷ fs) zero h = refl
at_successor_row after (f ∷ fs) (suc i) h = at_successor_row after fs i (omega arith)

pub length_until : (after : Bool) (fs gs : List Bool) → length fs ≡ length gs
    → length (until_back after fs gs) ≡ length fs
length_until after [] gs e = refl
length_until after (f ∷ fs) [] e = absurd (omega arith)
length_until after (f ∷ fs) (g ∷ gs) e = ap suc (length_until after fs gs (omega arith))

pub at_until : (after : Bool) (fs gs : List Bool) (i : ℕ) → length fs ≡ length gs → i < length fs
    → get_or (until_back after fs gs) i after
    ≡ (get_or gs i false || (get_or fs i false && get_or (until_back after fs gs) (suc i) after))
at_until after [] gs i e h = absurd (omega arith)
at_until after (f ∷ fs) [] i e h = absurd (omega arith)
at_until after (f ∷ fs) (g ∷ gs) zero e h = refl
at_until after (f ∷ fs) (g ∷ gs) (suc i) e h = at_until after fs gs i (omega arith) (omega arith)

pub length_proposition_row : (a : Proposition) (after : List Value) (states : List (List Value))
    → length (proposition_row a after states) ≡ length states
length_proposition_row a after [] = refl
length_proposition_row a after (s ∷ rest) = ap suc (length_proposition_row a after rest)

pub at_proposition_row : (a : Proposition) (after : List Value) (states : List (List Value)) (i : ℕ) → i < length states
    → get_or (proposition_row a after states) i false
    ≡ proposition_truth (assignment (get_or states i [])) (assignment (get_or states (suc i) after)) a
at_proposition_row a after [] i h = absurd (omega arith)
at_proposition_row a after (s ∷ rest) zero h = refl
at_proposition_row a after (s ∷ rest) (suc i) h = at_proposition_row a after rest i (omega arith)

-- the row of an atom has its truth on the word
pub proposition_on_word : (states : List (List Value)) (l : ℕ) (a : Proposition) → l < length states → (i : ℕ)
    → i < length states
    → get_or (proposition_row a (get_or states l []) states) i false
    ≡ proposition_truth (word states l i) (word states l (i + 1)) a
proposition_on_word states l a inside i lt =
    let one : suc i ≡ i + 1 = omega arith in
    let now : get_or states i [] ≡ get_or states (lasso_place (length states) l i) [] = ap (λ k. get_or states k [])
    (sym (place_before (length states) l i lt)) in
    let next : get_or states (suc i) (get_or states l []) ≡ get_or states (lasso_place (length states) l (i + 1)) [] =
    elim (cases_lt (suc i) (length states)) [
      | inl h ↦ get_or_default states (suc i) (get_or states l []) [] h
          ∙ ap (λ k. get_or states k []) (one ∙ sym (place_before (length states) l (i + 1) (omega arith)))
      | inr h ↦
          let turn : i + 1 ≡ length states = omega arith in
          get_or_past states (suc i) (get_or states l []) h
          ∙ ap (λ k. get_or states k []) (sym (place_end (length states) l (i + 1) inside turn))
    ] in
    at_proposition_row a (get_or states l []) states i lt
    ∙ (ap (λ x. proposition_truth (assignment x) (assignment (get_or states (suc i) (get_or states l []))) a) now
    ∙ ap (λ x. proposition_truth (assignment (get_or states (lasso_place (length states) l i) [])) (assignment x) a) next)
