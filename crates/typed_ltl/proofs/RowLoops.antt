use Rattle.std.proofs.Common.{◌≡◌, ℕ, suc, ◌+◌, ◌-◌, ◌<◌, ◌≤◌, Bool, false, not, ◌&&◌, ◌||◌, List, [], length, get_or, set, sym, ap, ◌∙◌, subst, arith}
use Rattle.std.proofs.lemmas.List.{get_or_past, get_or_default}
use Rattle.port_types.specs.declared.types.Value.{Value}
use Rattle.typed_ltl.specs.Formulas.{Proposition}
use Rattle.typed_ltl.specs.Traces.{assignment, lasso_place, word}
use Rattle.typed_ltl.specs.Truth.{proposition_truth, IsModerateProposition}
use Rattle.typed_ltl.specs.Rows.{proposition_row, not_row, and_row, iff_row, then_row, until_back}
use Rattle.typed_ltl.proofs.Periodicity.{place_before}
use Rattle.typed_ltl.proofs.RowPlaces.{length_not, at_not, length_and, at_and, length_iff, at_iff, length_successor_row, at_successor_row, length_until}
use Rattle.typed_ltl.proofs.RowPlaces.{at_until, length_proposition_row, proposition_on_word}
use Rattle.typed_ltl.proofs.RowSteps.{Filled, Filled-more, Filled-end, Settled, Settled-more, Settled-end}

-- One step and the end of each loop over rows.

pub negate_more : (xs ys : List Bool) (i : ℕ) → i < length xs → Filled (not_row xs) xs ys i
    → Filled (not_row xs) xs (set ys i (not (get_or ys i false))) (i + 1)
negate_more xs ys i lt f =
    Filled-more (not_row xs) xs ys i (not (get_or ys i false)) lt f
    (ap not (f.rest i (omega arith)) ∙ sym (at_not xs i lt))

pub negate_end : (xs ys : List Bool) (n : ℕ) → n ≡ length xs → Filled (not_row xs) xs ys n → ys ≡ not_row xs
negate_end xs ys n e f = Filled-end (not_row xs) xs ys n (length_not xs) e f

pub conjoin_more : (xs gs ys : List Bool) (i : ℕ) → length gs ≡ length xs → i < length xs
    → Filled (and_row xs gs) xs ys i
    → Filled (and_row xs gs) xs (set ys i (get_or ys i false && get_or gs i false)) (i + 1)
conjoin_more xs gs ys i len lt f =
    Filled-more (and_row xs gs) xs ys i (get_or ys i false && get_or gs i false) lt f
    (ap (λ x. x && get_or gs i false) (f.rest i (omega arith)) ∙ sym (at_and xs gs i (sym len) lt))

pub conjoin_end : (xs gs ys : List Bool) (n : ℕ) → length gs ≡ length xs → n ≡ length xs
    → Filled (and_row xs gs) xs ys n → ys ≡ and_row xs gs
conjoin_end xs gs ys n len e f = Filled-end (and_row xs gs) xs ys n (length_and xs gs (sym len)) e f

pub equate_more : (xs gs ys : List Bool) (i : ℕ) → length gs ≡ length xs → i < length xs
    → Filled (iff_row xs gs) xs ys i
    → Filled (iff_row xs gs) xs
    (set ys i ((get_or ys i false && get_or gs i false) || (not (get_or ys i false) && not (get_or gs i false)))) (i + 1)
equate_more xs gs ys i len lt f =
    Filled-more (iff_row xs gs) xs ys i ((get_or ys i false && get_or gs i false) || (not (get_or ys i false) && not (get_or gs i false))) lt f
    (ap (λ x. (x && get_or gs i false) || (not x && not (get_or gs i false))) (f.rest i (omega arith)) ∙ sym (at_iff xs gs i (sym len) lt))

pub equate_end : (xs gs ys : List Bool) (n : ℕ) → length gs ≡ length xs → n ≡ length xs
    → Filled (iff_row xs gs) xs ys n → ys ≡ iff_row xs gs
equate_end xs gs ys n len e f = Filled-end (iff_row xs gs) xs ys n (length_iff xs gs (sym len)) e f

-- what a read of a list gives is its element, at any default
read_at : (states : List (List Value)) (i : ℕ) (x : List Value) → i < length states → x ≡ get_or states i x
    → x ≡ get_or states i []
read_at states i x lt e = e ∙ get_or_default states i x [] lt

-- the valuations that are read at a position of a lasso: its own, and the next one's
pub record AreReadAt (states : List (List Value)) (l i next : ℕ) (now after : List Value) : Type 0 where
  pub inside : i < length states
  pub within : next < length states
  pub next_is : next ≡ lasso_place (length states) l (i + 1)
  pub now_is : now ≡ get_or states i now
  pub after_is : after ≡ get_or states next after

-- as positions of the lasso's word
word_now : (states : List (List Value)) (l i next : ℕ) (now after : List Value) → AreReadAt states l i next now after
    → now ≡ get_or states (lasso_place (length states) l i) []
word_now states l i next now after r =
    read_at states i now r.inside r.now_is ∙ ap (λ k. get_or states k []) (sym (place_before (length states) l i r.inside))

word_after : (states : List (List Value)) (l i next : ℕ) (now after : List Value) → AreReadAt states l i next now after
    → after ≡ get_or states (lasso_place (length states) l (i + 1)) []
word_after states l i next now after r =
    read_at states next after r.within r.after_is ∙ ap (λ k. get_or states k []) r.next_is

pub atom_fits : (states : List (List Value)) (l : ℕ) (a : Proposition) (i next : ℕ) (now after : List Value)
    → AreReadAt states l i next now after
    → ((k : ℕ) → IsModerateProposition (word states l k) (word states l (k + 1)) a)
    → IsModerateProposition (assignment now) (assignment after) a
atom_fits states l a i next now after r fits =
    subst (λ x. IsModerateProposition (assignment now) (assignment x) a) (sym (word_after states l i next now after r))
    (subst (λ x. IsModerateProposition (assignment x) (word states l (i + 1)) a) (sym (word_now states l i next now after r)) (fits i))

pub atom_more : (states : List (List Value)) (l : ℕ) (a : Proposition) (i next : ℕ) (now after : List Value)
    (xs ys : List Bool) (y : Bool)
    → l < length states → length xs ≡ length states → AreReadAt states l i next now after
    → y ≡ proposition_truth (assignment now) (assignment after) a
    → Filled (proposition_row a (get_or states l []) states) xs ys i
    → Filled (proposition_row a (get_or states l []) states) xs (set ys i y) (i + 1)
atom_more states l a i next now after xs ys y inside len r ey f =
    let lt = r.inside in
    Filled-more (proposition_row a (get_or states l []) states) xs ys i y (omega (arith, len)) f
    (ey
    ∙ (ap (λ x. proposition_truth (assignment x) (assignment after) a) (word_now states l i next now after r)
    ∙ (ap (λ x. proposition_truth (word states l i) (assignment x) a) (word_after states l i next now after r)
    ∙ sym (proposition_on_word states l a inside i lt))))

pub atom_end : (states : List (List Value)) (l : ℕ) (a : Proposition) (xs ys : List Bool) (n : ℕ)
    → length xs ≡ length states → n ≡ length xs
    → Filled (proposition_row a (get_or states l []) states) xs ys n
    → ys ≡ proposition_row a (get_or states l []) states
atom_end states l a xs ys n len e f =
    Filled-end (proposition_row a (get_or states l []) states) xs ys n (length_proposition_row a (get_or states l []) states ∙ sym len) e f

pub shift_more : (l : ℕ) (xs ys : List Bool) (j : ℕ) (later : Bool) → 0 < j → j ≤ length xs
    → Settled (then_row l xs) xs ys j → later ≡ get_or xs j (get_or xs l false)
    → Settled (then_row l xs) xs (set ys (j - 1) later) (j - 1)
shift_more l xs ys j later some le s e =
    let next : suc (j - 1) ≡ j = omega arith in
    Settled-more (then_row l xs) xs ys (j - 1) j later (omega arith) le s
    (e ∙ (ap (λ k. get_or xs k (get_or xs l false)) (sym next) ∙ sym (at_successor_row (get_or xs l false) xs (j - 1) (omega arith))))

pub shift_later : (l : ℕ) (xs ys : List Bool) (j : ℕ) → 0 < j → j ≤ length xs → Settled (then_row l xs) xs ys j
    → get_or ys (j - 1) false ≡ get_or xs (j - 1) (get_or xs l false)
shift_later l xs ys j some le s =
    s.rest (j - 1) (omega arith) ∙ get_or_default xs (j - 1) false (get_or xs l false) (omega arith)

pub shift_end : (l : ℕ) (xs ys : List Bool) (i : ℕ) → i ≤ 0 → Settled (then_row l xs) xs ys i → ys ≡ then_row l xs
shift_end l xs ys i le s =
    let none : i ≡ 0 = omega arith in
    Settled-end (then_row l xs) xs ys (length_successor_row (get_or xs l false) xs) (subst (Settled (then_row l xs) xs ys) none s)

pub until_start : (after : Bool) (fs gs : List Bool) → length gs ≡ length fs
    → after ≡ get_or (until_back after fs gs) (length fs) after
until_start after fs gs len =
    sym (get_or_past (until_back after fs gs) (length fs) after (omega (arith, length_until after fs gs (sym len))))

pub until_step : (after : Bool) (fs gs : List Bool) (j : ℕ) (holds : Bool) → length gs ≡ length fs → 0 < j
    → j ≤ length fs
    → holds ≡ get_or (until_back after fs gs) j after
    → (get_or gs (j - 1) false || (get_or fs (j - 1) false && holds)) ≡ get_or (until_back after fs gs) (j - 1) after
until_step after fs gs j holds len some le e =
    let next : j ≡ suc (j - 1) = omega arith in
    ap (λ x. get_or gs (j - 1) false || (get_or fs (j - 1) false && x)) (e ∙ ap (λ k. get_or (until_back after fs gs) k after) next)
    ∙ sym (at_until after fs gs (j - 1) (sym len) (omega arith))

pub until_holds : (after : Bool) (xs gs ys : List Bool) (j : ℕ) (holds : Bool) → length gs ≡ length xs → 0 < j
    → j ≤ length xs
    → Settled (until_back after xs gs) xs ys j → holds ≡ get_or (until_back after xs gs) j after
    → (get_or gs (j - 1) false || (get_or ys (j - 1) false && holds)) ≡ get_or (until_back after xs gs) (j - 1) after
until_holds after xs gs ys j holds len some le s e =
    ap (λ x. get_or gs (j - 1) false || (x && holds)) (s.rest (j - 1) (omega arith))
    ∙ until_step after xs gs j holds len some le e

pub until_more : (after : Bool) (xs gs ys : List Bool) (j : ℕ) (holds : Bool) → length gs ≡ length xs → 0 < j
    → j ≤ length xs
    → Settled (until_back after xs gs) xs ys j → holds ≡ get_or (until_back after xs gs) j after
    → Settled (until_back after xs gs) xs
    (set ys (j - 1) (get_or gs (j - 1) false || (get_or ys (j - 1) false && holds))) (j - 1)
until_more after xs gs ys j holds len some le s e =
    Settled-more (until_back after xs gs) xs ys (j - 1) j (get_or gs (j - 1) false || (get_or ys (j - 1) false && holds)) (omega arith) le s
    (until_holds after xs gs ys j holds len some le s e
    ∙ get_or_default (until_back after xs gs) (j - 1) after false (omega (arith, length_until after xs gs (sym len))))

pub until_end : (after : Bool) (xs gs ys : List Bool) (i : ℕ) → length gs ≡ length xs → i ≤ 0
    → Settled (until_back after xs gs) xs ys i → ys ≡ until_back after xs gs
until_end after xs gs ys i len le s =
    let none : i ≡ 0 = omega arith in
    Settled-end (until_back after xs gs) xs ys (length_until after xs gs (sym len)) (subst (Settled (until_back after xs gs) xs ys) none s)
