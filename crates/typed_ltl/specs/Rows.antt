-- Serves proofs only. How truth on a lasso is computed: a row has the truth value of one formula at each state of the
-- lasso. That rows tell the truth is a law of its own (`RowsAreRight`), so `holds_on` speaks of truth alone.
use Rattle.std.specs.Prelude.{◌≡◌, ℕ, ◌+◌, ◌<◌, ◌↔◌, Bool, true, false, not, ◌&&◌, ◌||◌, List, [], ◌∷◌, length}
use Rattle.std.specs.Prelude.{get_or, replicate}
use Rattle.port_types.specs.declared.types.Value.{Value}
use Rattle.typed_ltl.specs.Formulas.{Proposition, Ltl}
use Rattle.typed_ltl.specs.Formulas as form
use Rattle.typed_ltl.specs.Traces.{assignment, word}
use Rattle.typed_ltl.specs.Truth.{proposition_truth, Holds}

-- `after` is the state that follows the last one
abbrev pub proposition_row : Proposition → List Value → List (List Value) → List Bool
proposition_row a after [] = []
proposition_row a after (s ∷ rest) =
    proposition_truth (assignment s) (assignment (get_or rest 0 after)) a ∷ proposition_row a after rest

abbrev pub not_row : List Bool → List Bool
not_row [] = []
not_row (f ∷ fs) = not f ∷ not_row fs

abbrev pub and_row : List Bool → List Bool → List Bool
and_row [] gs = []
and_row (f ∷ fs) [] = []
and_row (f ∷ fs) (g ∷ gs) = (f && g) ∷ and_row fs gs

abbrev pub iff_row : List Bool → List Bool → List Bool
iff_row [] gs = []
iff_row (f ∷ fs) [] = []
iff_row (f ∷ fs) (g ∷ gs) = ((f && g) || (not f && not g)) ∷ iff_row fs gs

-- `after` is the truth value behind the last state
abbrev pub successor_row : Bool → List Bool → List Bool
successor_row after [] = []
successor_row after (f ∷ fs) = get_or fs 0 after ∷ successor_row after fs

abbrev pub until_back : Bool → List Bool → List Bool → List Bool
until_back after [] gs = []
until_back after (f ∷ fs) [] = []
until_back after (f ∷ fs) (g ∷ gs) = (g || (f && get_or (until_back after fs gs) 0 after)) ∷ until_back after fs gs

abbrev pub then_row : ℕ → List Bool → List Bool
then_row l fs = successor_row (get_or fs l false) fs

-- one pass from the end tells the until at the loop's first state, the next one tells it everywhere
abbrev pub until_row : ℕ → List Bool → List Bool → List Bool
until_row l fs gs = until_back (get_or (until_back false fs gs) l false) fs gs

abbrev pub future_row : ℕ → List Bool → List Bool
future_row l fs = until_row l (replicate (length fs) true) fs

-- the row of a formula on the lasso of these states
abbrev pub truth_row : List (List Value) → ℕ → Ltl → List Bool
truth_row states l form.True = replicate (length states) true
truth_row states l form.False = replicate (length states) false
truth_row states l (form.Atomic a) = proposition_row a (get_or states l []) states
truth_row states l (form.Not f) = not_row (truth_row states l f)
truth_row states l (form.And f g) = and_row (truth_row states l f) (truth_row states l g)
truth_row states l (form.Or f g) = not_row (and_row (not_row (truth_row states l f)) (not_row (truth_row states l g)))
truth_row states l (form.Implies f g) = not_row (and_row (truth_row states l f) (not_row (truth_row states l g)))
truth_row states l (form.Iff f g) = iff_row (truth_row states l f) (truth_row states l g)
truth_row states l (form.Then f) = then_row l (truth_row states l f)
truth_row states l (form.Until f g) = until_row l (truth_row states l f) (truth_row states l g)
truth_row states l (form.Releases f g) =
    not_row (until_row l (not_row (truth_row states l f)) (not_row (truth_row states l g)))
truth_row states l (form.Future f) = future_row l (truth_row states l f)
truth_row states l (form.Always f) = not_row (future_row l (not_row (truth_row states l f)))
truth_row states l (form.Never f) = not_row (future_row l (truth_row states l f))

-- The row of a formula on a lasso has its truth on the word, at each state.
abbrev pub RowsAreRight : Type 0
RowsAreRight = (states : List (List Value)) (l : ℕ) → l < length states
    → (f : Ltl) (i : ℕ) → i < length states
    → (get_or (truth_row states l f) i false ≡ true) ↔ Holds (word states l) f i
