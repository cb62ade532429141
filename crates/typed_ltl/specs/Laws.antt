-- Laws of truth: it is stable under double negation, it recurs on ultimately periodic traces (Sistla and Clarke, The
-- Complexity of Propositional Linear Temporal Logics, 1985), and derived forms have the truth of their core forms
-- (Manna and Pnueli, The Temporal Logic of Reactive and Concurrent Systems, 1992).
use Rattle.std.specs.Prelude.{◌≡◌, ℕ, ◌+◌, ◌-◌, ◌<◌, ◌≤◌, ◌↔◌, List, length}
use Rattle.port_types.specs.declared.types.Value.{Value}
use Rattle.typed_ltl.specs.Formulas.{Ltl}
use Rattle.typed_ltl.specs.Formulas as form
use Rattle.typed_ltl.specs.Traces.{Trace, word}
use Rattle.typed_ltl.specs.Truth.{Holds}

-- The truth of each formula equals its double negation.
abbrev pub TruthIsStable : Type 0
TruthIsStable = (w : Trace) (f : Ltl) (i : ℕ) → ((Holds w f i → ⊥) → ⊥) → Holds w f i

-- From position l on the trace repeats itself after p positions.
abbrev pub Recurs : Trace → ℕ → ℕ → Type 0
Recurs w l p = (i : ℕ) → l ≤ i → w (i + p) ≡ w i

-- Where a trace repeats itself, so does the truth of each formula, whether or not it reads next values.
abbrev pub TruthRecurs : Type 0
TruthRecurs = (w : Trace) (l p : ℕ) → Recurs w l p → (f : Ltl) (i : ℕ) → l ≤ i
    → Holds w f i ↔ Holds w f (i + p)

-- The word of a lasso repeats itself from the loop on, after as many positions as the loop has.
abbrev pub WordsRecur : Type 0
WordsRecur = (states : List (List Value)) (loop_at : ℕ) → loop_at < length states
    → Recurs (word states loop_at) loop_at (length states - loop_at)

-- So lasso periodicity: from the loop on, truth at i and at i + n - loop_at agree.
abbrev pub LassoTruthRecurs : Type 0
LassoTruthRecurs = (states : List (List Value)) (loop_at : ℕ) → loop_at < length states
    → (f : Ltl) (i : ℕ) → loop_at ≤ i
    → Holds (word states loop_at) f i ↔ Holds (word states loop_at) f (i + (length states - loop_at))

-- Two formulas have the same truth at every position of every trace.
abbrev pub SameTruth : Ltl → Ltl → Type 0
SameTruth f g = (w : Trace) (i : ℕ) → Holds w f i ↔ Holds w g i

-- The derived forms have the truth of their core forms.
abbrev pub FalseIsCore : Type 0
FalseIsCore = SameTruth form.False (form.Not form.True)

abbrev pub OrIsCore : Type 0
OrIsCore = (f g : Ltl) → SameTruth (form.Or f g) (form.Not (form.And (form.Not f) (form.Not g)))

abbrev pub ImpliesIsCore : Type 0
ImpliesIsCore = (f g : Ltl) → SameTruth (form.Implies f g) (form.Not (form.And f (form.Not g)))

abbrev pub IffIsCore : Type 0
IffIsCore = (f g : Ltl) → SameTruth (form.Iff f g)
    (form.And (form.Not (form.And f (form.Not g))) (form.Not (form.And g (form.Not f))))

abbrev pub FutureIsCore : Type 0
FutureIsCore = (f : Ltl) → SameTruth (form.Future f) (form.Until form.True f)

abbrev pub AlwaysIsCore : Type 0
AlwaysIsCore = (f : Ltl) → SameTruth (form.Always f) (form.Not (form.Until form.True (form.Not f)))

abbrev pub NeverIsCore : Type 0
NeverIsCore = (f : Ltl) → SameTruth (form.Never f) (form.Not (form.Until form.True f))

abbrev pub ReleasesIsCore : Type 0
ReleasesIsCore = (f g : Ltl) → SameTruth (form.Releases f g) (form.Not (form.Until (form.Not f) (form.Not g)))
