-- Core formulas of linear temporal logic: truth, atoms, not, and, next, until (Clarke, Grumberg and Hamaguchi, Another
-- Look at LTL Model Checking, 1994), their truth on traces, and the core form of each formula. Nothing is simplified.
use Rattle.std.specs.Prelude.{◌≡◌, ℕ, ◌+◌, ◌↔◌, true}
use Rattle.typed_ltl.specs.Formulas.{Proposition, Ltl}
use Rattle.typed_ltl.specs.Formulas as form
use Rattle.typed_ltl.specs.Traces.{Trace}
use Rattle.typed_ltl.specs.Truth.{Holds, HoldsUntil, proposition_truth}

pub data Core : Type 0 where
  True : Core
  Atomic : Proposition → Core
  Not : Core → Core
  And : Core → Core → Core
  Next : Core → Core
  Until : Core → Core → Core

-- Truth of a core formula at a position of a trace.
abbrev pub CoreHolds : Trace → Core → ℕ → Type 0
CoreHolds w True i = Unit {0}
CoreHolds w (Atomic a) i = proposition_truth (w i) (w (i + 1)) a ≡ true
CoreHolds w (Not f) i = CoreHolds w f i → ⊥
CoreHolds w (And f g) i = CoreHolds w f i × CoreHolds w g i
CoreHolds w (Next f) i = CoreHolds w f (i + 1)
CoreHolds w (Until f g) i = HoldsUntil (CoreHolds w f) (CoreHolds w g) i

abbrev pub implication : Core → Core → Core
implication f g = Not (And f (Not g))

-- The core form of a formula.
abbrev pub core_form : Ltl → Core
core_form form.True = True
core_form form.False = Not True
core_form (form.Atomic a) = Atomic a
core_form (form.Not f) = Not (core_form f)
core_form (form.And f g) = And (core_form f) (core_form g)
core_form (form.Or f g) = Not (And (Not (core_form f)) (Not (core_form g)))
core_form (form.Implies f g) = implication (core_form f) (core_form g)
core_form (form.Iff f g) = And (implication (core_form f) (core_form g)) (implication (core_form g) (core_form f))
core_form (form.Then f) = Next (core_form f)
core_form (form.Until f g) = Until (core_form f) (core_form g)
core_form (form.Releases f g) = Not (Until (Not (core_form f)) (Not (core_form g)))
core_form (form.Future f) = Until True (core_form f)
core_form (form.Always f) = Not (Until True (Not (core_form f)))
core_form (form.Never f) = Not (Until True (core_form f))

-- The core form has the truth of the formula, at each position of each trace.
abbrev pub CoreFormsKeepTruth : Type 0
CoreFormsKeepTruth = (w : Trace) (f : Ltl) (i : ℕ) → Holds w f i ↔ CoreHolds w (core_form f) i
