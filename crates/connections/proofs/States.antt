use Rattle.std.proofs.Common.{◌≡◌, ℕ, ◌+◌, true, false, refl, sym, ◌∙◌}
use Rattle.std.proofs.lemmas.Bool.{false≢true}
use Rattle.typed_ltl.specs.Formulas.{Number, Choice, Proposition, Ltl}
use Rattle.typed_ltl.specs.Formulas as form
use Rattle.typed_ltl.specs.Traces.{Assignment, Trace}
use Rattle.typed_ltl.specs.Truth.{Holds, number_value, choice_name, proposition_truth}
use Rattle.spec_model.specs.Expressions.{IsState, IsStateNumber, IsStateChoice, IsStateTest}
use Rattle.connections.specs.Substitution.{state_truth, next_number, next_choice, next_test, next_formula}
use Rattle.connections.proofs.Tells.{Tells, tells_not, tells_and, tells_or, tells_implies, tells_iff}

-- a state expression reads one valuation alone

pub state_number : (now next : Assignment) (n : Number) → IsStateNumber n
    → number_value now next n ≡ number_value now now n
state_number now next (form.Literal z) s = refl
state_number now next (form.NumberAt p true) s = cc
state_number now next (form.NumberAt p false) s = refl
state_number now next (form.Sum a b) s = cc (state_number now next a s.0, state_number now next b s.1)
state_number now next (form.Difference a b) s = cc (state_number now next a s.0, state_number now next b s.1)
state_number now next (form.Opposite a) s = cc (state_number now next a s)

pub state_choice : (now next : Assignment) (n : Choice) → IsStateChoice n
    → choice_name now next n ≡ choice_name now now n
state_choice now next (form.Named n) s = refl
state_choice now next (form.NameAt p true) s = cc
state_choice now next (form.NameAt p false) s = refl

pub state_test : (now next : Assignment) (t : Proposition) → IsStateTest t
    → proposition_truth now next t ≡ proposition_truth now now t
state_test now next (form.TruthAt p true) s = cc
state_test now next (form.TruthAt p false) s = refl
state_test now next (form.Equals a b) s = cc (state_number now next a s.0, state_number now next b s.1)
state_test now next (form.AtMost a b) s = cc (state_number now next a s.0, state_number now next b s.1)
state_test now next (form.SameName a b) s = cc (state_choice now next a s.0, state_choice now next b s.1)

-- the truth of a state formula is told by the valuation
pub state_tells : (w : Trace) (i : ℕ) (f : Ltl) → IsState f → Tells (state_truth (w i) f) (Holds w f i)
state_tells w i form.True s = (λ h. refl, λ e. tt)
state_tells w i form.False s = (λ h. absurd h, λ e. false≢true e)
state_tells w i (form.Atomic a) s =
    let e = state_test (w i) (w (i + 1)) a s in
    (λ h. sym e ∙ h, λ h. e ∙ h)
state_tells w i (form.Not f) s = tells_not _ _ (state_tells w i f s)
state_tells w i (form.And f g) s = tells_and _ _ _ _ (state_tells w i f s.0) (state_tells w i g s.1)
state_tells w i (form.Or f g) s = tells_or _ _ _ _ (state_tells w i f s.0) (state_tells w i g s.1)
state_tells w i (form.Implies f g) s = tells_implies _ _ _ _ (state_tells w i f s.0) (state_tells w i g s.1)
state_tells w i (form.Iff f g) s = tells_iff _ _ _ _ (state_tells w i f s.0) (state_tells w i g s.1)
state_tells w i (form.Then f) s = absurd s
state_tells w i (form.Until f g) s = absurd s
state_tells w i (form.Releases f g) s = absurd s
state_tells w i (form.Future f) s = absurd s
state_tells w i (form.Always f) s = absurd s
state_tells w i (form.Never f) s = absurd s

-- the same expression in the next valuation

pub number-next : (now next : Assignment) (n : Number)
    → number_value now next (next_number n) ≡ number_value next next n
number-next now next (form.Literal z) = refl
number-next now next (form.NumberAt p true) = refl
number-next now next (form.NumberAt p false) = refl
number-next now next (form.Sum a b) = cc (number-next now next a, number-next now next b)
number-next now next (form.Difference a b) = cc (number-next now next a, number-next now next b)
number-next now next (form.Opposite a) = cc (number-next now next a)

pub choice-next : (now next : Assignment) (n : Choice) → choice_name now next (next_choice n) ≡ choice_name next next n
choice-next now next (form.Named n) = refl
choice-next now next (form.NameAt p true) = refl
choice-next now next (form.NameAt p false) = refl

pub test-next : (now next : Assignment) (t : Proposition)
    → proposition_truth now next (next_test t) ≡ proposition_truth next next t
test-next now next (form.TruthAt p true) = refl
test-next now next (form.TruthAt p false) = refl
test-next now next (form.Equals a b) = cc (number-next now next a, number-next now next b)
test-next now next (form.AtMost a b) = cc (number-next now next a, number-next now next b)
test-next now next (form.SameName a b) = cc (choice-next now next a, choice-next now next b)

pub next_tells : (w : Trace) (i : ℕ) (f : Ltl) → IsState f
    → Tells (state_truth (w (i + 1)) f) (Holds w (next_formula f) i)
next_tells w i form.True s = (λ h. refl, λ e. tt)
next_tells w i form.False s = (λ h. absurd h, λ e. false≢true e)
next_tells w i (form.Atomic a) s =
    let e = test-next (w i) (w (i + 1)) a in
    (λ h. sym e ∙ h, λ h. e ∙ h)
next_tells w i (form.Not f) s = tells_not _ _ (next_tells w i f s)
next_tells w i (form.And f g) s = tells_and _ _ _ _ (next_tells w i f s.0) (next_tells w i g s.1)
next_tells w i (form.Or f g) s = tells_or _ _ _ _ (next_tells w i f s.0) (next_tells w i g s.1)
next_tells w i (form.Implies f g) s = tells_implies _ _ _ _ (next_tells w i f s.0) (next_tells w i g s.1)
next_tells w i (form.Iff f g) s = tells_iff _ _ _ _ (next_tells w i f s.0) (next_tells w i g s.1)
next_tells w i (form.Then f) s = absurd s
next_tells w i (form.Until f g) s = absurd s
next_tells w i (form.Releases f g) s = absurd s
next_tells w i (form.Future f) s = absurd s
next_tells w i (form.Always f) s = absurd s
next_tells w i (form.Never f) s = absurd s
