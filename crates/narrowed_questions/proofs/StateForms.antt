-- State formulas by their form are state formulas, and what reads below n reads ports below n.
use Rattle.std.proofs.Common.{◌≡◌, ℕ, ◌<◌, true, false, [], ◌∷◌, ◌++◌, All, refl}
use Rattle.std.proofs.lemmas.List.Elements.{All-nil, All-cons, All-append}
use Rattle.typed_ltl.specs.Formulas.{Number, Choice, Proposition, Ltl}
use Rattle.typed_ltl.specs.Formulas as form
use Rattle.typed_ltl.specs.Traces.{Assignment}
use Rattle.typed_ltl.specs.Truth.{number_value, choice_name, proposition_truth}
use Rattle.first_lasso.specs.FormulaPorts.{number_ports, choice_ports, proposition_ports, formula_ports, IsStateFormula}
use Rattle.spec_model.specs.Expressions.{IsState, IsStateNumber, IsStateChoice, IsStateTest}
use Rattle.spec_model.specs.Expressions.{NumberReadsBelow, ChoiceReadsBelow, TestReadsBelow, ReadsBelow}

state_number : (a b c : Assignment) (n : Number) → IsStateNumber n → number_value a b n ≡ number_value a c n
state_number a b c (form.Literal z) s = refl
state_number a b c (form.NumberAt p true) s = cc
state_number a b c (form.NumberAt p false) s = refl
state_number a b c (form.Sum m n) s = cc (state_number a b c m s.0, state_number a b c n s.1)
state_number a b c (form.Difference m n) s = cc (state_number a b c m s.0, state_number a b c n s.1)
state_number a b c (form.Opposite m) s = cc (state_number a b c m s)

state_choice : (a b c : Assignment) (n : Choice) → IsStateChoice n → choice_name a b n ≡ choice_name a c n
state_choice a b c (form.Named name) s = refl
state_choice a b c (form.NameAt p true) s = cc
state_choice a b c (form.NameAt p false) s = refl

state_test : (a b c : Assignment) (t : Proposition) → IsStateTest t → proposition_truth a b t ≡ proposition_truth a c t
state_test a b c (form.TruthAt p true) s = cc
state_test a b c (form.TruthAt p false) s = refl
state_test a b c (form.Equals m n) s = cc (state_number a b c m s.0, state_number a b c n s.1)
state_test a b c (form.AtMost m n) s = cc (state_number a b c m s.0, state_number a b c n s.1)
state_test a b c (form.SameName m n) s = cc (state_choice a b c m s.0, state_choice a b c n s.1)

pub state_form : (f : Ltl) → IsState f → IsStateFormula f
state_form form.True s = tt
state_form form.False s = tt
state_form (form.Atomic a) s = λ now next other. state_test now next other a s
state_form (form.Not f) s = state_form f s
state_form (form.And f g) s = (state_form f s.0, state_form g s.1)
state_form (form.Or f g) s = (state_form f s.0, state_form g s.1)
state_form (form.Implies f g) s = (state_form f s.0, state_form g s.1)
state_form (form.Iff f g) s = (state_form f s.0, state_form g s.1)
state_form (form.Then f) s = absurd s
state_form (form.Until f g) s = absurd s
state_form (form.Releases f g) s = absurd s
state_form (form.Future f) s = absurd s
state_form (form.Always f) s = absurd s
state_form (form.Never f) s = absurd s

abbrev Below : ℕ → ℕ → Type 0
Below n p = p < n

one : (n p : ℕ) → p < n → All (Below n) (p ∷ [])
one n p lt = All-cons (Below n) p [] lt (All-nil (Below n))

number_below : (n : ℕ) (m : Number) → NumberReadsBelow n m → All (Below n) (number_ports m)
number_below n (form.Literal z) h = All-nil (Below n)
number_below n (form.NumberAt p next) h = one n p h
number_below n (form.Sum a b) h = All-append (Below n) (number_ports a) (number_ports b) (number_below n a h.0) (number_below n b h.1)
number_below n (form.Difference a b) h = All-append (Below n) (number_ports a) (number_ports b) (number_below n a h.0) (number_below n b h.1)
number_below n (form.Opposite a) h = number_below n a h

choice_below : (n : ℕ) (m : Choice) → ChoiceReadsBelow n m → All (Below n) (choice_ports m)
choice_below n (form.Named name) h = All-nil (Below n)
choice_below n (form.NameAt p next) h = one n p h

test_below : (n : ℕ) (t : Proposition) → TestReadsBelow n t → All (Below n) (proposition_ports t)
test_below n (form.TruthAt p next) h = one n p h
test_below n (form.Equals a b) h = All-append (Below n) (number_ports a) (number_ports b) (number_below n a h.0) (number_below n b h.1)
test_below n (form.AtMost a b) h = All-append (Below n) (number_ports a) (number_ports b) (number_below n a h.0) (number_below n b h.1)
test_below n (form.SameName a b) h = All-append (Below n) (choice_ports a) (choice_ports b) (choice_below n a h.0) (choice_below n b h.1)

both : (n : ℕ) (f g : Ltl) → All (Below n) (formula_ports f) → All (Below n) (formula_ports g) → All (Below n) (formula_ports f ++ formula_ports g)
both n f g h k = All-append (Below n) (formula_ports f) (formula_ports g) h k

pub ports_below : (n : ℕ) (f : Ltl) → ReadsBelow n f → All (λ p. p < n) (formula_ports f)
ports_below n form.True h = All-nil (Below n)
ports_below n form.False h = All-nil (Below n)
ports_below n (form.Atomic a) h = test_below n a h
ports_below n (form.Not f) h = ports_below n f h
ports_below n (form.And f g) h = both n f g (ports_below n f h.0) (ports_below n g h.1)
ports_below n (form.Or f g) h = both n f g (ports_below n f h.0) (ports_below n g h.1)
ports_below n (form.Implies f g) h = both n f g (ports_below n f h.0) (ports_below n g h.1)
ports_below n (form.Iff f g) h = both n f g (ports_below n f h.0) (ports_below n g h.1)
ports_below n (form.Then f) h = ports_below n f h
ports_below n (form.Until f g) h = both n f g (ports_below n f h.0) (ports_below n g h.1)
ports_below n (form.Releases f g) h = both n f g (ports_below n f h.0) (ports_below n g h.1)
ports_below n (form.Future f) h = ports_below n f h
ports_below n (form.Always f) h = ports_below n f h
ports_below n (form.Never f) h = ports_below n f h
