-- The ports that an expression reads, formulas with their ports renamed, and formulas that read one valuation alone
-- (Manna and Pnueli, The Temporal Logic of Reactive and Concurrent Systems, 1992: the variables of a formula, and state
-- formulas).
use Rattle.std.specs.Prelude.{◌≡◌, ℕ, List, [], ◌∷◌, ◌++◌}
use Rattle.typed_ltl.specs.Formulas.{Number, Choice, Proposition, Ltl}
use Rattle.typed_ltl.specs.Formulas as form
use Rattle.typed_ltl.specs.Traces.{Assignment, Trace}
use Rattle.typed_ltl.specs.Truth.{proposition_truth}

-- the ports that are read, each as often as it occurs, from left to right
abbrev pub number_ports : Number → List ℕ
number_ports (form.Literal z) = []
number_ports (form.NumberAt p next) = p ∷ []
number_ports (form.Sum a b) = number_ports a ++ number_ports b
number_ports (form.Difference a b) = number_ports a ++ number_ports b
number_ports (form.Opposite a) = number_ports a

abbrev pub choice_ports : Choice → List ℕ
choice_ports (form.Named n) = []
choice_ports (form.NameAt p next) = p ∷ []

abbrev pub proposition_ports : Proposition → List ℕ
proposition_ports (form.TruthAt p next) = p ∷ []
proposition_ports (form.Equals a b) = number_ports a ++ number_ports b
proposition_ports (form.AtMost a b) = number_ports a ++ number_ports b
proposition_ports (form.SameName a b) = choice_ports a ++ choice_ports b

abbrev pub formula_ports : Ltl → List ℕ
formula_ports form.True = []
formula_ports form.False = []
formula_ports (form.Atomic a) = proposition_ports a
formula_ports (form.Not f) = formula_ports f
formula_ports (form.And f g) = formula_ports f ++ formula_ports g
formula_ports (form.Or f g) = formula_ports f ++ formula_ports g
formula_ports (form.Implies f g) = formula_ports f ++ formula_ports g
formula_ports (form.Iff f g) = formula_ports f ++ formula_ports g
formula_ports (form.Then f) = formula_ports f
formula_ports (form.Until f g) = formula_ports f ++ formula_ports g
formula_ports (form.Releases f g) = formula_ports f ++ formula_ports g
formula_ports (form.Future f) = formula_ports f
formula_ports (form.Always f) = formula_ports f
formula_ports (form.Never f) = formula_ports f

-- the expression with each port p read as port by p
abbrev pub renamed_number : (ℕ → ℕ) → Number → Number
renamed_number by (form.Literal z) = form.Literal z
renamed_number by (form.NumberAt p next) = form.NumberAt (by p) next
renamed_number by (form.Sum a b) = form.Sum (renamed_number by a) (renamed_number by b)
renamed_number by (form.Difference a b) = form.Difference (renamed_number by a) (renamed_number by b)
renamed_number by (form.Opposite a) = form.Opposite (renamed_number by a)

abbrev pub renamed_choice : (ℕ → ℕ) → Choice → Choice
renamed_choice by (form.Named name) = form.Named name
renamed_choice by (form.NameAt p next) = form.NameAt (by p) next

abbrev pub renamed_test : (ℕ → ℕ) → Proposition → Proposition
renamed_test by (form.TruthAt p next) = form.TruthAt (by p) next
renamed_test by (form.Equals a b) = form.Equals (renamed_number by a) (renamed_number by b)
renamed_test by (form.AtMost a b) = form.AtMost (renamed_number by a) (renamed_number by b)
renamed_test by (form.SameName a b) = form.SameName (renamed_choice by a) (renamed_choice by b)

abbrev pub renamed : (ℕ → ℕ) → Ltl → Ltl
renamed by form.True = form.True
renamed by form.False = form.False
renamed by (form.Atomic a) = form.Atomic (renamed_test by a)
renamed by (form.Not f) = form.Not (renamed by f)
renamed by (form.And f g) = form.And (renamed by f) (renamed by g)
renamed by (form.Or f g) = form.Or (renamed by f) (renamed by g)
renamed by (form.Implies f g) = form.Implies (renamed by f) (renamed by g)
renamed by (form.Iff f g) = form.Iff (renamed by f) (renamed by g)
renamed by (form.Then f) = form.Then (renamed by f)
renamed by (form.Until f g) = form.Until (renamed by f) (renamed by g)
renamed by (form.Releases f g) = form.Releases (renamed by f) (renamed by g)
renamed by (form.Future f) = form.Future (renamed by f)
renamed by (form.Always f) = form.Always (renamed by f)
renamed by (form.Never f) = form.Never (renamed by f)

-- the trace in which port p has the value of port by p
abbrev pub seen_through : (ℕ → ℕ) → Trace → Trace
seen_through by w i p = w i (by p)

-- A state formula: it has no temporal operator, and its atoms read nothing in the next valuation.
abbrev pub IsStateFormula : Ltl → Type 0
IsStateFormula form.True = Unit {0}
IsStateFormula form.False = Unit {0}
IsStateFormula (form.Atomic a) =
    (now next other : Assignment) → proposition_truth now next a ≡ proposition_truth now other a
IsStateFormula (form.Not f) = IsStateFormula f
IsStateFormula (form.And f g) = IsStateFormula f × IsStateFormula g
IsStateFormula (form.Or f g) = IsStateFormula f × IsStateFormula g
IsStateFormula (form.Implies f g) = IsStateFormula f × IsStateFormula g
IsStateFormula (form.Iff f g) = IsStateFormula f × IsStateFormula g
IsStateFormula (form.Then f) = ⊥
IsStateFormula (form.Until f g) = ⊥
IsStateFormula (form.Releases f g) = ⊥
IsStateFormula (form.Future f) = ⊥
IsStateFormula (form.Always f) = ⊥
IsStateFormula (form.Never f) = ⊥
