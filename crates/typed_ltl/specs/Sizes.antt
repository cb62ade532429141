-- The size of formulas and terms, as the limit on a level counts it: each operator, port, numeral, name and truth word
-- counts one.
use Rattle.std.specs.Prelude.{ℕ, ◌+◌}
use Rattle.typed_ltl.specs.Formulas.{Number, Proposition, Ltl}
use Rattle.typed_ltl.specs.Formulas as form

abbrev pub number_size : Number → ℕ
number_size (form.Literal z) = 1
number_size (form.NumberAt p next) = 1
number_size (form.Sum a b) = 1 + (number_size a + number_size b)
number_size (form.Difference a b) = 1 + (number_size a + number_size b)
number_size (form.Opposite a) = 1 + number_size a

abbrev pub proposition_size : Proposition → ℕ
proposition_size (form.TruthAt p next) = 1
proposition_size (form.Equals a b) = 1 + (number_size a + number_size b)
proposition_size (form.AtMost a b) = 1 + (number_size a + number_size b)
proposition_size (form.SameName a b) = 3

abbrev pub formula_size : Ltl → ℕ
formula_size form.True = 1
formula_size form.False = 1
formula_size (form.Atomic a) = proposition_size a
formula_size (form.Not f) = 1 + formula_size f
formula_size (form.And f g) = 1 + (formula_size f + formula_size g)
formula_size (form.Or f g) = 1 + (formula_size f + formula_size g)
formula_size (form.Implies f g) = 1 + (formula_size f + formula_size g)
formula_size (form.Iff f g) = 1 + (formula_size f + formula_size g)
formula_size (form.Then f) = 1 + formula_size f
formula_size (form.Until f g) = 1 + (formula_size f + formula_size g)
formula_size (form.Releases f g) = 1 + (formula_size f + formula_size g)
formula_size (form.Future f) = 1 + formula_size f
formula_size (form.Always f) = 1 + formula_size f
formula_size (form.Never f) = 1 + formula_size f
