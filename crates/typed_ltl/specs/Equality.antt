-- Equality of what terms, picks and atoms mean, as a test.
use Rattle.std.specs.Prelude.{ℕ, ◌==◌, Bool, true, false, ◌&&◌}
use Rattle.std.specs.Bool.{beq}
use Rattle.std.specs.Ordering.{int_eq}
use Rattle.std.specs.Str.{bytes_eq}
use Rattle.typed_ltl.specs.Formulas.{Number, Choice, Proposition}
use Rattle.typed_ltl.specs.Formulas as form

abbrev pub number_eq : Number → Number → Bool
number_eq (form.Literal x) (form.Literal y) = int_eq x y
number_eq (form.NumberAt p x) (form.NumberAt q y) = (p == q) && beq x y
number_eq (form.Sum a b) (form.Sum c d) = number_eq a c && number_eq b d
number_eq (form.Difference a b) (form.Difference c d) = number_eq a c && number_eq b d
number_eq (form.Opposite a) (form.Opposite b) = number_eq a b
number_eq a b = false

abbrev pub choice_eq : Choice → Choice → Bool
choice_eq (form.Named x) (form.Named y) = bytes_eq x y
choice_eq (form.NameAt p x) (form.NameAt q y) = (p == q) && beq x y
choice_eq a b = false

abbrev pub proposition_eq : Proposition → Proposition → Bool
proposition_eq (form.TruthAt p x) (form.TruthAt q y) = (p == q) && beq x y
proposition_eq (form.Equals a b) (form.Equals c d) = number_eq a c && number_eq b d
proposition_eq (form.AtMost a b) (form.AtMost c d) = number_eq a c && number_eq b d
proposition_eq (form.SameName a b) (form.SameName c d) = choice_eq a c && choice_eq b d
proposition_eq a b = false
