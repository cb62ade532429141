-- Serves tests only. Three ports, a boolean, the numbers from -1 to 2 and the names a and b, and states of them.
use Rattle.std.specs.Prelude.{ℕ, pos, negsuc, true, false, List, [], ◌∷◌}
use Rattle.port_types.specs.declared.types.PortType.{PortType}
use Rattle.port_types.specs.declared.types.PortType.TheVariants as kind
use Rattle.port_types.specs.declared.types.Value.{Value}
use Rattle.port_types.specs.declared.types.Value.TheVariants as value
use Rattle.typed_ltl.specs.declared.lasso.Lasso.{Lasso}

abbrev pub name_a : List ℕ
name_a = 97 ∷ []

abbrev pub name_b : List ℕ
name_b = 98 ∷ []

abbrev pub three_ports : List PortType
three_ports = kind.Bool ∷ kind.Range (negsuc 0) (pos 2) ∷ kind.Enum (name_a ∷ name_b ∷ []) ∷ []

-- false, 2, b
abbrev pub false_two_b : List Value
false_two_b = value.Bool false ∷ value.Int (pos 2) ∷ value.Name name_b ∷ []

-- true, -1, a
abbrev pub true_least_a : List Value
true_least_a = value.Bool true ∷ value.Int (negsuc 0) ∷ value.Name name_a ∷ []

-- a state of the middle port alone
abbrev pub middle_one : List Value
middle_one = value.Int (pos 1) ∷ []

-- the first value of each port
abbrev pub false_least_a : List Value
false_least_a = value.Bool false ∷ value.Int (negsuc 0) ∷ value.Name name_a ∷ []

abbrev pub false_one_a : List Value
false_one_a = value.Bool false ∷ value.Int (pos 1) ∷ value.Name name_a ∷ []

-- the states of two lassos that differ in their first states
abbrev pub true_then_false : List (List Value)
true_then_false = true_least_a ∷ false_least_a ∷ []

abbrev pub false_then_true : List (List Value)
false_then_true = false_two_b ∷ true_least_a ∷ []

-- what every lasso has
abbrev pub IsAny : Lasso → Type 0
IsAny lasso = Unit {0}
