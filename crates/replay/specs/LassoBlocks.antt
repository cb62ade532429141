-- A lasso as it is printed: a line with the component, the number of states and the place of the loop, a line for each
-- state, and the line `end` (Biere, Cimatti, Clarke and Zhu, Symbolic Model Checking without BDDs, 1999: a
-- counterexample is a path with a loop back from its last state).
use Rattle.std.specs.Prelude.{ℕ, true, false, List, ◌++◌, length, codes, decimal}
use Rattle.std.specs.Fmt.{signed_decimal}
use Rattle.std.specs.List.{flat_map, zip}
use Rattle.port_types.specs.declared.types.Value.{Value}
use Rattle.port_types.specs.declared.types.Value.TheVariants as value
use Rattle.typed_ltl.specs.declared.lasso.Lasso.{Lasso}

abbrev pub value_text : Value → List ℕ
value_text (value.Bool true) = codes "true"
value_text (value.Bool false) = codes "false"
value_text (value.Int z) = signed_decimal z
value_text (value.Name n) = n

-- `PORT=VALUE`
abbrev pub assignment_text : List ℕ → Value → List ℕ
assignment_text port value = port ++ codes "=" ++ value_text value

-- ` PORT=VALUE`
abbrev pub port_value_text : List ℕ × Value → List ℕ
port_value_text e = codes " " ++ assignment_text e.0 e.1

abbrev pub state_line : List (List ℕ) → List Value → List ℕ
state_line ports values = codes "state" ++ flat_map port_value_text (zip ports values) ++ codes "\n"

abbrev pub lasso_block : List ℕ → List (List ℕ) → Lasso → List ℕ
lasso_block component ports lasso =
    codes "lasso " ++ component ++ codes " " ++ decimal (length lasso.states) ++ codes " " ++ decimal lasso.loop_at
    ++ codes "\n"
    ++ flat_map (state_line ports) lasso.states ++ codes "end\n"
