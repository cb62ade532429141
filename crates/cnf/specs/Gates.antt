-- The clauses of the gates, over the number n of variables before them.
--
-- Each gate is the set of clauses that G. S. Tseitin, On the complexity of derivation in propositional
-- calculus (1968), gives to a new variable that stands for a function of older literals.

use Rattle.std.specs.Prelude.{ℕ, Bool, true, not, ◌&&◌, ◌||◌, List, [], ◌∷◌, ◌++◌, map, if◌then◌else◌}
use Rattle.cnf.specs.declared.lit.Lit.{Lit}
use Rattle.cnf.specs.Clauses.{opposite}

-- the positive literal of a variable
abbrev pub literal : ℕ → Lit
literal n = record { var = n; positive = true }

-- the variable n is "a and b"
abbrev pub and_clauses : ℕ → Lit → Lit → List (List Lit)
and_clauses n a b =
    (opposite (literal n) ∷ a ∷ [])
    ∷ (opposite (literal n) ∷ b ∷ [])
    ∷ (literal n ∷ opposite a ∷ opposite b ∷ [])
    ∷ []

-- the variable n is "either a or b, and not both"
abbrev pub xor_clauses : ℕ → Lit → Lit → List (List Lit)
xor_clauses n a b =
    (opposite (literal n) ∷ a ∷ b ∷ [])
    ∷ (opposite (literal n) ∷ opposite a ∷ opposite b ∷ [])
    ∷ (literal n ∷ opposite a ∷ b ∷ [])
    ∷ (literal n ∷ a ∷ opposite b ∷ [])
    ∷ []

-- the variable n is "at least two of a, b and c"
abbrev pub majority_clauses : ℕ → Lit → Lit → Lit → List (List Lit)
majority_clauses n a b c =
    (opposite (literal n) ∷ a ∷ b ∷ [])
    ∷ (opposite (literal n) ∷ a ∷ c ∷ [])
    ∷ (opposite (literal n) ∷ b ∷ c ∷ [])
    ∷ (literal n ∷ opposite a ∷ opposite b ∷ [])
    ∷ (literal n ∷ opposite a ∷ opposite c ∷ [])
    ∷ (literal n ∷ opposite b ∷ opposite c ∷ [])
    ∷ []

-- the variable n is "all of the literals": it implies each of them, and they together imply it
abbrev pub all_clauses : ℕ → List Lit → List (List Lit)
all_clauses n lits =
    map (λ lit. opposite (literal n) ∷ lit ∷ []) lits ++ (literal n ∷ map opposite lits) ∷ []

-- the variable n is "none of the literals", which is "all of their opposites"; its opposite is "any"
abbrev pub any_clauses : ℕ → List Lit → List (List Lit)
any_clauses n lits = all_clauses n (map opposite lits)

-- the functions of these gates
abbrev pub xor : Bool → Bool → Bool
xor a b = if a then not b else b

abbrev pub majority : Bool → Bool → Bool → Bool
majority a b c = if a then b || c else b && c
