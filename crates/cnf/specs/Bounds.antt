-- A row of bits compared with a constant.
--
-- The places are walked from the highest down. The row is greater than the constant where it has a bit at
-- a place at which the constant has none, and at no higher place lacks a bit that the constant has. It is
-- at most the constant where it lacks a bit that the constant has, or ends, and at no higher place has a
-- bit that the constant lacks. Each of these facts on one place is one clause.
-- This is the lexicographic comparison of A. Frisch, B. Hnich, Z. Kiziltan, I. Miguel and T. Walsh, Global
-- constraints for lexicographic orderings (2002), with one side constant.

use Rattle.std.specs.Prelude.{ℕ, zero, suc, ◌+◌, ◌*◌, ◌/◌, ◌%◌, ◌^◌, Bool, true, false, not, ℤ, pos, negsuc, List}
use Rattle.std.specs.Prelude.{[], ◌∷◌, ◌++◌, map, reverse, nat_eq, nat_lt, if◌then◌else◌}
use Rattle.cnf.specs.declared.lit.Lit.{Lit}
use Rattle.cnf.specs.Clauses.{opposite}
use Rattle.cnf.specs.Gates.{literal}

-- the binary digits of a number at so many places, lowest first
abbrev pub binary_digits : ℕ → ℕ → List Bool
binary_digits zero m = []
binary_digits (suc places) m = nat_eq (m % 2) 1 ∷ binary_digits places (m / 2)

-- the bits of a whole number in two's complement: those of -1 - m are the negated digits of m
abbrev pub constant_bits : ℕ → ℤ → List Bool
constant_bits places (pos m) = binary_digits places m
constant_bits places (negsuc m) = map not (binary_digits places m)

-- the numbers of so many bits: from -(2 ^ (places - 1)) to 2 ^ (places - 1) - 1
abbrev pub has_places : ℕ → ℤ → Bool
has_places places (pos m) = nat_lt (2 * m) (2 ^ places)
has_places places (negsuc m) = nat_lt (2 * m + 1) (2 ^ places)

-- the number of binary digits, lowest first
abbrev pub binary_number : List Bool → ℕ
binary_number [] = 0
binary_number (digit ∷ digits) = (if digit then 1 else 0) + 2 * binary_number digits

-- A row from its highest place down, as a number in two's complement: that place has the sign, so its bit is
-- turned around, that a set bit makes the greater number there too.
abbrev pub turn_first : {A : Type 0} → (A → A) → List A → List A
turn_first turn [] = []
turn_first turn (x ∷ row) = turn x ∷ row

abbrev pub sign_first : {A : Type 0} → (A → A) → List A → List A
sign_first turn row = turn_first turn (reverse row)

-- The row is at most the constant, or one of `less` holds. In `less` there is, for each higher place at
-- which the constant has a bit, the literal that the row lacks it.
abbrev pub limit_down : List Lit → List Lit → List Bool → List (List Lit)
limit_down less (x ∷ row) (true ∷ bound) = limit_down (less ++ opposite x ∷ []) row bound
limit_down less (x ∷ row) (false ∷ bound) = (less ++ opposite x ∷ []) ∷ limit_down less row bound
limit_down less _ _ = []

-- These clauses, and those that the row is greater, or one of `greater` holds. In `greater` there is, for
-- each higher place at which the constant has no bit, the literal that the row has one.
abbrev pub at_most_down : List Lit → List Lit → List Lit → List Bool → List (List Lit)
at_most_down greater less (x ∷ row) (true ∷ bound) =
    (greater ++ x ∷ []) ∷ at_most_down greater (less ++ opposite x ∷ []) row bound
at_most_down greater less (x ∷ row) (false ∷ bound) =
    (less ++ opposite x ∷ []) ∷ at_most_down (greater ++ x ∷ []) less row bound
at_most_down greater less _ _ = greater ∷ []

-- the row of binary digits is at most the constant
abbrev pub limit_clauses : List Lit → List Bool → List (List Lit)
limit_clauses row bound = limit_down [] (reverse row) (reverse bound)

-- the variable n is "the row is at most the constant", both in two's complement
abbrev pub at_most_const_clauses : ℕ → List Lit → List Bool → List (List Lit)
at_most_const_clauses n row bound =
    at_most_down (literal n ∷ []) (opposite (literal n) ∷ []) (sign_first opposite row) (sign_first not bound)
