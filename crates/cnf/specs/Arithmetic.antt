-- Numbers in clauses: comparisons and sums of rows of bits, over the number n of variables before them.
--
-- A row of bits is a number in two's complement, lowest bit first. The sum is the ripple-carry adder and
-- the comparison its borrow chain, as in D. Kroening and O. Strichman, Decision Procedures (2008),
-- chapter 6 (bit-vector flattening).

use Rattle.std.specs.Prelude.{ℕ, ◌+◌, ◌-◌, Bool, true, false, ℤ, pos, ◌+ℤ◌, ◌-ℤ◌, ◌*ℤ◌, List, [], ◌∷◌, ◌++◌, length}
use Rattle.cnf.specs.declared.lit.Lit.{Lit}
use Rattle.cnf.specs.Clauses.{opposite}
use Rattle.cnf.specs.Gates.{literal, and_clauses, xor_clauses, majority_clauses}

-- a truth value as a number
abbrev pub bit : Bool → ℤ
bit true = pos 1
bit false = pos 0

-- the number of a row of bits in two's complement, lowest bit first: the last bit counts negative
abbrev pub signed_number : List Bool → ℤ
signed_number [] = pos 0
signed_number (b ∷ []) = pos 0 -ℤ bit b
signed_number (b ∷ c ∷ bs) = bit b +ℤ (pos 2 *ℤ signed_number (c ∷ bs))

-- the pairs of bits with the same place, lowest first; at the last place, which has the sign, the
-- rows change sides, since there a set bit makes the number less
abbrev pub comparison_pairs : List Lit → List Lit → List (Lit × Lit)
comparison_pairs (a ∷ []) (b ∷ right) = (b, a) ∷ []
comparison_pairs (a ∷ next ∷ left) (b ∷ right) = (a, b) ∷ comparison_pairs (next ∷ left) right
comparison_pairs _ _ = []

-- the comparison from the second place on: `greater` says that the left number was greater so far.
-- At each place it is greater where two of these hold: its bit is set, the other's is not, and it
-- was greater so far.
abbrev pub later_greater_clauses : ℕ → Lit → List (Lit × Lit) → List (List Lit)
later_greater_clauses n greater [] = []
later_greater_clauses n greater (p ∷ ps) =
    majority_clauses n p.0 (opposite p.1) greater ++ later_greater_clauses (n + 1) (literal n) ps

-- one new variable for each place; the last one says that a is greater than b
abbrev pub greater_clauses : ℕ → List (Lit × Lit) → List (List Lit)
greater_clauses n [] = []
greater_clauses n (p ∷ ps) = and_clauses n p.0 (opposite p.1) ++ later_greater_clauses (n + 1) (literal n) ps

abbrev pub le_clauses : ℕ → List Lit → List Lit → List (List Lit)
le_clauses n a b = greater_clauses n (comparison_pairs a b)

abbrev pub le_literal : ℕ → List Lit → Lit
le_literal n a = opposite (literal (n + length a - 1))

-- the sum from the second place on: full adders, each of the new variables
-- n "either bit", n + 1 "the bit of the sum" and n + 2 "the carry"; at the end the two signs are
-- added once more, for which `either` is the "either bit" of the last place
abbrev pub later_sum_clauses : ℕ → Lit → Lit → List Lit → List Lit → List (List Lit)
later_sum_clauses n either carry (a ∷ left) (b ∷ right) =
    xor_clauses n a b
    ++ xor_clauses (n + 1) (literal n) carry
    ++ majority_clauses (n + 2) a b carry
    ++ later_sum_clauses (n + 3) (literal n) (literal (n + 2)) left right
later_sum_clauses n either carry _ _ = xor_clauses n either carry

-- the first place is a half adder: the new variables are n "the bit of the sum" and n + 1 "the carry"
abbrev pub sum_clauses : ℕ → List Lit → List Lit → List (List Lit)
sum_clauses n (a ∷ left) (b ∷ right) =
    xor_clauses n a b ++ and_clauses (n + 1) a b ++ later_sum_clauses (n + 2) (literal n) (literal (n + 1)) left right
sum_clauses n _ _ = []

-- the bits of the sum
abbrev pub later_sum_bits : ℕ → List Lit → List Lit
later_sum_bits n [] = literal n ∷ []
later_sum_bits n (a ∷ left) = literal (n + 1) ∷ later_sum_bits (n + 3) left

abbrev pub sum_bits : ℕ → List Lit → List Lit
sum_bits n [] = []
sum_bits n (a ∷ left) = literal n ∷ later_sum_bits (n + 2) left
