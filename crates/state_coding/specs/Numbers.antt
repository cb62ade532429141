-- Terms in clauses: a term is an offset and a row of literals, and its value is the offset plus the number of
-- the row in two's complement (lowest bit first, no literal: 0). So constants cost no variables.
--
-- Sums are the adders of rows of the same length, which the shorter row is brought to by repeating its
-- highest literal, as in D. Kroening and O. Strichman, Decision Procedures (2008), chapter 6.

use Rattle.std.specs.Prelude.{ℕ, zero, suc, ◌+◌, ◌*◌, ◌-◌, ◌^◌, Bool, true, false, ℤ, pos, ◌+ℤ◌, ◌-ℤ◌, neg_ℤ}
use Rattle.std.specs.Prelude.{List, [], ◌∷◌, ◌++◌, length, map, replicate, max, slice_index_or}
use Rattle.port_types.specs.declared.types.PortType.{PortType}
use Rattle.port_types.specs.declared.types.PortType.TheVariants as kind
use Rattle.typed_ltl.specs.Formulas.{Number}
use Rattle.typed_ltl.specs.Formulas as form
use Rattle.cnf.specs.declared.lit.Lit.{Lit}
use Rattle.cnf.specs.Clauses.{opposite}
use Rattle.cnf.specs.Arithmetic.{sum_clauses, sum_bits}

-- an offset and a row
pub record OffsetRow : Type 0 where
  pub offset : ℤ
  pub row : List Lit

-- half of all codes of so many bits, 0 for none
abbrev pub half : ℕ → ℕ
half zero = 0
half (suc places) = 2 ^ places

-- the row with its highest literal negated
abbrev pub signed_row : List Lit → List Lit
signed_row [] = []
signed_row (x ∷ []) = opposite x ∷ []
signed_row (x ∷ next ∷ row) = x ∷ signed_row (next ∷ row)

-- the code of a value plus a number: the code is half of all codes plus the signed row
abbrev pub code_offset_row : ℤ → List Lit → OffsetRow
code_offset_row least bits = record { offset = least +ℤ pos (half (length bits)); row = signed_row bits }

-- the value of an integer port's bits: the least value plus the code
abbrev pub port_offset_row : PortType → List Lit → OffsetRow
port_offset_row (kind.Range lo hi) bits = code_offset_row lo bits
port_offset_row _ bits = record { offset = pos 0; row = [] }

-- The opposite: -(k + r) is (1 - k) + (-1 - r), and -1 - r is the number of the negated bits.
abbrev pub opposite_of : ℤ → List Lit → OffsetRow
opposite_of offset [] = record { offset = neg_ℤ offset; row = [] }
opposite_of offset (x ∷ row) = record { offset = pos 1 -ℤ offset; row = map opposite (x ∷ row) }

abbrev pub opposite_offset_row : OffsetRow → OffsetRow
opposite_offset_row x = opposite_of x.offset x.row

-- a row brought to so many places: its highest literal is repeated
abbrev pub repeat_top : ℕ → List Lit → List Lit
repeat_top more [] = []
repeat_top more (x ∷ []) = x ∷ replicate more x
repeat_top more (x ∷ next ∷ row) = x ∷ repeat_top more (next ∷ row)

abbrev pub widen : ℕ → List Lit → List Lit
widen places row = repeat_top (places - length row) row

-- the places at which two rows meet
abbrev pub common_places : List Lit → List Lit → ℕ
common_places a b = max (length a) (length b)

-- The sum of two rows over the number n of variables before it: its clauses, its row, and how many variables
-- it has. A row without literals is 0 and costs nothing.
abbrev pub row_sum_clauses : ℕ → List Lit → List Lit → List (List Lit)
row_sum_clauses n [] b = []
row_sum_clauses n (x ∷ a) [] = []
row_sum_clauses n (x ∷ a) (y ∷ b) =
    sum_clauses n (widen (common_places (x ∷ a) (y ∷ b)) (x ∷ a)) (widen (common_places (x ∷ a) (y ∷ b)) (y ∷ b))

abbrev pub row_sum : ℕ → List Lit → List Lit → List Lit
row_sum n [] b = b
row_sum n (x ∷ a) [] = x ∷ a
row_sum n (x ∷ a) (y ∷ b) = sum_bits n (widen (common_places (x ∷ a) (y ∷ b)) (x ∷ a))

abbrev pub row_sum_vars : List Lit → List Lit → ℕ
row_sum_vars [] b = 0
row_sum_vars (x ∷ a) [] = 0
row_sum_vars (x ∷ a) (y ∷ b) = 3 * common_places (x ∷ a) (y ∷ b)

-- what a term adds to the clauses: the number of variables after it, its clauses, and its sum
pub record TermCoding : Type 0 where
  pub vars : ℕ
  pub clauses : List (List Lit)
  pub sum : OffsetRow

-- a term that needs no variable
abbrev pub sum_coding : ℕ → OffsetRow → TermCoding
sum_coding n x = record { vars = n; clauses = []; sum = x }

-- the sum of two terms that stand
abbrev pub plus_row_coding : ℕ → OffsetRow → OffsetRow → TermCoding
plus_row_coding n x y = record {
  vars = n + row_sum_vars x.row y.row;
  clauses = row_sum_clauses n x.row y.row;
  sum = record { offset = x.offset +ℤ y.offset; row = row_sum n x.row y.row };
}

-- the sum of two terms, of which the second comes after the first
abbrev pub plus_coding : TermCoding → TermCoding → TermCoding
plus_coding x y = record {
  vars = (plus_row_coding y.vars x.sum y.sum).vars;
  clauses = x.clauses ++ y.clauses ++ (plus_row_coding y.vars x.sum y.sum).clauses;
  sum = (plus_row_coding y.vars x.sum y.sum).sum;
}

abbrev pub negate_coding : TermCoding → TermCoding
negate_coding x = record { vars = x.vars; clauses = x.clauses; sum = opposite_offset_row x.sum }

-- the bits of a port, in the state now or in the next one
abbrev pub port_bits : List (List Lit) → List (List Lit) → ℕ → Bool → List Lit
port_bits now next port false = slice_index_or now port []
port_bits now next port true = slice_index_or next port []

-- a term over the number n of variables before it, its operands from left to right
abbrev pub term_coding : List PortType → List (List Lit) → List (List Lit) → ℕ → Number → TermCoding
term_coding ports now next n (form.Literal z) = sum_coding n (record { offset = z; row = [] })
term_coding ports now next n (form.NumberAt p b) =
    sum_coding n (port_offset_row (slice_index_or ports p kind.Bool) (port_bits now next p b))
term_coding ports now next n (form.Sum a b) =
    plus_coding (term_coding ports now next n a) (term_coding ports now next (term_coding ports now next n a).vars b)
term_coding ports now next n (form.Difference a b) =
    plus_coding (term_coding ports now next n a)
    (negate_coding (term_coding ports now next (term_coding ports now next n a).vars b))
term_coding ports now next n (form.Opposite a) = negate_coding (term_coding ports now next n a)
