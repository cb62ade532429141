-- How a value is coded in bits.
--
-- A type of c values has the least number b of bits with 2^b at least c. The code of a value is its place in
-- the list of the type's values, so codes are in value order; the bits are its binary digits, lowest first.
-- Codes that stand for no value are excluded by clauses. This is the logarithmic (binary) encoding of
-- finite domains, as in T. Walsh, SAT v CSP (2000).

use Rattle.std.specs.Prelude.{ℕ, ◌-◌, ◌<◌, Bool, false, List, length, slice_index_or}
use Rattle.std.specs.Int.{w32, leading_zeros}
use Rattle.port_types.specs.declared.types.PortType.{PortType}
use Rattle.port_types.specs.declared.types.Value.{Value}
use Rattle.port_types.specs.declared.types.Value.TheVariants as value
use Rattle.port_types.specs.Types.{values, IsDeclarable}
use Rattle.cnf.specs.declared.lit.Lit.{Lit}
use Rattle.cnf.specs.Bounds.{binary_digits, binary_number, limit_clauses}

-- the number of bits for c values: the digits of c - 1, whose length is the least b with 2^b at least c
-- (law `BitCountIsLeast`)
abbrev pub bit_count : ℕ → ℕ
bit_count c = 32 - leading_zeros w32 (c - 1)

abbrev pub type_bits : PortType → ℕ
type_bits kind = bit_count (length (values kind))

-- the value that bits stand for: the one at the place that they are the number of
abbrev pub value_at : PortType → List Bool → Value
value_at kind bits = slice_index_or (values kind) (binary_number bits) (value.Bool false)

-- the bits stand for a value where their number is below the number of values
abbrev pub code_clauses : PortType → List Lit → List (List Lit)
code_clauses kind row = limit_clauses row (binary_digits (length row) (length (values kind) - 1))

-- a type that can be coded: as a file may declare one, and with a value
abbrev pub IsCodable : PortType → Type 0
IsCodable kind = IsDeclarable kind × (0 < length (values kind))
