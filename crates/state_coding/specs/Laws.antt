-- What follows from the definitions of states and codes.

use Rattle.std.specs.Prelude.{◌≡◌, ◌≢◌, ℕ, ◌^◌, ◌<◌, ◌≤◌, List, ◌++◌, Bool, true, Some, length, slice_get}
use Rattle.std.specs.Prelude.{slice_index_or}
use Rattle.port_types.specs.declared.types.PortType.{PortType}
use Rattle.port_types.specs.declared.types.Value.{Value}
use Rattle.port_types.specs.Types.{values}
use Rattle.cnf.specs.declared.lit.Lit.{Lit}
use Rattle.cnf.specs.Clauses.{lit_holds, clauses_hold}
use Rattle.cnf.specs.Bounds.{binary_number}
use Rattle.typed_ltl.specs.Formulas.{Proposition}
use Rattle.typed_ltl.specs.Traces.{assignment}
use Rattle.typed_ltl.specs.Truth.{proposition_truth}
use Rattle.state_coding.specs.Codes.{IsCodable, bit_count, value_at}
use Rattle.state_coding.specs.States.{IsCodedState, HasBits, TwoStates, state_values}
use Rattle.state_coding.specs.Atoms.{atom_coding}
use Rattle.state_coding.specs.Reads.{ReadsPorts}

-- A state stays one where variables and clauses are added.
abbrev pub StatesStay : Type 0
StatesStay = (n m : ℕ) (older newer added : List (List Lit)) (ports : List PortType) (bits : List (List Lit))
    → n ≤ m → newer ≡ older ++ added → IsCodedState n older ports bits → IsCodedState m newer ports bits

-- The number of bits is the least whose power of two is at least the number of values.
abbrev pub BitCountIsLeast : Type 0
BitCountIsLeast = (c : ℕ) → 0 < c → c < 2 ^ 32 → (c ≤ 2 ^ bit_count c) × ((b : ℕ) → c ≤ 2 ^ b → bit_count c ≤ b)

-- A code is the place of its value in the list of values. So codes are in value order, and the least value
-- has the least code.
abbrev pub CodesArePlaces : Type 0
CodesArePlaces = (kind : PortType) (bits : List Bool) → binary_number bits < length (values kind)
    → slice_get (values kind) (binary_number bits) ≡ Some (value_at kind bits)

-- No value of a type has two places, so none has two codes.
abbrev pub ValuesHaveOnePlace : Type 0
ValuesHaveOnePlace = (kind : PortType) → IsCodable kind → (i j : ℕ) (d : Value) → i < j → j < length (values kind)
    → slice_index_or (values kind) i d ≢ slice_index_or (values kind) j d

-- In every list of truth values in which two states and the clauses of an atom hold, the atom's literal is its
-- truth value.
abbrev pub AtomsAreRight : Type 0
AtomsAreRight = (model : List Bool) (ports : List PortType) (now next : List (List Lit)) (n : ℕ) (p : Proposition)
    → TwoStates model ports now next → HasBits n ports now → HasBits n ports next → ReadsPorts ports p
    → (atom_coding ports now next n p).vars ≤ length model
    → clauses_hold model (atom_coding ports now next n p).clauses ≡ true
    → lit_holds model (atom_coding ports now next n p).lit
    ≡ proposition_truth (assignment (state_values model ports now)) (assignment (state_values model ports next)) p
