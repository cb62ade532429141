-- Serves proofs only: tables of the names of an enumeration.

use Rattle.std.specs.Prelude.{◌≡◌, ℕ, Bool, List, is_some}
use Rattle.spec_names.specs.Tables.{entry_place}
use Rattle.spec_types.specs.TypeFaults.{is_name_of}

-- the table has an entry of this name
abbrev pub is_entry : List (List ℕ × ℕ) → List ℕ → Bool
is_entry table text = is_some (entry_place table text)

-- the table tells which names these are
abbrev pub IsNameTable : List (List ℕ) → List (List ℕ × ℕ) → Type 0
IsNameTable names table = (text : List ℕ) → is_entry table text ≡ is_name_of names text
