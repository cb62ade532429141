-- What a call may say of the world outside: a count of faults that rises, and bytes that are taken.
-- The meanings of bytes that are left or taken are optional (None: not told), as those of the readers and writers
-- of the library are.
use Rattle.std.specs.Prelude.{◌≡◌, ℕ, ◌-◌, ◌^◌, ◌<◌, ◌≤◌, List, take, Option, Result, OnErr}
use Rattle.std.specs.Io.KnownBytes.{Appends}

-- A count of faults is greater than before, or it stood at the end of a 64 bit count before, where it stays.
abbrev pub Rose : ℕ → ℕ → Type 0
Rose before now = (before ≤ now) × (now ≡ before → before ≡ 2 ^ 64 - 1)

-- The count never falls, and an error comes only where it has risen: what fails is the outside and not the code.
pub record HasCause {T E : Type 0} (before now : ℕ) (result : Result T E) : Type 0 where
  pub later : before ≤ now
  pub failed : OnErr result (Rose before now)

-- Of a piece of this length n bytes are taken: at most all of them, and at least one where there is one.
pub record Takes (n len : ℕ) : Type 0 where
  pub within : n ≤ len
  pub some : 0 < len → 0 < n

-- What was taken has grown by some front of these bytes.
abbrev pub AppendsFront : Option (List ℕ) → Option (List ℕ) → List ℕ → Type 0
AppendsFront old new bytes = (n : ℕ) × Appends old new (take n bytes)

-- A sink was handed this line: it took the whole, or a front of it where its count of faults rose.
pub record Says (old new : Option (List ℕ)) (before now : ℕ) (line : List ℕ) : Type 0 where
  pub front : AppendsFront old new line
  pub whole : (Rose before now → ⊥) → Appends old new line
  pub later : before ≤ now
