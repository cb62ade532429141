-- The limits of the language that types and sets of parts depend on.
use Rattle.std.specs.Prelude.{ℕ}

-- A numeral of a file is at most this; so the ends of a range are at most this in absolute value.
abbrev pub largest_numeral : ℕ
largest_numeral = 1000000

-- A refined contract lists at most so many sub-contracts; they are numbered from 0.
abbrev pub most_parts : ℕ
most_parts = 24
