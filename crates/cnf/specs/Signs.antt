-- Serves proofs only: a whole number from its sign and magnitude, as code handles one.

use Rattle.std.specs.Prelude.{ℕ, Bool, true, false, not, ℤ, pos, negsuc}

abbrev pub signed_by : Bool → ℕ → ℤ
signed_by true m = negsuc m
signed_by false m = pos m

-- a digit of the magnitude as a bit of the number
abbrev pub signed_digit : Bool → Bool → Bool
signed_digit true digit = not digit
signed_digit false digit = digit
