-- Which words of a command line are operands (POSIX, "Utility Argument Syntax" and "Utility Syntax Guidelines").
use Rattle.std.specs.Prelude.{ℕ, Bool, false, not, ◌==◌, List, [], ◌∷◌}

-- A word that stands for itself: it is not empty and does not begin with `-`.
abbrev pub is_operand : List ℕ → Bool
is_operand [] = false
is_operand (byte ∷ bytes) = not (byte == 45)
