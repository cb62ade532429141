-- The lines of a text and the words of a line. A line ends by LF, which the last one may miss; one CR directly before
-- an LF doesn't count (the lines of `str::lines` of the Rust standard library). Words are divided by blanks and tabs.
use Rattle.std.specs.Prelude.{ℕ, ◌+◌, Bool, not, ◌&&◌, ◌||◌, nat_eq, cond, List, [], ◌∷◌, length, filter, codes}
use Rattle.std.specs.List.{slice_split, starts_with}
use Rattle.std.specs.Str.Lines.{lines}

-- a blank, 32, or a tab, 9
abbrev pub divides_words : ℕ → Bool
divides_words byte = nat_eq byte 32 || nat_eq byte 9

abbrev pub has_bytes : List ℕ → Bool
has_bytes word = not (nat_eq (length word) 0)

-- the words of a line: what stands between blanks and tabs
abbrev pub words_of_line : List ℕ → List (List ℕ)
words_of_line line = filter has_bytes (slice_split divides_words line)

-- a line that counts: it has a word, and its first two bytes are not `--`
abbrev pub line_counts : List ℕ → Bool
line_counts line = not (starts_with nat_eq line (codes "--")) && not (nat_eq (length (words_of_line line)) 0)

-- the number of a line and its words
pub record NumberedLine : Type 0 where
  pub number : ℕ
  pub words : List (List ℕ)

-- those of these lines that count, where the first of them has this number; lines that don't count have numbers too
abbrev pub counting_lines : ℕ → List (List ℕ) → List NumberedLine
counting_lines number [] = []
counting_lines number (line ∷ rest) = cond (line_counts line)
    (record { number = number; words = words_of_line line } ∷ counting_lines (number + 1) rest)
    (counting_lines (number + 1) rest)

-- the lines of a text that count
abbrev pub lines_that_count : List ℕ → List NumberedLine
lines_that_count bytes = counting_lines 1 (lines bytes)

-- the number of a line that is missing at the end of a text
abbrev pub missing_line : List ℕ → ℕ
missing_line bytes = length (lines bytes) + 1
