-- Which texts stand for which clauses, and the line at which a text stands for none.
--
-- The format is that of Satisfiability: Suggested Format, second DIMACS implementation challenge (1993). A line that
-- begins with the letter c is a comment. The words of the other lines are `p`, `cnf`, the numbers of variables and of
-- clauses, and then the literals of each clause, with 0 behind them. The variables are counted from 1, and a literal
-- is the number of its variable, with a minus where it is negative. Numbers have no leading zeros.

use Rattle.std.specs.Prelude.{◌≡◌, ◌<◌, ◌≤◌, ◌+◌, ◌-◌, ◌||◌, ℕ, Bool, false, not, nat_eq, cond, List, [], ◌∷◌, ◌++◌}
use Rattle.std.specs.Prelude.{length}
use Rattle.std.specs.Prelude.{map, take, filter, codes, decimal, All, if◌then◌else◌}
use Rattle.std.specs.List.{flat_map, slice_split}
use Rattle.std.specs.Str.Lines.{lines}
use Rattle.cnf.specs.declared.lit.Lit.{Lit}

-- a blank, 32, or a tab, 9
abbrev pub is_blank_or_tab : ℕ → Bool
is_blank_or_tab byte = nat_eq byte 32 || nat_eq byte 9

abbrev pub is_some_word : List ℕ → Bool
is_some_word word = not (nat_eq (length word) 0)

-- what stands between the blanks of a line
abbrev pub words_between_blanks : List ℕ → List (List ℕ)
words_between_blanks line = filter is_some_word (slice_split is_blank_or_tab line)

-- the line begins with the letter c
abbrev pub is_comment : List ℕ → Bool
is_comment [] = false
is_comment (byte ∷ bytes) = nat_eq byte 99

-- the words of a line that count
abbrev pub told_words : List ℕ → List (List ℕ)
told_words line = cond (is_comment line) [] (words_between_blanks line)

abbrev pub words_of_lines : List (List ℕ) → List (List ℕ)
words_of_lines lines_read = flat_map told_words lines_read

-- a literal as a word
abbrev pub literal_word : Lit → List ℕ
literal_word lit = if lit.positive then decimal (lit.var + 1) else 45 ∷ decimal (lit.var + 1)

-- the word behind the literals of a clause
abbrev pub clause_end : List ℕ
clause_end = codes "0"

abbrev pub clause_words : List Lit → List (List ℕ)
clause_words clause = map literal_word clause ++ clause_end ∷ []

abbrev pub header_words : ℕ → ℕ → List (List ℕ)
header_words vars count = codes "p" ∷ codes "cnf" ∷ decimal vars ∷ decimal count ∷ []

-- A text has at most so many variables, and so many clauses: numbers are those of 32 bits with a sign.
abbrev pub most_of_kind : ℕ
most_of_kind = 2147483647

-- The words stand for these clauses over so many variables.
pub record AreWordsOf (words : List (List ℕ)) (vars : ℕ) (clauses : List (List Lit)) : Type 0 where
  pub written : words ≡ header_words vars (length clauses) ++ flat_map clause_words clauses
  pub known : All (All (λ lit. lit.var < vars)) clauses
  pub vars_most : vars ≤ most_of_kind
  pub clauses_most : length clauses ≤ most_of_kind

-- The text stands for these clauses over so many variables.
abbrev pub IsDimacs : List ℕ → ℕ → List (List Lit) → Type 0
IsDimacs text vars clauses = AreWordsOf (words_of_lines (lines text)) vars clauses

-- The words begin those of some clauses.
abbrev pub CanGoOn : List (List ℕ) → Type 0
CanGoOn words =
    (more : List (List ℕ)) × (vars : ℕ) × (clauses : List (List Lit)) × AreWordsOf (words ++ more) vars clauses

-- The text stands for no clauses, and this is the first line, counted from 1, at which that is seen: the words of the
-- lines before it begin those of some clauses, and the words up to its end begin none. Behind the last line what is
-- seen is that words are missing.
pub record BreaksFormatAt (text : List ℕ) (line : ℕ) : Type 0 where
  pub none : (vars : ℕ) (clauses : List (List Lit)) → IsDimacs text vars clauses → ⊥
  pub before : CanGoOn (words_of_lines (take (line - 1) (lines text)))
  pub here : line ≤ length (lines text) → CanGoOn (words_of_lines (take line (lines text))) → ⊥
  pub within : line ≤ length (lines text) + 1
