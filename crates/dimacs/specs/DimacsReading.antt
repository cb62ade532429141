-- Serves private contracts only: how a text is read word by word, and what is known of the clauses so far.

use Rattle.std.specs.Prelude.{◌≡◌, ◌<◌, ◌≤◌, ◌-◌, ◌⊎◌, ℕ, Bool, not, nat_eq, List, [], ◌∷◌, ◌++◌, length, map, take}
use Rattle.std.specs.Prelude.{All}
use Rattle.std.specs.List.{flat_map}
use Rattle.std.specs.Str.Lines.{lines}
use Rattle.cnf.specs.declared.lit.Lit.{Lit}
use Rattle.dimacs.specs.declared.words.RunEnd.{RunEnd}
use Rattle.dimacs.specs.declared.words.RunEnd.TheVariants as ends
use Rattle.dimacs.specs.declared.entries.Entry.{Entry}
use Rattle.dimacs.specs.declared.entries.Entry.TheVariants as entries
use Rattle.dimacs.specs.declared.reading.Stop.{Stop}
use Rattle.dimacs.specs.declared.reading.Stop.TheVariants as stop
use Rattle.dimacs.specs.Dimacs.{is_blank_or_tab, words_between_blanks, words_of_lines, literal_word, clause_end}
use Rattle.dimacs.specs.Dimacs.{clause_words}
use Rattle.dimacs.specs.Dimacs.{header_words, AreWordsOf, BreaksFormatAt}

-- a byte at which a run ends
abbrev pub ends_run : RunEnd → ℕ → Bool
ends_run ends.LineFeed byte = nat_eq byte 10
ends_run ends.Blank byte = is_blank_or_tab byte
ends_run ends.Word byte = not (is_blank_or_tab byte)

-- The words begin with those of the lines before this one.
abbrev pub BeginsWithLines : List ℕ → ℕ → List (List ℕ) → Type 0
BeginsWithLines text number words =
    (more : List (List ℕ)) × (words ≡ words_of_lines (take (number - 1) (lines text)) ++ more)

-- So many lines of a text are read but for the rest of the last of them, and these are their words so far.
pub record IsReadUpTo (text : List ℕ) (number : ℕ) (rest behind : List ℕ) (words : List (List ℕ)) : Type 0 where
  pub front : List (List ℕ)
  pub parts : lines text ≡ front ++ lines behind
  pub count : length front ≡ number
  pub told : words_of_lines front ≡ words ++ words_between_blanks rest
  pub before : BeginsWithLines text number words

-- the words go on, where they stand for clauses, and the next word is one of these
abbrev pub GoesOnWith : List (List ℕ) → (List ℕ → Type 0) → Type 0
GoesOnWith words fits = (more : List (List ℕ)) (vars : ℕ) (clauses : List (List Lit))
    → AreWordsOf (words ++ more) vars clauses
    → (word : List ℕ) × (rest : List (List ℕ)) × (more ≡ word ∷ rest) × fits word

abbrev pub entry_word : Entry → List ℕ
entry_word entries.End = clause_end
entry_word (entries.Of lit) = literal_word lit

-- the variable of the entry, if it has one, is one of the first n
abbrev pub IsEntryBelow : ℕ → Entry → Type 0
IsEntryBelow n entries.End = Unit {0}
IsEntryBelow n (entries.Of lit) = lit.var < n

-- The words begin with these numbers of variables and clauses. So many clauses have ended, and one is open.
pub record AreTaken (words : List (List ℕ)) (vars count : ℕ) (clauses : List (List Lit))
    (unfinished : List Lit) : Type 0 where
  pub written : words ≡ header_words vars count ++ (flat_map clause_words clauses ++ map literal_word unfinished)
  pub known : All (All (λ lit. lit.var < vars)) clauses
  pub unfinished_known : All (λ lit. lit.var < vars) unfinished
  pub few : length clauses ≤ count
  pub room : (unfinished ≡ []) ⊎ (length clauses < count)

-- why a text could not be read
abbrev pub HasReason : List ℕ → Stop → Type 0
HasReason text (stop.Broken fault) = BreaksFormatAt text fault.line
HasReason text stop.NoMemory = Unit {0}
