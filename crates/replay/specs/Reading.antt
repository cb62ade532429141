-- Serves private contracts only: how a text is read line by line and a line word by word, and what is known while the
-- assignments of a state line are read.
use Rattle.std.specs.Prelude.{◌≡◌, ℕ, ◌+◌, ◌-◌, ◌<◌, ◌≤◌, Bool, not, nat_eq, cond, List, [], ◌∷◌, ◌++◌, length}
use Rattle.std.specs.Prelude.{All, Option, Some, None, is_some, position, bytes_eq, slice_index_or, Vec, replicate}
use Rattle.std.proofs.Common.{set}
use Rattle.std.specs.Global.{Global}
use Rattle.std.specs.List.{count_by}
use Rattle.std.specs.Str.Lines.{lines}
use Rattle.port_types.specs.declared.types.PortType.{PortType}
use Rattle.port_types.specs.declared.types.Value.{Value}
use Rattle.port_types.specs.Types.{IsOfType}
use Rattle.oss_base.specs.declared.ids.ComponentId.{ComponentId}
use Rattle.spec_model.specs.declared.spec.Spec.{Spec}
use Rattle.spec_model.specs.declared.port.FreePort.{FreePort}
use Rattle.replay.specs.FreePortNames.{port_prefix}
use Rattle.replay.specs.declared.lines.Stop.{Stop}
use Rattle.replay.specs.declared.lines.Stop.TheVariants as stop
use Rattle.replay.specs.LassoBlocks.{value_text}
use Rattle.replay.specs.LassoFiles.{Assigns, assigned_place, IsEndLine, AreStateLines, BreaksAfterHeader}
use Rattle.replay.specs.TextLines.{NumberedLine, divides_words, counting_lines, words_of_line}

-- a byte at which a run ends
abbrev pub is_stop : Stop → ℕ → Bool
is_stop stop.LineFeed byte = nat_eq byte 10
is_stop stop.Gap byte = divides_words byte
is_stop stop.Word byte = not (divides_words byte)
is_stop stop.EqualsSign byte = nat_eq byte 61

-- the lines that count, where the text begins with the line of this number
abbrev pub lines_ahead : List ℕ → ℕ → List NumberedLine
lines_ahead bytes first = counting_lines first (lines bytes)

-- the number behind the last line
abbrev pub line_behind : List ℕ → ℕ → ℕ
line_behind bytes first = first + length (lines bytes)

-- The next line that counts has this number, and the rest of the text comes after it.
pub record IsNextLine (bytes : List ℕ) (first number : ℕ) (line rest : List ℕ) : Type 0 where
  pub ahead : lines_ahead bytes first
      ≡ record { number = number; words = words_of_line line } ∷ lines_ahead rest (number + 1)
  pub behind : line_behind bytes first ≡ line_behind rest (number + 1)
  pub shorter : number + 1 + length rest ≤ first + length bytes

-- No line counts.
pub record IsTextEnd (bytes : List ℕ) (first number : ℕ) : Type 0 where
  pub ahead : lines_ahead bytes first ≡ []
  pub behind : line_behind bytes first ≡ number

-- The text is that of a value of the type.
pub record IsValueText (kind : PortType) (text : List ℕ) (given : Value) : Type 0 where
  pub typed : IsOfType kind given
  pub spelled : text ≡ value_text given

-- the text of a free port's name
abbrev pub free_text : Spec → ComponentId → FreePort → List ℕ
free_text spec c free = port_prefix spec c free.sub ++ free.name

-- an entry of a table of names as contracts see it
abbrev pub key_and_place : Vec ℕ Global × ℕ → List ℕ × ℕ
key_and_place entry = (entry.0.items, entry.1)

-- the place of the first entry with this key
abbrev pub place_by_key : List (List ℕ × ℕ) → List ℕ → Option ℕ
place_by_key [] key = None
place_by_key (entry ∷ entries) key = cond (bytes_eq key entry.0) (Some entry.1) (place_by_key entries key)

-- with one more entry, where the key isn't there yet
abbrev pub with_key : List (List ℕ × ℕ) → List ℕ → ℕ → List (List ℕ × ℕ)
with_key entries key place = cond (is_some (place_by_key entries key)) entries (entries ++ (key, place) ∷ [])

-- the table tells for each name the place of the first of these
abbrev pub TellsPlaces : List (List ℕ) → List (List ℕ × ℕ) → Type 0
TellsPlaces names table = (key : List ℕ) → place_by_key table key ≡ position (bytes_eq key) names

-- The word speaks of the port at a place, and this is the text behind its first `=`.
pub record SpeaksOf (names : List (List ℕ)) (word : List ℕ) (place : ℕ) (text : List ℕ) : Type 0 where
  pub port : assigned_place names word ≡ place
  pub within : place < length names
  pub parts : word ≡ slice_index_or names place [] ++ 61 ∷ text

-- the value of a port so far
abbrev pub slot_at : List (Option Value) → ℕ → Option Value
slot_at slots place = slice_index_or slots place None

-- a port that has a value has stood once
abbrev pub times_given : Option Value → ℕ
times_given None = 0
times_given (Some given) = 1

-- The word gives a port its value that has none so far.
pub record GivesNew (names : List (List ℕ)) (kinds : List PortType) (word : List ℕ) (slots after : List (Option Value))
    : Type 0 where
  pub place : ℕ
  pub given : Value
  pub assigns : Assigns names kinds word place given
  pub vacant : slot_at slots place ≡ None
  pub put : after ≡ set slots place (Some given)

-- The word gives no value to a port that has none so far.
abbrev pub GivesNothingNew : List (List ℕ) → List PortType → List ℕ → List (Option Value) → Type 0
GivesNothingNew names kinds word slots = (place : ℕ) (given : Value) → Assigns names kinds word place given
    → slot_at slots place ≡ None → ⊥

-- The word gives the port a value that it has.
abbrev pub IsNoted : List (List ℕ) → List PortType → List (Option Value) → List ℕ → Type 0
IsNoted names kinds slots word = (given : Value) × (slot_at slots (assigned_place names word) ≡ Some given)
    × Assigns names kinds word (assigned_place names word) given

-- These words have given these ports their values.
pub record HaveGiven (names : List (List ℕ)) (kinds : List PortType) (words : List (List ℕ))
    (slots : List (Option Value)) : Type 0 where
  pub size : length slots ≡ length names
  pub each : All (IsNoted names kinds slots) words
  pub counts : (place : ℕ) → place < length names
      → count_by (λ word. nat_eq (assigned_place names word) place) words ≡ times_given (slot_at slots place)

-- The words of a line up to here have given these ports their values.
pub record AreNotedTo (names : List (List ℕ)) (kinds : List PortType) (words rest : List ℕ)
    (slots : List (Option Value)) : Type 0 where
  pub done : List (List ℕ)
  pub whole : words_of_line words ≡ done ++ words_of_line rest
  pub noted : HaveGiven names kinds done slots

-- no port has a value
abbrev pub no_slots : ℕ → List (Option Value)
no_slots n = replicate n None

-- a line with its number
abbrev pub numbered : ℕ → List ℕ → NumberedLine
numbered number line = record { number = number; words = words_of_line line }

-- the line `end`, and nothing more
abbrev pub IsBlockEnd : List NumberedLine → Type 0
IsBlockEnd [] = ⊥
IsBlockEnd (line ∷ []) = IsEndLine line.words
IsBlockEnd (line ∷ more ∷ rest) = ⊥

-- the first line at which these break, where the line `end` has to come
abbrev pub EndBreaks : ℕ → List NumberedLine → ℕ → Type 0
EndBreaks missing lines number = BreaksAfterHeader [] [] missing 0 lines number

-- So many of the states of a block are read, and the rest of its lines is still to come: what these are tells what
-- the block is.
pub record AreReadTo (names : List (List ℕ)) (kinds : List PortType) (missing count : ℕ) (lines : List NumberedLine)
    (states : List (List Value)) (rest : List NumberedLine) : Type 0 where
  pub most : length states ≤ count
  pub whole : (more : List (List Value)) → AreStateLines names kinds more rest
      → AreStateLines names kinds (states ++ more) lines
  pub broken : (number : ℕ) → BreaksAfterHeader names kinds missing (count - length states) rest number
      → BreaksAfterHeader names kinds missing count lines number
