-- The lasso that a text means, and the first line at which it means none. The lines that count are a line with the
-- component, the number of states and the place of the loop, a line for each state, and the line `end`. A state line
-- gives each free port of the component its value once, in any order.
use Rattle.std.specs.Prelude.{◌≡◌, ℕ, suc, zero, ◌<◌, ◌≤◌, ◌⊎◌, Bool, nat_eq, List, [], ◌∷◌, length, All}
use Rattle.std.specs.Prelude.{Option, Some, position, bytes_eq, codes, decimal, slice_index_or, false}
use Rattle.std.specs.List.{position_or_len, before_first, count_by}
use Rattle.port_types.specs.declared.types.PortType.{PortType}
use Rattle.port_types.specs.declared.types.PortType.TheVariants as kind
use Rattle.port_types.specs.declared.types.Value.{Value}
use Rattle.port_types.specs.declared.types.Value.TheVariants as value
use Rattle.port_types.specs.Types.{IsOfType}
use Rattle.oss_base.specs.declared.ids.ComponentId.{ComponentId}
use Rattle.oss_base.specs.Limits.{most_bytes}
use Rattle.spec_model.specs.declared.spec.Spec.{Spec}
use Rattle.spec_model.specs.declared.spec.Component.{Component}
use Rattle.replay.specs.declared.named.NamedLasso.{NamedLasso}
use Rattle.replay.specs.FreePortNames.{free_names}
use Rattle.spec_model.specs.FreeTypes.{free_types}
use Rattle.replay.specs.LassoBlocks.{assignment_text}
use Rattle.replay.specs.TextLines.{NumberedLine, lines_that_count, missing_line}

-- A lasso file has at most so many states.
abbrev pub most_states : ℕ
most_states = 256

abbrev pub is_equals_sign : ℕ → Bool
is_equals_sign byte = nat_eq byte 61

-- the place of the port that a word speaks of: the first one that has the name before the word's first `=`
abbrev pub assigned_place : List (List ℕ) → List ℕ → ℕ
assigned_place names word = position_or_len (bytes_eq (before_first is_equals_sign word)) names

-- The word gives the port at a place a value of its type. Values stand as they are printed, so whole numbers are
-- decimal without leading zeros, and `-0` is none.
pub record Assigns (names : List (List ℕ)) (kinds : List PortType) (word : List ℕ) (place : ℕ) (given : Value)
    : Type 0 where
  pub port : assigned_place names word ≡ place
  pub within : place < length names
  pub text : word ≡ assignment_text (slice_index_or names place []) given
  pub typed : IsOfType (slice_index_or kinds place kind.Bool) given

-- the value of a port in a valuation
abbrev pub value_at_place : List Value → ℕ → Value
value_at_place values place = slice_index_or values place (value.Bool false)

-- The words give each port its value, each port exactly once.
pub record AreAssignments (names : List (List ℕ)) (kinds : List PortType) (words : List (List ℕ)) (values : List Value)
    : Type 0 where
  pub one_each : length values ≡ length names
  pub each_assigns : All (λ word. Assigns names kinds word (assigned_place names word)
      (value_at_place values (assigned_place names word))) words
  pub each_port_once : (place : ℕ) → place < length names
      → count_by (λ word. nat_eq (assigned_place names word) place) words ≡ 1

-- The words are `state` and the assignments of these values.
abbrev pub IsStateLine : List (List ℕ) → List PortType → List (List ℕ) → List Value → Type 0
IsStateLine names kinds [] values = ⊥
IsStateLine names kinds (word ∷ words) values = (word ≡ codes "state") × AreAssignments names kinds words values

-- the first component of a name
abbrev pub place_of_component : Spec → List ℕ → Option ℕ
place_of_component spec name = position (λ (k : Component). bytes_eq name k.name) spec.components

-- The words are `lasso`, a component's name, the number of states and the place of the loop, decimal without leading
-- zeros.
pub record IsHeaderLine (spec : Spec) (words : List (List ℕ)) (c : ComponentId) (states loop_at : ℕ) : Type 0 where
  pub name : List ℕ
  pub parts : words ≡ codes "lasso" ∷ name ∷ decimal states ∷ decimal loop_at ∷ []
  pub component : place_of_component spec name ≡ Some c.0
  pub most : states ≤ most_states
  pub in_range : loop_at < states

-- the word `end` alone
abbrev pub IsEndLine : List (List ℕ) → Type 0
IsEndLine words = words ≡ codes "end" ∷ []

-- a line for each of these states, then the line `end`, and nothing more
abbrev pub AreStateLines : List (List ℕ) → List PortType → List (List Value) → List NumberedLine → Type 0
AreStateLines names kinds states [] = ⊥
AreStateLines names kinds [] (line ∷ []) = IsEndLine line.words
AreStateLines names kinds [] (line ∷ more ∷ rest) = ⊥
AreStateLines names kinds (values ∷ states) (line ∷ rest) = IsStateLine names kinds line.words values
    × AreStateLines names kinds states rest

-- the lines are the block of a lasso
abbrev pub IsBlock : Spec → List NumberedLine → NamedLasso → Type 0
IsBlock spec [] named = ⊥
IsBlock spec (line ∷ rest) named = let c = named.component in
    IsHeaderLine spec line.words c (length named.lasso.states) named.lasso.loop_at
    × AreStateLines (free_names spec c) (free_types spec c) named.lasso.states rest

-- the lasso that a text means
pub record IsLasso (spec : Spec) (bytes : List ℕ) (named : NamedLasso) : Type 0 where
  pub size : length bytes ≤ most_bytes
  pub block : IsBlock spec (lines_that_count bytes) named

-- A line is what it has to be, and the break comes later, or it isn't, and the break is here.
abbrev pub BreaksHereOr : Type 0 → NumberedLine → ℕ → Type 0 → Type 0
BreaksHereOr fits line number later = ((fits → ⊥) × (number ≡ line.number)) ⊎ (fits × later)

-- more lines than there have to be
abbrev pub BreaksAtMore : List NumberedLine → ℕ → Type 0
BreaksAtMore [] number = ⊥
BreaksAtMore (line ∷ rest) number = number ≡ line.number

abbrev pub HasStateLine : List (List ℕ) → List PortType → NumberedLine → Type 0
HasStateLine names kinds line = (values : List Value) × IsStateLine names kinds line.words values

-- The first line at which these break, where so many state lines have to come and then the line `end`; a line that is
-- missing has the number behind the last line.
abbrev pub BreaksAfterHeader : List (List ℕ) → List PortType → ℕ → ℕ → List NumberedLine → ℕ → Type 0
BreaksAfterHeader names kinds missing states [] number = number ≡ missing
BreaksAfterHeader names kinds missing zero (line ∷ rest) number =
    BreaksHereOr (IsEndLine line.words) line number (BreaksAtMore rest number)
BreaksAfterHeader names kinds missing (suc states) (line ∷ rest) number =
    BreaksHereOr (HasStateLine names kinds line) line number (BreaksAfterHeader names kinds missing states rest number)

abbrev pub HasHeaderLine : Spec → NumberedLine → Type 0
HasHeaderLine spec line = (c : ComponentId) × (states : ℕ) × (loop_at : ℕ)
    × IsHeaderLine spec line.words c states loop_at

-- The first line at which these break.
abbrev pub LinesBreak : Spec → ℕ → List NumberedLine → ℕ → Type 0
LinesBreak spec missing [] number = number ≡ missing
LinesBreak spec missing (line ∷ rest) number = ((HasHeaderLine spec line → ⊥) × (number ≡ line.number))
    ⊎ ((c : ComponentId) × (states : ℕ) × (loop_at : ℕ) × IsHeaderLine spec line.words c states loop_at
    × BreaksAfterHeader (free_names spec c) (free_types spec c) missing states rest number)

-- The first line at which a text is no lasso, counted from 1; a text that is too long breaks at once.
abbrev pub IsBreak : Spec → List ℕ → ℕ → Type 0
IsBreak spec bytes number = ((most_bytes < length bytes) × (number ≡ 1))
    ⊎ ((length bytes ≤ most_bytes) × LinesBreak spec (missing_line bytes) (lines_that_count bytes) number)
