-- Expressions that are read in part. This file serves proofs only: no public contract cites it.
use Rattle.std.specs.Prelude.{◌≡◌, ℕ, ◌<◌, ◌≤◌, ◌⊎◌, true, List, ◌∷◌, Option, Some, None}
use Rattle.oss_base.specs.declared.place.Span.{Span}
use Rattle.oss_syntax.specs.declared.expression.PrefixWord.{PrefixWord}
use Rattle.oss_syntax.specs.declared.expression.PrefixWord.TheVariants as prefix
use Rattle.oss_syntax.specs.declared.expression.BinaryWord.{BinaryWord}
use Rattle.oss_syntax.specs.declared.expression.BinaryWord.TheVariants as binary
use Rattle.oss_syntax.specs.declared.expression.Role.{Role}
use Rattle.oss_syntax.specs.declared.terminal.Mark.TheVariants as mark
use Rattle.oss_syntax.specs.Alphabet.{Terminal}
use Rattle.oss_syntax.specs.Alphabet as terminal
use Rattle.oss_syntax.specs.Expressions.{Tree, Name, Dotted, Numeral, Truth, Brackets, OfPort, Prefix, Binary}
use Rattle.oss_syntax.specs.Expressions.{height, level, prefix_level, binary_level, left_level, right_level}
use Rattle.oss_syntax.specs.Expressions.{allows_binary}
use Rattle.oss_syntax.specs.Formulas.{Spells}

-- what is left does not go on with an expression of this level: it begins with no operator that binds
-- so tightly, and with no dot
pub record EndsAtLevel (k : ℕ) (rest : List Terminal) : Type 0 where
  pub dot : (span : Span) (more : List Terminal) → rest ≡ terminal.Mark mark.Dot span ∷ more → ⊥
  pub binary : (word : BinaryWord) (span : Span) (more : List Terminal) → rest ≡ terminal.Binary word span ∷ more
      → k < binary_level word

-- what may follow a tree, so that its last operand ends there
pub record EndsLastOperand (t : Tree) (r : List Terminal) : Type 0 where
  pub after_prefix : (p : PrefixWord) → prefix_level p ≤ level t → EndsAtLevel (prefix_level p) r
  pub after_binary : (w : BinaryWord) → binary_level w ≤ level t → EndsAtLevel (right_level w) r
  pub dot : (span : Span) (more : List Terminal) → r ≡ terminal.Mark mark.Dot span ∷ more → ⊥

-- The tree goes on from `left`, which has `rest` after it: `left` stands at the tree's left edge, and
-- is not the whole.
abbrev pub HasInnerLeftEdge : Role → Tree → List Terminal → Tree → List Terminal → Type 0
HasInnerLeftEdge role left rest (Binary word a b span) r =
    (mid : List Terminal)
    × (((a ≡ left) × (terminal.Binary word span ∷ mid ≡ rest))
    ⊎ HasInnerLeftEdge role left rest a (terminal.Binary word span ∷ mid))
    × (allows_binary role word ≡ true) × (level a ≤ left_level word) × (level b ≤ right_level word)
    × Spells role mid b r
HasInnerLeftEdge role left rest (Name _) r = ⊥
HasInnerLeftEdge role left rest (Dotted _ _) r = ⊥
HasInnerLeftEdge role left rest (Numeral _ _) r = ⊥
HasInnerLeftEdge role left rest (Truth _ _) r = ⊥
HasInnerLeftEdge role left rest (Brackets _ _) r = ⊥
HasInnerLeftEdge role left rest (OfPort _ _ _) r = ⊥
HasInnerLeftEdge role left rest (Prefix _ _ _) r = ⊥

abbrev pub HasLeftEdge : Role → Tree → List Terminal → Tree → List Terminal → Type 0
HasLeftEdge role left rest t r = ((t ≡ left) × (r ≡ rest)) ⊎ HasInnerLeftEdge role left rest t r

-- a tree that is no operator between two operands
abbrev pub IsOperand : Tree → Type 0
IsOperand (Binary _ _ _ _) = ⊥
IsOperand (Name _) = Unit {0}
IsOperand (Dotted _ _) = Unit {0}
IsOperand (Numeral _ _) = Unit {0}
IsOperand (Truth _ _) = Unit {0}
IsOperand (Brackets _ _) = Unit {0}
IsOperand (OfPort _ _ _) = Unit {0}
IsOperand (Prefix _ _ _) = Unit {0}

-- a phrase: an expression of this level and height, which ends where what is left begins
pub record Phrase (role : Role) (room k : ℕ) (ts : List Terminal) (t : Tree) (r : List Terminal) : Type 0 where
  pub spells : Spells role ts t r
  pub level : level t ≤ k
  pub height : height t ≤ room
  pub stops : EndsAtLevel k r

-- it is the only phrase
pub record OnlyPhrase (role : Role) (room k : ℕ) (ts : List Terminal) (t : Tree) (rest : List Terminal) : Type 0 where
  pub phrase : Phrase role room k ts t rest
  pub only : (t' : Tree) (r : List Terminal) → Phrase role room k ts t' r → (t' ≡ t) × (r ≡ rest)

-- there is no phrase
abbrev pub NoPhrase : Role → ℕ → ℕ → List Terminal → Type 0
NoPhrase role room k ts = (t : Tree) (r : List Terminal) → Phrase role room k ts t r → ⊥

-- `left` is read so far: each phrase goes on from it
pub record PhrasesGoOnFrom (role : Role) (room k : ℕ) (ts : List Terminal) (left : Tree)
    (rest : List Terminal) : Type 0 where
  pub spells : Spells role ts left rest
  pub level : level left ≤ k
  pub height : height left ≤ room
  pub all : (t : Tree) (r : List Terminal) → Phrase role room k ts t r → HasLeftEdge role left rest t r

-- the word before an operand that a terminal begins, and the terminal's span
abbrev pub prefix_of : Terminal → Option (PrefixWord × Span)
prefix_of (terminal.Prefix word span) = Some (word, span)
prefix_of (terminal.Binary binary.Minus span) = Some (prefix.Minus, span)
prefix_of (terminal.Binary _ _) = None
prefix_of (terminal.Mark mark.In span) = Some (prefix.Future, span)
prefix_of (terminal.Mark _ _) = None
prefix_of (terminal.Name _) = None
prefix_of (terminal.Numeral _ _) = None
prefix_of (terminal.Truth _ _) = None
prefix_of (terminal.OfPort _ _) = None

-- a terminal that begins an operand without a word before it
abbrev pub CanBegin : Terminal → Type 0
CanBegin (terminal.Name _) = Unit {0}
CanBegin (terminal.Numeral _ _) = Unit {0}
CanBegin (terminal.Truth _ _) = Unit {0}
CanBegin (terminal.OfPort _ _) = Unit {0}
CanBegin (terminal.Prefix _ _) = ⊥
CanBegin (terminal.Binary _ _) = ⊥
CanBegin (terminal.Mark m _) = m ≡ mark.Open
