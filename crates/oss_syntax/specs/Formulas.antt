-- The expressions of the grammar: which terminals spell which tree.
use Rattle.std.specs.Prelude.{◌≡◌, ◌≤◌, ◌⊎◌, true, List, ◌∷◌, codes}
use Rattle.oss_base.specs.Limits.{most_height}
use Rattle.oss_base.specs.declared.place.Span.{Span}
use Rattle.oss_syntax.specs.declared.expression.PrefixWord.{PrefixWord}
use Rattle.oss_syntax.specs.declared.expression.PrefixWord.TheVariants as prefix
use Rattle.oss_syntax.specs.declared.expression.BinaryWord.TheVariants as binary
use Rattle.oss_syntax.specs.declared.expression.Role.{Role}
use Rattle.oss_syntax.specs.declared.expression.Role.TheVariants as roles
use Rattle.oss_syntax.specs.declared.terminal.Mark.TheVariants as mark
use Rattle.oss_syntax.specs.Alphabet.{Terminal}
use Rattle.oss_syntax.specs.Alphabet as terminal
use Rattle.oss_syntax.specs.Expressions.{Tree, Name, Dotted, Numeral, Truth, Brackets, OfPort, Prefix, Binary}
use Rattle.oss_syntax.specs.Expressions.{height, level, prefix_level, left_level, right_level, allows_prefix}
use Rattle.oss_syntax.specs.Expressions.{allows_binary}

-- the word `in`, and then the names `the` and `future`
abbrev pub InTheFuture : List Terminal → Span → List Terminal → Type 0
InTheFuture ts span rest =
    (the future : Span)
    × (ts ≡ terminal.Mark mark.In span ∷ terminal.Name (record { text = codes "the"; span = the })
    ∷ terminal.Name (record { text = codes "future"; span = future }) ∷ rest)

-- a second way to write a word before an operand: minus is the sign that also stands between two
-- operands, and `F` is also written in three words
abbrev pub SecondSpelling : List Terminal → PrefixWord → Span → List Terminal → Type 0
SecondSpelling ts prefix.Minus span rest = ts ≡ terminal.Binary binary.Minus span ∷ rest
SecondSpelling ts prefix.Not span rest = ⊥
SecondSpelling ts prefix.Always span rest = ⊥
SecondSpelling ts prefix.Never span rest = ⊥
SecondSpelling ts prefix.Future span rest = InTheFuture ts span rest
SecondSpelling ts prefix.Then span rest = ⊥

-- The terminals begin with this word before an operand, which stands at this span.
abbrev pub SpellsPrefix : List Terminal → PrefixWord → Span → List Terminal → Type 0
SpellsPrefix ts word span rest = (ts ≡ terminal.Prefix word span ∷ rest) ⊎ SecondSpelling ts word span rest

-- The terminals `ts` begin with those of the expression, and `rest` is what is left after them: a case
-- for each form. An operand's level is at most what its operator admits on that side, which settles
-- how a row of operators groups (Aho, Sethi and Ullman, Compilers, 1986, on precedence and
-- associativity).
abbrev pub Spells : Role → List Terminal → Tree → List Terminal → Type 0
Spells role ts (Name word) rest = ts ≡ terminal.Name word ∷ rest
Spells role ts (Dotted sub port) rest =
    (role ≡ roles.State) × (dot : Span)
    × (ts ≡ terminal.Name sub ∷ terminal.Mark mark.Dot dot ∷ terminal.Name port ∷ rest)
Spells role ts (Numeral value span) rest = ts ≡ terminal.Numeral value span ∷ rest
Spells role ts (Truth truth span) rest = ts ≡ terminal.Truth truth span ∷ rest
Spells role ts (Brackets inside span) rest =
    (closing : Span) × (mid : List Terminal) × (ts ≡ terminal.Mark mark.Open span ∷ mid)
    × Spells role mid inside (terminal.Mark mark.Close closing ∷ rest)
Spells role ts (OfPort word port span) rest =
    (role ≡ roles.Formula) × (opening closing : Span)
    × (ts ≡ terminal.OfPort word span ∷ terminal.Mark mark.Open opening ∷ terminal.Name port
    ∷ terminal.Mark mark.Close closing ∷ rest)
Spells role ts (Prefix word operand span) rest =
    (allows_prefix role word ≡ true) × (level operand ≤ prefix_level word)
    × (mid : List Terminal) × SpellsPrefix ts word span mid × Spells role mid operand rest
Spells role ts (Binary word left right span) rest =
    (allows_binary role word ≡ true) × (level left ≤ left_level word) × (level right ≤ right_level word)
    × (mid : List Terminal) × Spells role ts left (terminal.Binary word span ∷ mid) × Spells role mid right rest

-- A whole expression and the semicolon after it, within the limit on height.
abbrev pub Closed : Role → List Terminal → Tree → List Terminal → Type 0
Closed role ts whole rest =
    (semicolon : Span) × Spells role ts whole (terminal.Mark mark.Semicolon semicolon ∷ rest)
    × (height whole ≤ most_height)
