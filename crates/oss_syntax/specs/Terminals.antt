-- What the tokens of a text are read as: their terminals. A word or a symbol is looked up in the tables below; a word
-- that stands in none of them is a name.
use Rattle.std.specs.Prelude.{ℕ, Bool, true, false, List, [], ◌∷◌, Option, Some, None, map, codes, bytes_eq}
use Rattle.std.specs.Prelude.{if◌then◌else◌}
use Rattle.std.specs.Str.Parse.{digits_value}
use Rattle.oss_base.specs.declared.place.Span.{Span}
use Rattle.oss_syntax.specs.Tokens.{text_at}
use Rattle.oss_syntax.specs.declared.token.Token.{Token}
use Rattle.oss_syntax.specs.declared.token.TokenKind.{TokenKind}
use Rattle.oss_syntax.specs.declared.token.TokenKind.TheVariants as kinds
use Rattle.oss_syntax.specs.declared.expression.PortWord.{PortWord}
use Rattle.oss_syntax.specs.declared.expression.PortWord.TheVariants as port
use Rattle.oss_syntax.specs.declared.expression.PrefixWord.{PrefixWord}
use Rattle.oss_syntax.specs.declared.expression.PrefixWord.TheVariants as prefix
use Rattle.oss_syntax.specs.declared.expression.BinaryWord.{BinaryWord}
use Rattle.oss_syntax.specs.declared.expression.BinaryWord.TheVariants as binary
use Rattle.oss_syntax.specs.declared.terminal.Mark.{Mark}
use Rattle.oss_syntax.specs.declared.terminal.Mark.TheVariants as mark
use Rattle.oss_syntax.specs.Alphabet.{Terminal}
use Rattle.oss_syntax.specs.Alphabet as terminal

-- a spelling and what it stands for
pub record Spelling (A : Type 0) : Type 0 where
  pub text : List ℕ
  pub means : A

abbrev pub spells : {A : Type 0} → List ℕ → A → Spelling A
spells text means = record { text = text; means = means }

-- what the first of these spellings that is this text stands for
abbrev pub choose : {A : Type 0} → List (Spelling A) → List ℕ → Option A
choose [] text = None
choose (spelling ∷ spellings) text =
    if bytes_eq text spelling.text then Some spelling.means else choose spellings text

abbrev pub structure_words : List (Spelling Mark)
structure_words =
    spells (codes "COMPONENT") mark.Component ∷ spells (codes "system") mark.System
    ∷ spells (codes "INTERFACE") mark.Interface
    ∷ spells (codes "INPUT") mark.Input ∷ spells (codes "OUTPUT") mark.Output ∷ spells (codes "PORT") mark.Port
    ∷ spells (codes "CONTRACT") mark.Contract ∷ spells (codes "assume") mark.Assume
    ∷ spells (codes "guarantee") mark.Guarantee
    ∷ spells (codes "REFINEMENT") mark.Refinement ∷ spells (codes "SUB") mark.Sub
    ∷ spells (codes "CONNECTION") mark.Connection
    ∷ spells (codes "REFINEDBY") mark.RefinedBy ∷ spells (codes "boolean") mark.Boolean
    ∷ spells (codes "event") mark.Event
    ∷ spells (codes "in") mark.In ∷ []

-- words of types and constructs that are not supported
abbrev pub unsupported_words : List (Spelling Mark)
unsupported_words =
    spells (codes "real") mark.UnsupportedType ∷ spells (codes "integer") mark.UnsupportedType
    ∷ spells (codes "word") mark.UnsupportedType
    ∷ spells (codes "unsigned") mark.UnsupportedType ∷ spells (codes "signed") mark.UnsupportedType
    ∷ spells (codes "array") mark.UnsupportedType ∷ spells (codes "continuous") mark.UnsupportedType
    ∷ spells (codes "PARAMETER") mark.UnsupportedConstruct ∷ spells (codes "OPERATION") mark.UnsupportedConstruct
    ∷ spells (codes "DEFINE") mark.UnsupportedConstruct ∷ spells (codes "FORMULA") mark.UnsupportedConstruct
    ∷ spells (codes "case") mark.UnsupportedConstruct ∷ spells (codes "time_until") mark.UnsupportedConstruct
    ∷ spells (codes "since") mark.UnsupportedConstruct ∷ spells (codes "previously") mark.UnsupportedConstruct
    ∷ spells (codes "historically") mark.UnsupportedConstruct ∷ spells (codes "mod") mark.UnsupportedConstruct
    ∷ spells (codes "xor") mark.UnsupportedConstruct ∷ []

abbrev pub truth_words : List (Spelling Bool)
truth_words =
    spells (codes "true") true ∷ spells (codes "TRUE") true ∷ spells (codes "false") false
    ∷ spells (codes "FALSE") false ∷ []

abbrev pub port_words : List (Spelling PortWord)
port_words =
    spells (codes "next") port.Next ∷ spells (codes "change") port.Change ∷ spells (codes "rise") port.Rise
    ∷ spells (codes "fall") port.Fall ∷ []

abbrev pub prefix_words : List (Spelling PrefixWord)
prefix_words =
    spells (codes "not") prefix.Not ∷ spells (codes "always") prefix.Always ∷ spells (codes "G") prefix.Always
    ∷ spells (codes "never") prefix.Never ∷ spells (codes "F") prefix.Future ∷ spells (codes "then") prefix.Then
    ∷ spells (codes "X") prefix.Then ∷ []

abbrev pub binary_words : List (Spelling BinaryWord)
binary_words =
    spells (codes "until") binary.Until ∷ spells (codes "U") binary.Until ∷ spells (codes "releases") binary.Releases
    ∷ spells (codes "and") binary.And ∷ spells (codes "or") binary.Or ∷ spells (codes "implies") binary.Implies
    ∷ spells (codes "iff") binary.Iff ∷ []

abbrev pub binary_symbols : List (Spelling BinaryWord)
binary_symbols =
    spells (codes "<->") binary.Iff ∷ spells (codes "->") binary.Implies ∷ spells (codes "<=") binary.AtMost
    ∷ spells (codes ">=") binary.AtLeast ∷ spells (codes "!=") binary.NotEqual ∷ spells (codes "=") binary.Equal
    ∷ spells (codes "<") binary.Less ∷ spells (codes ">") binary.Greater ∷ spells (codes "+") binary.Plus
    ∷ spells (codes "-") binary.Minus ∷ spells (codes "&") binary.And ∷ spells (codes "|") binary.Or ∷ []

abbrev pub prefix_symbols : List (Spelling PrefixWord)
prefix_symbols = spells (codes "!") prefix.Not ∷ []

abbrev pub mark_symbols : List (Spelling Mark)
mark_symbols =
    spells (codes ":=") mark.Assign ∷ spells (codes ":") mark.Colon ∷ spells (codes ";") mark.Semicolon
    ∷ spells (codes ",") mark.Comma
    ∷ spells (codes "..") mark.Range ∷ spells (codes ".") mark.Dot ∷ spells (codes "(") mark.Open
    ∷ spells (codes ")") mark.Close
    ∷ spells (codes "{") mark.OpenBrace ∷ spells (codes "}") mark.CloseBrace ∷ spells (codes "@") mark.At ∷ []

-- symbols of constructs that are not supported
abbrev pub unsupported_symbols : List (Spelling Mark)
unsupported_symbols =
    spells (codes "*") mark.UnsupportedConstruct ∷ spells (codes "/") mark.UnsupportedConstruct
    ∷ spells (codes "[") mark.UnsupportedConstruct ∷ spells (codes "]") mark.UnsupportedConstruct ∷ []

-- the terminal of what a table gives, or the other one where it gives nothing
abbrev pub as_terminal : {A : Type 0} → (A → Span → Terminal) → Option A → Span → Terminal → Terminal
as_terminal make (Some means) span other = make means span
as_terminal make None span other = other

abbrev pub word_terminal : List ℕ → Span → Terminal
word_terminal text span =
    as_terminal terminal.Mark (choose structure_words text) span
    (as_terminal terminal.Truth (choose truth_words text) span
    (as_terminal terminal.OfPort (choose port_words text) span
    (as_terminal terminal.Prefix (choose prefix_words text) span
    (as_terminal terminal.Binary (choose binary_words text) span
    (as_terminal terminal.Mark (choose unsupported_words text) span
    (terminal.Name (record { text = text; span = span })))))))

-- `!` is the word `not`. Each symbol of the language stands in one of these tables.
abbrev pub symbol_terminal : List ℕ → Span → Terminal
symbol_terminal text span =
    as_terminal terminal.Binary (choose binary_symbols text) span
    (as_terminal terminal.Prefix (choose prefix_symbols text) span
    (as_terminal terminal.Mark (choose mark_symbols text) span
    (as_terminal terminal.Mark (choose unsupported_symbols text) span
    (terminal.Name (record { text = text; span = span })))))

abbrev pub read_as : TokenKind → List ℕ → Span → Terminal
read_as kinds.Word text span = word_terminal text span
read_as kinds.Numeral text span = terminal.Numeral (digits_value 10 text) span
read_as kinds.Symbol text span = symbol_terminal text span

abbrev pub terminal_of : List ℕ → Token → Terminal
terminal_of bytes token = read_as token.kind (text_at bytes token.span) token.span

abbrev pub terminals_of : List ℕ → List Token → List Terminal
terminals_of bytes tokens = map (terminal_of bytes) tokens
