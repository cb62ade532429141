-- What a tree is like that some tokens are read as: its names are names, its numerals within the limit, and its operators
-- stand where the grammar admits them.
use Rattle.std.proofs.Common.{◌≡◌, ℕ, ◌+◌, ◌≤◌, Bool, true, false, List, [], ◌∷◌, ◌++◌, length, Option, Some, None, refl}
use Rattle.std.specs.Prelude.{Contains}
use Rattle.std.specs.List.{list_all}
use Rattle.std.proofs.lemmas.Bool.{false≢true}
use Rattle.std.proofs.lemmas.List.Elements.{All-contains}
use Rattle.std.proofs.lemmas.List.Sums.{AllPass-from_list_all}
use Rattle.oss_base.specs.Limits.{largest_numeral, most_height}
use Rattle.oss_base.specs.declared.place.Span.{Span}
use Rattle.oss_syntax.specs.Alphabet.{Terminal}
use Rattle.oss_syntax.specs.Alphabet as terminal
use Rattle.oss_syntax.specs.Terminals.{choose, as_terminal, structure_words, truth_words, port_words, prefix_words, binary_words, unsupported_words}
use Rattle.oss_syntax.specs.Terminals.{word_terminal, symbol_terminal, read_as}
use Rattle.oss_syntax.specs.Tokens.{symbols, Piece, IsPieceOf, IsWithinLimit, joined_bytes, ArePieces, is_word_start, is_word_byte, FirstPasses}
use Rattle.oss_syntax.specs.declared.token.TokenKind.{TokenKind}
use Rattle.oss_syntax.specs.declared.token.TokenKind.TheVariants as kinds
use Rattle.oss_syntax.specs.declared.words.Word.{Word}
use Rattle.oss_syntax.specs.declared.words.PartWord.{PartWord}
use Rattle.oss_syntax.specs.declared.types.BoundTree.{BoundTree}
use Rattle.oss_syntax.specs.declared.types.TypeTree.{TypeTree}
use Rattle.oss_syntax.specs.declared.types.TypeTree.TheVariants as type
use Rattle.oss_syntax.specs.declared.refinement.TargetTree.{TargetTree}
use Rattle.oss_syntax.specs.declared.refinement.TargetTree.TheVariants as targets
use Rattle.oss_syntax.specs.declared.expression.PortWord.{PortWord}
use Rattle.oss_syntax.specs.declared.expression.PrefixWord.{PrefixWord}
use Rattle.oss_syntax.specs.declared.expression.BinaryWord.{BinaryWord}
use Rattle.oss_syntax.specs.declared.expression.Role.{Role}
use Rattle.oss_syntax.specs.declared.expression.Role.TheVariants as roles
use Rattle.oss_syntax.specs.declared.terminal.Mark.{Mark}
use Rattle.oss_syntax.specs.Expressions.{Tree, Name, Dotted, Numeral, Truth, Brackets, OfPort, Prefix, Binary, height, level, prefix_level, left_level}
use Rattle.oss_syntax.specs.Expressions.{right_level, allows_prefix, allows_binary}
use Rattle.oss_syntax.specs.Trees.{Item, Port, Contract, RefinementItemTree, Sub, Connection, Refined, Component}
use Rattle.oss_printer.proofs.Chunks.{read_piece, terminals_from}

-- a text that is read as a name wherever it stands
pub record IsName (text : List ℕ) : Type 0 where
  pub begins : FirstPasses is_word_start text
  pub bytes : list_all is_word_byte text ≡ true
  pub free : (span : Span) → word_terminal text span ≡ terminal.Name (record { text = text; span = span })

-- a terminal that can be written
abbrev pub IsWritable : Terminal → Type 0
IsWritable (terminal.Name name) = IsName name.text
IsWritable (terminal.Numeral value _) = value ≤ largest_numeral
IsWritable (terminal.Truth _ _) = Unit {0}
IsWritable (terminal.OfPort _ _) = Unit {0}
IsWritable (terminal.Prefix _ _) = Unit {0}
IsWritable (terminal.Binary _ _) = Unit {0}
IsWritable (terminal.Mark _ _) = Unit {0}

abbrev pub AreWritable : List Terminal → Type 0
AreWritable [] = Unit {0}
AreWritable (t ∷ ts) = IsWritable t × AreWritable ts

abbrev pub Each : {A : Type 0} → (A → Type 0) → List A → Type 0
Each P [] = Unit {0}
Each P (x ∷ xs) = P x × Each P xs

abbrev pub FitsExpr : Role → Tree → Type 0
FitsExpr role (Name name) = IsName name.text
FitsExpr role (Dotted sub port) = (role ≡ roles.State) × IsName sub.text × IsName port.text
FitsExpr role (Numeral value _) = value ≤ largest_numeral
FitsExpr role (Truth _ _) = Unit {0}
FitsExpr role (Brackets inside _) = FitsExpr role inside
FitsExpr role (OfPort _ port _) = (role ≡ roles.Formula) × IsName port.text
FitsExpr role (Prefix op operand _) =
    (allows_prefix role op ≡ true) × (level operand ≤ prefix_level op) × FitsExpr role operand
FitsExpr role (Binary op left right _) =
    (allows_binary role op ≡ true) × (level left ≤ left_level op) × (level right ≤ right_level op)
    × FitsExpr role left × FitsExpr role right

abbrev pub FitsClosed : Role → Tree → Type 0
FitsClosed role t = FitsExpr role t × (height t ≤ most_height)

abbrev pub FitsWord : Word → Type 0
FitsWord name = IsName name.text

abbrev pub FitsBound : BoundTree → Type 0
FitsBound bound = bound.value ≤ largest_numeral

abbrev pub FitsNames : List Word → Type 0
FitsNames [] = ⊥
FitsNames (name ∷ names) = FitsWord name × Each FitsWord names

abbrev pub FitsType : TypeTree → Type 0
FitsType type.Boolean = Unit {0}
FitsType type.Event = Unit {0}
FitsType (type.Range lo hi) = FitsBound lo × FitsBound hi
FitsType (type.Enum names) = FitsNames names

abbrev pub FitsItem : Item → Type 0
FitsItem (Port _ name kind) = FitsWord name × FitsType kind
FitsItem (Contract name assume guarantee) =
    FitsWord name × FitsClosed roles.Formula assume × FitsClosed roles.Formula guarantee

abbrev pub FitsTarget : TargetTree → Type 0
FitsTarget (targets.Own name) = FitsWord name
FitsTarget (targets.OfSub sub port) = FitsWord sub × FitsWord port

abbrev pub FitsPart : PartWord → Type 0
FitsPart part = FitsWord part.sub × FitsWord part.contract

abbrev pub FitsParts : List PartWord → Type 0
FitsParts [] = ⊥
FitsParts (part ∷ parts) = FitsPart part × Each FitsPart parts

abbrev pub FitsRefinementItem : RefinementItemTree → Type 0
FitsRefinementItem (Sub name component) = FitsWord name × FitsWord component
FitsRefinementItem (Connection target source) = FitsTarget target × FitsClosed roles.State source
FitsRefinementItem (Refined name parts) = FitsWord name × FitsParts parts

abbrev pub FitsRefinement : Option (List RefinementItemTree) → Type 0
FitsRefinement (Some items) = Each FitsRefinementItem items
FitsRefinement None = Unit {0}

pub record FitsComponent (c : Component) : Type 0 where
  pub name : FitsWord c.name
  pub interface : Each FitsItem c.interface
  pub refinement : FitsRefinement c.refinement

-- The terminals of a text's tokens can be written.

-- what a word is read as by what the tables give
abbrev word_as : Option Mark → Option Bool → Option PortWord → Option PrefixWord → Option BinaryWord → Option Mark
    → List ℕ → Span → Terminal
word_as a b c d e f text span =
    as_terminal terminal.Mark a span (as_terminal terminal.Truth b span (as_terminal terminal.OfPort c span
    (as_terminal terminal.Prefix d span (as_terminal terminal.Binary e span (as_terminal terminal.Mark f span
    (terminal.Name (record { text = text; span = span })))))))

word_as_writable : (a : Option Mark) (b : Option Bool) (c : Option PortWord) (d : Option PrefixWord)
    (e : Option BinaryWord) (f : Option Mark)
    (text : List ℕ) (span : Span) → FirstPasses is_word_start text → list_all is_word_byte text ≡ true
    → ((s : Span) → word_terminal text s ≡ word_as a b c d e f text s) → IsWritable (word_as a b c d e f text span)
word_as_writable (Some _) b c d e f text span begins bytes h = tt
word_as_writable None (Some _) c d e f text span begins bytes h = tt
word_as_writable None None (Some _) d e f text span begins bytes h = tt
word_as_writable None None None (Some _) e f text span begins bytes h = tt
word_as_writable None None None None (Some _) f text span begins bytes h = tt
word_as_writable None None None None None (Some _) text span begins bytes h = tt
word_as_writable None None None None None None text span begins bytes h = record { begins = begins; bytes = bytes; free = h }

word_writable : (text : List ℕ) (span : Span) → FirstPasses is_word_start text → list_all is_word_byte text ≡ true
    → IsWritable (word_terminal text span)
word_writable text span begins bytes =
    word_as_writable (choose structure_words text) (choose truth_words text) (choose port_words text) (choose prefix_words text)
    (choose binary_words text) (choose unsupported_words text) text span begins bytes (λ s. refl)

abbrev is_fixed : Terminal → Bool
is_fixed (terminal.Name _) = false
is_fixed (terminal.Numeral _ _) = false
is_fixed (terminal.Truth _ _) = true
is_fixed (terminal.OfPort _ _) = true
is_fixed (terminal.Prefix _ _) = true
is_fixed (terminal.Binary _ _) = true
is_fixed (terminal.Mark _ _) = true

fixed_writable : (t : Terminal) → is_fixed t ≡ true → IsWritable t
fixed_writable (terminal.Name _) h = absurd (false≢true h)
fixed_writable (terminal.Numeral _ _) h = absurd (false≢true h)
fixed_writable (terminal.Truth _ _) h = tt
fixed_writable (terminal.OfPort _ _) h = tt
fixed_writable (terminal.Prefix _ _) h = tt
fixed_writable (terminal.Binary _ _) h = tt
fixed_writable (terminal.Mark _ _) h = tt

all_fixed : (span : Span) → list_all (λ (text : List ℕ). is_fixed (symbol_terminal text span)) symbols ≡ true
unfolding symbols
all_fixed span = refl

symbol_writable : (text : List ℕ) (span : Span) → Contains symbols text → IsWritable (symbol_terminal text span)
symbol_writable text span c =
    fixed_writable (symbol_terminal text span)
    (All-contains (λ (text : List ℕ). is_fixed (symbol_terminal text span) ≡ true) symbols text
    (AllPass-from_list_all (λ (text : List ℕ). is_fixed (symbol_terminal text span)) symbols (all_fixed span)) c)

token_writable : (kind : TokenKind) (text after : List ℕ) (span : Span) → IsPieceOf (Some kind) text after
    → IsWithinLimit (Some kind) text
    → IsWritable (read_as kind text span)
token_writable kinds.Word text after span piece limit = word_writable text span piece.begins piece.bytes
token_writable kinds.Numeral text after span piece limit = limit
token_writable kinds.Symbol text after span piece limit = symbol_writable text span piece.listed

piece_writable : (kind : Option TokenKind) (text after : List ℕ) (at : ℕ) (more : List Terminal)
    → IsPieceOf kind text after → IsWithinLimit kind text
    → AreWritable more → AreWritable (read_piece kind text at ++ more)
piece_writable None text after at more piece limit others = others
piece_writable (Some kind) text after at more piece limit others =
    (token_writable kind text after (record { start = at; end = at + length text }) piece limit, others)

pub pieces_writable : (ps : List Piece) (rest : List ℕ) (at : ℕ) → ArePieces ps rest
    → AreWritable (terminals_from at ps)
pieces_writable [] rest at each = tt
pieces_writable (p ∷ ps) rest at each =
    piece_writable p.kind p.text (joined_bytes ps ++ rest) at (terminals_from (at + length p.text) ps) each.0 each.1
    (pieces_writable ps rest (at + length p.text) each.2)
