-- The tokens of a text, and its first lexing fault.
--
-- A text is cut into pieces from left to right. A piece is a token or a gap between tokens, and takes
-- the longest text that it can, as is usual for scanners (Aho, Lam, Sethi and Ullman, Compilers,
-- section 3). Which bytes follow a piece is part of what makes it one.
use Rattle.std.specs.Prelude.{◌≡◌, ◌≢◌, ℕ, ◌+◌, ◌<◌, ◌≤◌, ◌==◌, ◌&&◌, ◌||◌, Bool, false, not, ◌⊎◌, List, [], ◌∷◌}
use Rattle.std.specs.Prelude.{◌++◌, length, slice_range, codes, IsTrue, Contains, Option, Some, None}
use Rattle.std.specs.Char.{is_ascii_digit, is_ascii_alphabetic, is_ascii_alphanumeric}
use Rattle.std.specs.List.{list_all, flat_map}
use Rattle.std.specs.Str.Parse.{digits_value}
use Rattle.oss_base.specs.Limits.{largest_numeral}
use Rattle.oss_base.specs.Places.{place_after}
use Rattle.oss_base.specs.declared.fault.Fault.{Fault}
use Rattle.oss_base.specs.declared.fault.FaultKind.{FaultKind}
use Rattle.oss_base.specs.declared.fault.FaultKind.TheVariants.{F2, F4}
use Rattle.oss_base.specs.declared.place.Span.{Span}
use Rattle.oss_syntax.specs.declared.token.Token.{Token}
use Rattle.oss_syntax.specs.declared.token.TokenKind.{TokenKind}
use Rattle.oss_syntax.specs.declared.token.TokenKind.TheVariants.{Word, Numeral, Symbol}

-- the symbols of the language
unfoldable pub symbols : List (List ℕ)
symbols =
    codes ":=" ∷ codes ":" ∷ codes ";" ∷ codes "," ∷ codes ".." ∷ codes "." ∷ codes "(" ∷ codes ")"
    ∷ codes "{" ∷ codes "}" ∷ codes "[" ∷ codes "]" ∷ codes "<->" ∷ codes "->" ∷ codes "<=" ∷ codes ">="
    ∷ codes "!=" ∷ codes "=" ∷ codes "<" ∷ codes ">" ∷ codes "+" ∷ codes "-" ∷ codes "*" ∷ codes "/"
    ∷ codes "!" ∷ codes "&" ∷ codes "|" ∷ codes "@" ∷ []

-- a space, a tab, a carriage return or a line feed
abbrev pub is_blank : ℕ → Bool
is_blank byte = (byte == 32) || (byte == 9) || (byte == 13) || (byte == 10)

-- a letter or `_`, in ASCII
abbrev pub is_word_start : ℕ → Bool
is_word_start byte = is_ascii_alphabetic byte || (byte == 95)

-- a letter, a digit or `_`, in ASCII
abbrev pub is_word_byte : ℕ → Bool
is_word_byte byte = is_ascii_alphanumeric byte || (byte == 95)

-- any byte but a line feed
abbrev pub is_comment_byte : ℕ → Bool
is_comment_byte byte = not (byte == 10)

-- the first two bytes are `--` or `//`
abbrev pub begins_comment : List ℕ → Bool
begins_comment (first ∷ second ∷ _) = ((first == 45) && (second == 45)) || ((first == 47) && (second == 47))
begins_comment (_ ∷ []) = false
begins_comment [] = false

-- there is a first byte, and it passes
abbrev pub FirstPasses : (ℕ → Bool) → List ℕ → Type 0
FirstPasses passes [] = ⊥
FirstPasses passes (byte ∷ _) = IsTrue (passes byte)

-- the first byte doesn't pass, or there is none
abbrev pub NoFirstPasses : (ℕ → Bool) → List ℕ → Type 0
NoFirstPasses passes [] = Unit {0}
NoFirstPasses passes (byte ∷ _) = passes byte ≡ false

-- Below, `text` is the text of a piece, and `after` are all the bytes that follow it.

abbrev pub IsBlank : List ℕ → Type 0
IsBlank text = (byte : ℕ) × (text ≡ byte ∷ []) × IsTrue (is_blank byte)

-- A comment goes up to the next line feed, which isn't part of it, or to the end.
pub record IsComment (text after : List ℕ) : Type 0 where
  pub begins : IsTrue (begins_comment text)
  pub bytes : IsTrue (list_all is_comment_byte text)
  pub ends : NoFirstPasses is_comment_byte after

pub record IsWord (text after : List ℕ) : Type 0 where
  pub begins : FirstPasses is_word_start text
  pub bytes : IsTrue (list_all is_word_byte text)
  pub ends : NoFirstPasses is_word_byte after

pub record IsNumeral (text after : List ℕ) : Type 0 where
  pub begins : FirstPasses is_ascii_digit text
  pub bytes : IsTrue (list_all is_ascii_digit text)
  pub ends : NoFirstPasses is_ascii_digit after

-- No longer symbol stands there, and no comment begins there.
pub record IsSymbol (text after : List ℕ) : Type 0 where
  pub listed : Contains symbols text
  pub longest : (other rest : List ℕ) → Contains symbols other → text ++ after ≡ other ++ rest
      → length other ≤ length text
  pub no_comment : begins_comment (text ++ after) ≡ false

-- A piece: a token of a kind, or, where there is no kind, a gap, which is one blank or one comment.
pub record Piece : Type 0 where
  pub kind : Option TokenKind
  pub text : List ℕ

abbrev pub IsPieceOf : Option TokenKind → List ℕ → List ℕ → Type 0
IsPieceOf None text after = IsBlank text ⊎ IsComment text after
IsPieceOf (Some Word) text after = IsWord text after
IsPieceOf (Some Numeral) text after = IsNumeral text after
IsPieceOf (Some Symbol) text after = IsSymbol text after

-- the number of a numeral isn't too large
abbrev pub IsWithinLimit : Option TokenKind → List ℕ → Type 0
IsWithinLimit (Some Numeral) text = digits_value 10 text ≤ largest_numeral
IsWithinLimit (Some Word) text = Unit {0}
IsWithinLimit (Some Symbol) text = Unit {0}
IsWithinLimit None text = Unit {0}

-- the bytes of the pieces, one after another
abbrev pub joined_bytes : List Piece → List ℕ
joined_bytes pieces = flat_map (λ (piece : Piece). piece.text) pieces

-- each is a piece where the others and `rest` follow it, and is within the limit
abbrev pub ArePieces : List Piece → List ℕ → Type 0
ArePieces [] rest = Unit {0}
ArePieces (piece ∷ pieces) rest =
    IsPieceOf piece.kind piece.text (joined_bytes pieces ++ rest) × IsWithinLimit piece.kind piece.text
    × ArePieces pieces rest

-- the token of a piece that begins at offset `start`; a gap has none
abbrev pub token_of : ℕ → Option TokenKind → ℕ → List Token
token_of start None len = []
token_of start (Some kind) len = record { kind = kind; span = record { start = start; end = start + len } } ∷ []

-- the tokens of pieces of which the first begins at offset `start`
abbrev pub tokens_from : ℕ → List Piece → List Token
tokens_from start [] = []
tokens_from start (piece ∷ pieces) =
    token_of start piece.kind (length piece.text) ++ tokens_from (start + length piece.text) pieces

-- The tokens of a text that has no lexing fault: the text is cut into pieces, and these are their tokens.
-- The text of a token is what its span covers.
pub record AreTokens (bytes : List ℕ) (tokens : List Token) : Type 0 where
  pub pieces : List Piece
  pub whole : bytes ≡ joined_bytes pieces
  pub each : ArePieces pieces []
  pub tokens_are : tokens ≡ tokens_from 0 pieces

-- there is a byte, and no piece begins at it
pub record IsBadByte (rest : List ℕ) : Type 0 where
  pub some : rest ≢ []
  pub none_begins : (kind : Option TokenKind) (text after : List ℕ) → rest ≡ text ++ after
      → IsPieceOf kind text after → ⊥

-- a numeral begins here, and its number is over the limit
pub record IsLargeNumeral (rest : List ℕ) : Type 0 where
  pub text : List ℕ
  pub after : List ℕ
  pub whole : rest ≡ text ++ after
  pub numeral : IsNumeral text after
  pub large : largest_numeral < digits_value 10 text

abbrev pub IsFaultAt : FaultKind → List ℕ → Type 0
IsFaultAt kind rest = ((kind ≡ F2) × IsBadByte rest) ⊎ ((kind ≡ F4) × IsLargeNumeral rest)

-- The first lexing fault of a text: the bytes before it are cut into pieces without a fault, and it
-- stands where the rest begins.
pub record IsFirstFault (bytes : List ℕ) (fault : Fault) : Type 0 where
  pub pieces : List Piece
  pub rest : List ℕ
  pub whole : bytes ≡ joined_bytes pieces ++ rest
  pub each : ArePieces pieces rest
  pub stands : IsFaultAt fault.kind rest
  pub place : fault.place ≡ place_after (joined_bytes pieces)

-- the bytes that a span covers
abbrev pub text_at : List ℕ → Span → List ℕ
text_at bytes span = slice_range bytes span.start span.end

-- such bytes are the text of a token of this kind
abbrev pub IsTextOf : TokenKind → List ℕ → Type 0
IsTextOf Word text = FirstPasses is_word_start text × IsTrue (list_all is_word_byte text)
IsTextOf Numeral text = IsTrue (list_all is_ascii_digit text) × (digits_value 10 text ≤ largest_numeral)
IsTextOf Symbol text = Contains symbols text

-- the token isn't empty, is within the bytes, and has a text of its kind
pub record StandsIn (bytes : List ℕ) (token : Token) : Type 0 where
  pub some : token.span.start < token.span.end
  pub within : token.span.end ≤ length bytes
  pub text : IsTextOf token.kind (text_at bytes token.span)

-- the tokens stand in order from offset `from` on, and none begins before the one before it ends
abbrev pub AreInOrder : ℕ → List Token → Type 0
AreInOrder from [] = Unit {0}
AreInOrder from (token ∷ tokens) = (from ≤ token.span.start) × AreInOrder token.span.end tokens
