-- What stands at the front of a text, as a function. This file serves proofs only: no public contract cites it.
use Rattle.std.specs.Prelude.{ℕ, ◌<◌, ◌≤◌, ◌==◌, max, Bool, true, false, List, [], ◌∷◌, length, take, drop}
use Rattle.std.specs.Prelude.{slice_index, bytes_eq, if◌then◌else◌, Option, Some, None}
use Rattle.std.specs.Char.{is_ascii_digit}
use Rattle.std.specs.List.{fold, filter, prefix_len, starts_with}
use Rattle.oss_syntax.specs.Tokens.{symbols, is_blank, is_word_start, is_word_byte, is_comment_byte}
use Rattle.oss_syntax.specs.Tokens.{begins_comment, IsPieceOf, IsWithinLimit}
use Rattle.oss_syntax.specs.declared.token.TokenKind.{TokenKind}
use Rattle.oss_lexer.specs.declared.front.Front.{Front}
use Rattle.oss_syntax.specs.declared.token.TokenKind.TheVariants.{Word, Numeral, Symbol}

-- the greater of a length and that of a text with which the bytes begin
abbrev pub longer : List ℕ → ℕ → List ℕ → ℕ
longer bytes len text = if starts_with ◌==◌ bytes text then max len (length text) else len

-- the length of the longest of these texts with which the bytes begin, or 0
abbrev pub longest_of : List (List ℕ) → List ℕ → ℕ
longest_of texts bytes = fold (longer bytes) 0 texts

-- the texts of this length
abbrev pub of_length : ℕ → List (List ℕ) → List (List ℕ)
of_length len texts = filter (λ (text : List ℕ). length text == len) texts

-- whether the text is one of these
abbrev pub is_listed : List (List ℕ) → List ℕ → Bool
is_listed [] text = false
is_listed (other ∷ others) text = if bytes_eq text other then true else is_listed others text

abbrev pub symbol_front : ℕ → Option Front
symbol_front len = if len == 0 then None else Some (record { kind = Some Symbol; len = len })

-- the piece at the front of some bytes
unfoldable pub front_of : List ℕ → Option Front
front_of bytes =
    if begins_comment bytes then Some (record { kind = None; len = prefix_len is_comment_byte bytes })
    else (if is_blank (slice_index bytes 0) then Some (record { kind = None; len = 1 })
    else (if is_word_start (slice_index bytes 0)
    then Some (record { kind = Some Word; len = prefix_len is_word_byte bytes })
    else (if is_ascii_digit (slice_index bytes 0)
    then Some (record { kind = Some Numeral; len = prefix_len is_ascii_digit bytes })
    else symbol_front (longest_of symbols bytes))))

-- the bytes begin with a piece of this kind and length
pub record IsFront (bytes : List ℕ) (kind : Option TokenKind) (len : ℕ) : Type 0 where
  pub piece : IsPieceOf kind (take len bytes) (drop len bytes)
  pub some : 0 < len
  pub within : len ≤ length bytes

abbrev pub IsFrontIf : List ℕ → Option Front → Type 0
IsFrontIf bytes None = Unit {0}
IsFrontIf bytes (Some front) = IsFront bytes front.kind front.len

-- and it is within the limit on numerals
pub record IsFrontWithinLimit (bytes : List ℕ) (front : Front) : Type 0 where
  pub is_front : IsFront bytes front.kind front.len
  pub limit : IsWithinLimit front.kind (take front.len bytes)
