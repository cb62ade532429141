-- Tokens that can be read as terminals. This file serves proofs only: no public contract cites it.
use Rattle.std.specs.Prelude.{◌≡◌, ℕ, ◌≤◌, true, List, length}
use Rattle.std.specs.Char.{is_ascii_digit}
use Rattle.std.specs.List.{list_all}
use Rattle.std.specs.Str.{IsAscii}
use Rattle.std.specs.Str.Parse.{digits_value}
use Rattle.oss_base.specs.Limits.{largest_numeral}
use Rattle.oss_syntax.specs.Tokens.{text_at}
use Rattle.oss_syntax.specs.declared.token.Token.{Token}
use Rattle.oss_syntax.specs.declared.token.TokenKind.TheVariants as kinds

-- The token lies within the bytes, and its text is ASCII; that of a numeral is digits of a number within the limit.
-- (What a token of a text is, in so far as there is one proof of it at most, which is asked of a fact that a struct
-- keeps.)
pub record IsReadable (bytes : List ℕ) (token : Token) : Type 0 where
  pub ordered : token.span.start ≤ token.span.end
  pub within : token.span.end ≤ length bytes
  pub ascii : IsAscii (text_at bytes token.span)
  pub digits : token.kind ≡ kinds.Numeral → list_all is_ascii_digit (text_at bytes token.span) ≡ true
  pub small : token.kind ≡ kinds.Numeral → digits_value 10 (text_at bytes token.span) ≤ largest_numeral
