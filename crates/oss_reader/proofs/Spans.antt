-- The texts of tokens are ASCII, and tokens of a text can be read.
use Rattle.std.proofs.Common.{◌≡◌, ℕ, zero, suc, ◌<◌, ◌≤◌, Bool, true, false, ◌&&◌, List, [], ◌∷◌, get_or, refl, subst, arith, Contains, All, nat_lt}
use Rattle.std.specs.Char.{is_ascii_digit}
use Rattle.std.specs.List.{list_all}
use Rattle.std.specs.Str.{IsAscii}
use Rattle.std.proofs.lemmas.Bool.Decides.{nat_tests}
use Rattle.std.proofs.lemmas.List.Sums.{AllPass-from_list_all}
use Rattle.std.specs.Str.Parse.{digits_value}
use Rattle.oss_base.specs.Limits.{largest_numeral}
use Rattle.oss_syntax.specs.Tokens.{text_at, IsTextOf, StandsIn, is_word_byte, symbols}
use Rattle.oss_syntax.specs.declared.token.Token.{Token}
use Rattle.oss_reader.specs.Readable.{IsReadable}
use Rattle.oss_syntax.specs.declared.token.TokenKind.{TokenKind}
use Rattle.oss_syntax.specs.declared.token.TokenKind.TheVariants as kinds

and_first : (a b : Bool) → (a && b) ≡ true → a ≡ true
and_first true b h = refl
and_first false b h = absurd (cc)

and_second : (a b : Bool) → (a && b) ≡ true → b ≡ true
and_second true b h = h
and_second false b h = absurd (cc)

-- bytes that pass a test which only ASCII passes
ascii_from : (p : ℕ → Bool) → ((b : ℕ) → p b ≡ true → b < 128) → (text : List ℕ) → list_all p text ≡ true → IsAscii text
ascii_from p small [] h zero = omega arith
ascii_from p small [] h (suc i) = omega arith
ascii_from p small (b ∷ bs) h zero = small b (and_first (p b) (list_all p bs) h)
ascii_from p small (b ∷ bs) h (suc i) = ascii_from p small bs (and_second (p b) (list_all p bs) h) i

word_small : (b : ℕ) → is_word_byte b ≡ true → b < 128
word_small b h = grind (arith, nat_tests)

digit_small : (b : ℕ) → is_ascii_digit b ≡ true → b < 128
digit_small b h = grind (arith, nat_tests)

is_small : ℕ → Bool
is_small b = nat_lt b 128

small_below : (b : ℕ) → is_small b ≡ true → b < 128
unfolding is_small
small_below b h = grind (arith, nat_tests)

symbols_small : list_all (list_all is_small) symbols ≡ true
unfolding symbols is_small
symbols_small = refl

symbol_ascii : (text : List ℕ) → Contains symbols text → IsAscii text
symbol_ascii text h =
    let there = AllPass-from_list_all (list_all is_small) symbols symbols_small h.0 text h.1 in
    ascii_from is_small small_below text (subst (λ (x : List ℕ). list_all is_small x ≡ true) h.2 there)

-- the text of each token is ASCII
text_ascii : (kind : TokenKind) (text : List ℕ) → IsTextOf kind text → IsAscii text
text_ascii kinds.Word text h = ascii_from is_word_byte word_small text h.1
text_ascii kinds.Numeral text h = ascii_from is_ascii_digit digit_small text h.0
text_ascii kinds.Symbol text h = symbol_ascii text h

-- a token of a text can be read

numeral_fact : (P : List ℕ → Type 0) (kind : TokenKind) (text : List ℕ) → (IsTextOf kinds.Numeral text → P text)
    → IsTextOf kind text → kind ≡ kinds.Numeral → P text
numeral_fact P kind text f h e = f (subst (λ (k : TokenKind). IsTextOf k text) e h)

pub token_readable : (bytes : List ℕ) (token : Token) → StandsIn bytes token → IsReadable bytes token
token_readable bytes token h = record {
  ordered = omega (arith, h.some);
  within = h.within;
  ascii = text_ascii token.kind (text_at bytes token.span) h.text;
  digits = numeral_fact (λ t. list_all is_ascii_digit t ≡ true) token.kind (text_at bytes token.span) (λ n. n.0) h.text;
  small = numeral_fact (λ t. digits_value 10 t ≤ largest_numeral) token.kind (text_at bytes token.span) (λ n. n.1) h.text;
}

pub tokens_readable : (bytes : List ℕ) (tokens : List Token) → All (StandsIn bytes) tokens
    → All (IsReadable bytes) tokens
tokens_readable bytes tokens all k d h = token_readable bytes (get_or tokens k d) (all k d h)
