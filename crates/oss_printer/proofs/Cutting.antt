-- Which texts are pieces where what follows them is known in part.
use Rattle.std.proofs.Common.{◌≡◌, ℕ, ◌<◌, ◌≤◌, suc, Bool, true, false, not, ◌&&◌, inl, inr, List, [], ◌∷◌, ◌++◌, length, take, drop, codes, decimal, refl}
use Rattle.std.proofs.Common.{sym, ap, ◌∙◌, arith, append_assoc, cond}
use Rattle.std.specs.Prelude.{Contains, ◌==◌, bytes_eq, ◌^◌}
use Rattle.std.specs.Char.{is_ascii_digit, digit_value}
use Rattle.std.specs.List.{list_all, starts_with}
use Rattle.std.specs.Str.Parse.{AllDigits, digits_value}
use Rattle.std.proofs.lemmas.Bool.{cases_Bool, cases_lt, or_from, and_left, cond-false, false≢true, not-true}
use Rattle.std.proofs.lemmas.Bool.Decides.{Decides-eqb, nat_tests}
use Rattle.std.proofs.lemmas.Fmt.{decimal_is_IsNumeral}
use Rattle.std.proofs.lemmas.List.{append-nil, length-append, take_at, take-append-drop, take-append-le}
use Rattle.std.proofs.lemmas.List.Elements.{All-contains}
use Rattle.std.proofs.lemmas.List.Sums.{AllPass-from_list_all}
use Rattle.std.proofs.lemmas.Slice.Eq.{starts_is, bytes_eq-Decides}
use Rattle.std.proofs.lemmas.Str.Parse.{digit_from_value}
use Rattle.oss_base.specs.Limits.{largest_numeral}
use Rattle.oss_printer.proofs.Fits.{IsName}
use Rattle.oss_syntax.specs.Tokens.{symbols, begins_comment, is_word_start, is_word_byte, FirstPasses, NoFirstPasses, IsWord, IsNumeral, IsSymbol}

-- Symbols.

-- whether the text is one of these
abbrev pub among : List (List ℕ) → List ℕ → Bool
among [] text = false
among (other ∷ others) text = cond (bytes_eq text other) true (among others text)

among_contains : (texts : List (List ℕ)) (text : List ℕ) → among texts text ≡ true → Contains texts text
among_contains [] text h = absurd (false≢true h)
among_contains (other ∷ others) text h = elim (cases_Bool (bytes_eq text other)) [
  | inl same ↦ (0, omega arith, sym ((bytes_eq-Decides text other).0 same))
  | inr differ ↦
      let later = among_contains others text (sym (cond-false (bytes_eq text other) true (among others text) differ) ∙ h) in
      (suc later.0, omega (arith, later.1), later.2)
]

-- whether another text begins with this one and this byte after it
abbrev pub goes_on : List ℕ → ℕ → List ℕ → Bool
goes_on text b other = starts_with ◌==◌ other (text ++ b ∷ [])

-- no symbol begins with this text and this byte after it
abbrev pub stands_apart : List ℕ → ℕ → Bool
stands_apart text b = list_all (λ (other : List ℕ). not (goes_on text b other)) symbols

longest_before : (text : List ℕ) (b : ℕ) (after other rest : List ℕ) → goes_on text b other ≡ false
    → text ++ b ∷ after ≡ other ++ rest → length other ≤ length text
longest_before text b after other rest none e = elim (cases_lt (length text) (length other)) [
  | inr few ↦ few
  | inl more ↦
      let front : List ℕ = text ++ b ∷ [] in
      let within : length front ≤ length other = omega (arith, length-append text (b ∷ [])) in
      let whole : front ++ after ≡ other ++ rest = append_assoc text (b ∷ []) after ∙ e in
      let same : front ≡ take (length front) other =
      sym (take_at front after (length front) refl) ∙ ap (take (length front)) whole ∙ take-append-le (length front) other rest within in
      let split : other ≡ front ++ drop (length front) other =
      sym (take-append-drop (length front) other) ∙ ap (λ t. t ++ drop (length front) other) (sym same) in
      absurd (false≢true (sym none ∙ (starts_is Decides-eqb other front (starts_with ◌==◌ other front) refl).1 (drop (length front) other) split))
]

none_goes_on : (text : List ℕ) (b : ℕ) → stands_apart text b ≡ true → (other : List ℕ) → Contains symbols other
    → goes_on text b other ≡ false
none_goes_on text b apart other c =
    not-true (goes_on text b other)
    (All-contains (λ (other : List ℕ). not (goes_on text b other) ≡ true) symbols other
    (AllPass-from_list_all (λ (other : List ℕ). not (goes_on text b other)) symbols apart) c)

pub symbol_before : (text : List ℕ) (b : ℕ) (after : List ℕ) → among symbols text ≡ true → stands_apart text b ≡ true
    → begins_comment (text ++ b ∷ after) ≡ false → IsSymbol text (b ∷ after)
symbol_before text b after listed apart comment = record {
  listed = among_contains symbols text listed;
  longest = λ other rest c e. longest_before text b after other rest (none_goes_on text b apart other c) e;
  no_comment = comment;
}

symbol_at_end : (text : List ℕ) → among symbols text ≡ true → begins_comment (text ++ []) ≡ false → IsSymbol text []
symbol_at_end text listed comment = record {
  listed = among_contains symbols text listed;
  longest = λ other rest c e. omega (arith, ap length e, ap length (append-nil text), length-append other rest);
  no_comment = comment;
}

-- a symbol of one byte with which no other begins
lone_symbol : (a : ℕ) → among symbols (a ∷ []) ≡ true → ((b : ℕ) → stands_apart (a ∷ []) b ≡ true) → (a == 45) ≡ false
    → (a == 47) ≡ false
    → (after : List ℕ) → IsSymbol (a ∷ []) after
lone_symbol a listed apart minus slash [] = symbol_at_end (a ∷ []) listed refl
lone_symbol a listed apart minus slash (b ∷ after) =
    symbol_before (a ∷ []) b after listed (apart b)
    (or_from ((a == 45) && (b == 45)) ((a == 47) && (b == 47)) (and_left (a == 45) (b == 45) minus) (and_left (a == 47) (b == 47) slash))

pub open_symbol : (after : List ℕ) → IsSymbol (codes "(") after
unfolding symbols
open_symbol = lone_symbol 40 refl (λ b. refl) refl refl

pub close_symbol : (after : List ℕ) → IsSymbol (codes ")") after
unfolding symbols
close_symbol = lone_symbol 41 refl (λ b. refl) refl refl

pub semicolon_symbol : (after : List ℕ) → IsSymbol (codes ";") after
unfolding symbols
semicolon_symbol = lone_symbol 59 refl (λ b. refl) refl refl

pub comma_symbol : (after : List ℕ) → IsSymbol (codes ",") after
unfolding symbols
comma_symbol = lone_symbol 44 refl (λ b. refl) refl refl

pub brace_symbol : (after : List ℕ) → IsSymbol (codes "{") after
unfolding symbols
brace_symbol = lone_symbol 123 refl (λ b. refl) refl refl

pub close_brace_symbol : (after : List ℕ) → IsSymbol (codes "}") after
unfolding symbols
close_brace_symbol = lone_symbol 125 refl (λ b. refl) refl refl

pub colon_symbol : (after : List ℕ) → IsSymbol (codes ":") (32 ∷ after)
unfolding symbols
colon_symbol after = symbol_before (codes ":") 32 after refl refl refl

pub assign_symbol : (after : List ℕ) → IsSymbol (codes ":=") (32 ∷ after)
unfolding symbols
assign_symbol after = symbol_before (codes ":=") 32 after refl refl refl

pub minus_symbol : (after : List ℕ) → IsSymbol (codes "-") (32 ∷ after)
unfolding symbols
minus_symbol after = symbol_before (codes "-") 32 after refl refl refl

-- a symbol that a blank follows
pub spaced_symbol : (text : List ℕ) → among symbols text ≡ true → stands_apart text 32 ≡ true
    → ((after : List ℕ) → begins_comment (text ++ 32 ∷ after) ≡ false) → (after : List ℕ) → IsSymbol text (32 ∷ after)
spaced_symbol text listed apart comment after = symbol_before text 32 after listed apart (comment after)

other_byte : (p : ℕ → Bool) (b n : ℕ) → p n ≡ false → p b ≡ true → (b == n) ≡ false
other_byte p b n fails passes = elim (cases_Bool (b == n)) [
  | inl same ↦ absurd (false≢true (sym fails ∙ sym (ap p ((Decides-eqb b n).0 same)) ∙ passes))
  | inr differ ↦ differ
]

dot_apart : (b : ℕ) → (b == 46) ≡ false → stands_apart (codes ".") b ≡ true
unfolding symbols
dot_apart b h = rw h refl

pub dot_symbol : (b : ℕ) (after : List ℕ) → is_word_start b ≡ true → IsSymbol (codes ".") (b ∷ after)
unfolding symbols
dot_symbol b after h = symbol_before (codes ".") b after refl (dot_apart b (other_byte is_word_start b 46 refl h)) refl

pub range_symbol : (after : List ℕ) → IsSymbol (codes "..") after
unfolding symbols
range_symbol [] = symbol_at_end (codes "..") refl refl
range_symbol (b ∷ after) = symbol_before (codes "..") b after refl refl refl

sign_apart : (b : ℕ) → (b == 62) ≡ false → stands_apart (codes "-") b ≡ true
unfolding symbols
sign_apart b h = rw h refl

sign_comment : (b : ℕ) (after : List ℕ) → (b == 45) ≡ false → begins_comment (45 ∷ b ∷ after) ≡ false
sign_comment b after h = rw h refl

pub sign_symbol : (b : ℕ) (after : List ℕ) → is_ascii_digit b ≡ true → IsSymbol (codes "-") (b ∷ after)
unfolding symbols
sign_symbol b after h =
    symbol_before (codes "-") b after refl (sign_apart b (other_byte is_ascii_digit b 62 refl h))
    (sign_comment b after (other_byte is_ascii_digit b 45 refl h))

-- Words and numerals.

pub name_before : (text after : List ℕ) → IsName text → NoFirstPasses is_word_byte after → IsWord text after
name_before text after name ends = record { begins = name.begins; bytes = name.bytes; ends = ends }

pub word_before : (text after : List ℕ) → FirstPasses is_word_start text → list_all is_word_byte text ≡ true
    → NoFirstPasses is_word_byte after → IsWord text after
word_before text after begins bytes ends = record { begins = begins; bytes = bytes; ends = ends }

in_range_digit : (c : ℕ) → 48 ≤ c → c ≤ 57 → is_ascii_digit c ≡ true
in_range_digit c low high = grind (arith, nat_tests)

digit_passes : (c : ℕ) → digit_value c < 10 → is_ascii_digit c ≡ true
digit_passes c h = let range = digit_from_value c h in in_range_digit c range.0 range.1

both_pass : (a b : Bool) → a ≡ true → b ≡ true → (a && b) ≡ true
both_pass true b h k = k
both_pass false b h k = absurd (false≢true h)

digits_pass : (ds : List ℕ) → AllDigits 10 ds → list_all is_ascii_digit ds ≡ true
digits_pass [] h = refl
digits_pass (c ∷ cs) h = both_pass (is_ascii_digit c) (list_all is_ascii_digit cs) (digit_passes c h.0) (digits_pass cs h.1)

first_digit : (ds : List ℕ) → 0 < length ds → AllDigits 10 ds → FirstPasses is_ascii_digit ds
first_digit [] h all = absurd (omega arith)
first_digit (c ∷ cs) h all = digit_passes c all.0

digit_in_word : (b : ℕ) → is_ascii_digit b ≡ true → is_word_byte b ≡ true
digit_in_word b h = grind (arith, nat_tests)

no_digit_first : (after : List ℕ) → NoFirstPasses is_word_byte after → NoFirstPasses is_ascii_digit after
no_digit_first [] h = tt
no_digit_first (b ∷ after) h = elim (cases_Bool (is_ascii_digit b)) [
  | inl digit ↦ absurd (false≢true (sym h ∙ digit_in_word b digit))
  | inr other ↦ other
]

small_enough : (n : ℕ) → n ≤ largest_numeral → n < 2 ^ 64
small_enough n h = omega arith

pub decimal_begins : (n : ℕ) → n ≤ largest_numeral → FirstPasses is_ascii_digit (decimal n)
decimal_begins n small = let is = decimal_is_IsNumeral n (small_enough n small) in first_digit (decimal n) is.0.0 is.0.1

pub decimal_value : (n : ℕ) → n ≤ largest_numeral → digits_value 10 (decimal n) ≡ n
decimal_value n small = (decimal_is_IsNumeral n (small_enough n small)).1

pub numeral_to : (n : ℕ) (after : List ℕ) → n ≤ largest_numeral → NoFirstPasses is_ascii_digit after
    → IsNumeral (decimal n) after
numeral_to n after small ends =
    let is = decimal_is_IsNumeral n (small_enough n small) in
    record { begins = first_digit (decimal n) is.0.0 is.0.1; bytes = digits_pass (decimal n) is.0.1; ends = ends }

pub numeral_before : (n : ℕ) (after : List ℕ) → n ≤ largest_numeral → NoFirstPasses is_word_byte after
    → IsNumeral (decimal n) after
numeral_before n after small ends = numeral_to n after small (no_digit_first after ends)
