-- Numbers as they are printed, and as they are read.
use Rattle.std.proofs.Common.{◌≡◌, ℕ, ◌+◌, ◌*◌, ◌-◌, ◌<◌, ◌≤◌, ◌^◌, ◌∷◌, List, length, take, get_or, sym, ap, ◌∙◌}
use Rattle.std.proofs.Common.{arith, subst, decimal}
use Rattle.std.specs.Str.Parse.{AllDigits, digits_value}
use Rattle.std.specs.Char.{digit_value, IsNotAsciiDigit}
use Rattle.std.specs.Int.{IsInRange}
use Rattle.std.proofs.lemmas.Str.{digit_value_digit}
use Rattle.std.proofs.lemmas.Str.Parse.{IsNumeralModel, numerals_by_value, tells_digits, digit_at, digits_value-take-le}
use Rattle.std.proofs.lemmas.Int.Digits.{digits_value_more}
use Rattle.std.proofs.lemmas.Fmt.{digits_decimal, digits_value-decimal, decimal_injective}

own : IsNumeralModel (AllDigits 10) (digits_value 10)
own = numerals_by_value (AllDigits 10) tells_digits

pub decimal_is_digits : (n : ℕ) → n < 2 ^ 64 → AllDigits 10 (decimal n)
decimal_is_digits n h = digits_decimal own n h

pub decimal_value : (n : ℕ) → n < 2 ^ 64 → digits_value 10 (decimal n) ≡ n
decimal_value n h = digits_value-decimal own n h

-- one more digit
pub value_more : (text : List ℕ) (i byte digit number : ℕ) → i < length text → byte ≡ get_or text i 0
    → IsInRange 48 57 byte → digit ≡ byte - 48 → number ≡ digits_value 10 (take i text)
    → digits_value 10 (take (i + 1) text) ≡ number * 10 + digit
value_more text i byte digit number l e range d n =
    let at : get_or text i 0 ≡ byte = sym e in
    let digits : digit_value byte + 48 ≡ byte = digit_value_digit byte range in
    let value : digit_value byte ≡ digit = omega arith in
    digits_value_more 10 text i l ∙ (λ j. sym n j * 10 + (ap digit_value at ∙ value) j)

pub too_large : (text : List ℕ) (i bound : ℕ) → bound ≤ digits_value 10 (take i text) → bound ≤ digits_value 10 text
too_large text i bound h =
    let le : digits_value 10 (take i text) ≤ digits_value 10 text = digits_value-take-le 10 text i (omega arith) in
    omega arith

-- the text of a number is no other's
pub not_another : (text : List ℕ) (value n : ℕ) → n < 2 ^ 64 → value ≡ digits_value 10 text → text ≡ decimal n → text ≡ decimal value
not_another text value n h v e =
    let same : value ≡ n = v ∙ (ap (digits_value 10) e ∙ decimal_value n h) in
    e ∙ ap decimal (sym same)

pub decimal_no_minus : (n : ℕ) (digits : List ℕ) → n < 2 ^ 64 → 45 ∷ digits ≡ decimal n → ⊥
decimal_no_minus n digits h e =
    let d : AllDigits 10 (45 ∷ digits) = subst (AllDigits 10) (sym e) (decimal_is_digits n h) in
    let at = digit_at (45 ∷ digits) 0 d (omega arith) in
    omega arith

pub digits_where_printed : (text : List ℕ) (n : ℕ) → n < 2 ^ 64 → text ≡ decimal n → AllDigits 10 text
digits_where_printed text n h e = subst (AllDigits 10) (sym e) (decimal_is_digits n h)

pub too_many_digits : (text : List ℕ) (n : ℕ) → n < 2 ^ 64 → text ≡ decimal n → 2 ^ 64 ≤ digits_value 10 text → ⊥
too_many_digits text n h e large =
    let is : digits_value 10 text ≡ n = ap (digits_value 10) e ∙ decimal_value n h in
    absurd (omega arith)

-- two numbers that are printed the same
pub printed_once : (text : List ℕ) (m n : ℕ) → m < 2 ^ 64 → n < 2 ^ 64 → text ≡ decimal m → text ≡ decimal n → m ≡ n
printed_once text m n g h e f = decimal_injective m n g h (sym e ∙ f)

pub not_a_digit : (text : List ℕ) (i : ℕ) → AllDigits 10 text → i < length text → IsNotAsciiDigit (get_or text i 0) → ⊥
not_a_digit text i d l not_one =
    let r = digit_at text i d l in
    by r not_one
  where
    by : IsInRange 48 57 (get_or text i 0) → IsNotAsciiDigit (get_or text i 0) → ⊥
    by r n = omega arith
