-- Numbers as they are printed, and as they are read.
use Rattle.std.proofs.Common.{◌≡◌, ℕ, zero, suc, ◌+◌, ◌*◌, ◌-◌, ◌<◌, ◌≤◌, ◌^◌, ◌∷◌, List, length, take, get_or, refl, sym, ap, ◌∙◌}
use Rattle.std.proofs.Common.{Option, Some, None, IfSome, IfNone}
use Rattle.std.proofs.Common.{arith, subst, decimal, ℤ, pos, negsuc, ◌≤ℤ◌, neg_ℤ, unsigned_abs, FitsSigned, w32}
use Rattle.std.specs.Fmt.{signed_decimal}
use Rattle.std.specs.Str.Parse.{AllDigits, digits_value}
use Rattle.std.specs.Char.{digit_value, IsNotAsciiDigit}
use Rattle.std.specs.Int.{IsInRange}
use Rattle.std.proofs.lemmas.Str.{digit_value_digit}
use Rattle.std.proofs.lemmas.Str.Parse.{IsNumeralModel, numerals_by_value, tells_digits, digit_at, digits_value-take-le}
use Rattle.std.proofs.lemmas.Int.Digits.{digits_value_more}
use Rattle.std.proofs.lemmas.Int.{ints}
use Rattle.std.specs.Int.Signed.{mag}
use Rattle.port_types.specs.declared.types.PortType.TheVariants as kind
use Rattle.port_types.specs.declared.types.Value.{Value}
use Rattle.port_types.specs.declared.types.Value.TheVariants as value
use Rattle.replay.specs.Reading.{IsValueText}
use Rattle.std.proofs.lemmas.Fmt.{digits_decimal, digits_value-decimal, decimal_injective, signed_decimal_injective}

own : IsNumeralModel (AllDigits 10) (digits_value 10)
own = numerals_by_value (AllDigits 10) tells_digits

pub decimal_is_digits : (n : ℕ) → n < 2 ^ 64 → AllDigits 10 (decimal n)
decimal_is_digits n h = digits_decimal own n h

pub decimal_value : (n : ℕ) → n < 2 ^ 64 → digits_value 10 (decimal n) ≡ n
decimal_value n h = digits_value-decimal own n h

-- one more digit
pub value_more : (text : List ℕ) (i byte digit number : ℕ) → i < length text → byte ≡ get_or text i 0
    → IsInRange 48 57 byte → digit ≡ byte - 48 → number ≡ digits_value 10 (take i text)
    → digits_value 10 (take (i + 1) text) ≡ number * 10 + digit
value_more text i byte digit number l e range d n =
    let at : get_or text i 0 ≡ byte = sym e in
    let digits : digit_value byte + 48 ≡ byte = digit_value_digit byte range in
    let value : digit_value byte ≡ digit = omega arith in
    digits_value_more 10 text i l ∙ (λ j. sym n j * 10 + (ap digit_value at ∙ value) j)

pub too_large : (text : List ℕ) (i bound : ℕ) → bound ≤ digits_value 10 (take i text) → bound ≤ digits_value 10 text
too_large text i bound h =
    let le : digits_value 10 (take i text) ≤ digits_value 10 text = digits_value-take-le 10 text i (omega arith) in
    omega arith

-- the text of a number is no other's
pub not_another : (text : List ℕ) (value n : ℕ) → n < 2 ^ 64 → value ≡ digits_value 10 text → text ≡ decimal n → text ≡ decimal value
not_another text value n h v e =
    let same : value ≡ n = v ∙ (ap (digits_value 10) e ∙ decimal_value n h) in
    e ∙ ap decimal (sym same)

pub signed_negative : (n : ℕ) → 0 < n → signed_decimal (neg_ℤ (pos n)) ≡ 45 ∷ decimal n
signed_negative zero h = absurd (omega arith)
signed_negative (suc n) h = refl

decimal_no_minus : (n : ℕ) (digits : List ℕ) → n < 2 ^ 64 → 45 ∷ digits ≡ decimal n → ⊥
decimal_no_minus n digits h e =
    let d : AllDigits 10 (45 ∷ digits) = subst (AllDigits 10) (sym e) (decimal_is_digits n h) in
    let at = digit_at (45 ∷ digits) 0 d (omega arith) in
    omega arith

-- what is printed with a minus is negative
pub negative_only : (digits : List ℕ) → ((n : ℕ) → n ≤ 2 ^ 31 → 0 < n → digits ≡ decimal n → ⊥)
    → (z : ℤ) → unsigned_abs z ≤ 2 ^ 31 → 45 ∷ digits ≡ signed_decimal z → ⊥
negative_only digits none (pos n) h e = decimal_no_minus n digits (omega arith) e
negative_only digits none (negsuc n) h e = none (suc n) h (omega arith) (cc e)

-- what is printed without one is not
pub positive_only : (text : List ℕ) → ((rest : List ℕ) → text ≡ 45 ∷ rest → ⊥) → ((n : ℕ) → n ≤ 2 ^ 31 → text ≡ decimal n → ⊥)
    → (z : ℤ) → unsigned_abs z ≤ 2 ^ 31 → text ≡ signed_decimal z → ⊥
positive_only text plain none (pos n) h e = none n h e
positive_only text plain none (negsuc n) h e = plain (decimal (suc n)) e

pub below_by : (z : ℤ) → unsigned_abs z ≤ 2 ^ 31 → mag z < 2 ^ 63
below_by (pos n) h = omega arith
below_by (negsuc n) h = omega arith

small_between : (lo hi z : ℤ) → FitsSigned w32 lo → FitsSigned w32 hi → lo ≤ℤ z → z ≤ℤ hi → unsigned_abs z ≤ 2 ^ 31
small_between lo hi z l h a b = omega (arith, ints)

-- where a number is not between the ends, no other of these is printed so
pub whole_elsewhere : (lo hi : ℤ) (text : List ℕ) (number : ℤ) (given : Value) → FitsSigned w32 lo → FitsSigned w32 hi
    → text ≡ signed_decimal number → unsigned_abs number ≤ 2 ^ 31 → ((lo ≤ℤ number) × (number ≤ℤ hi) → ⊥)
    → IsValueText (kind.Range lo hi) text given → ⊥
whole_elsewhere lo hi text number (value.Bool b) l h e m outside v = v.typed
whole_elsewhere lo hi text number (value.Name n) l h e m outside v = v.typed
whole_elsewhere lo hi text number (value.Int z) l h e m outside v =
    let typed = v.typed in
    let small : unsigned_abs z ≤ 2 ^ 31 = small_between lo hi z l h typed.0 typed.1 in
    let same : z ≡ number = signed_decimal_injective z number (below_by z small) (below_by number m) (sym v.spelled ∙ e) in
    outside (rw (← same) typed)

pub whole_nowhere : (lo hi : ℤ) (text : List ℕ) (given : Value) → FitsSigned w32 lo → FitsSigned w32 hi
    → ((z : ℤ) → unsigned_abs z ≤ 2 ^ 31 → text ≡ signed_decimal z → ⊥)
    → IsValueText (kind.Range lo hi) text given → ⊥
whole_nowhere lo hi text (value.Bool b) l h none v = v.typed
whole_nowhere lo hi text (value.Name n) l h none v = v.typed
whole_nowhere lo hi text (value.Int z) l h none v =
    let typed = v.typed in none z (small_between lo hi z l h typed.0 typed.1) v.spelled

pub digits_where_printed : (text : List ℕ) (n : ℕ) → n < 2 ^ 64 → text ≡ decimal n → AllDigits 10 text
digits_where_printed text n h e = subst (AllDigits 10) (sym e) (decimal_is_digits n h)

pub too_many_digits : (text : List ℕ) (n : ℕ) → n < 2 ^ 64 → text ≡ decimal n → 2 ^ 64 ≤ digits_value 10 text → ⊥
too_many_digits text n h e large =
    let is : digits_value 10 text ≡ n = ap (digits_value 10) e ∙ decimal_value n h in
    absurd (omega arith)

-- two numbers that are printed the same
pub printed_once : (text : List ℕ) (m n : ℕ) → m < 2 ^ 64 → n < 2 ^ 64 → text ≡ decimal m → text ≡ decimal n → m ≡ n
printed_once text m n g h e f = decimal_injective m n g h (sym e ∙ f)

pub not_a_digit : (text : List ℕ) (i : ℕ) → AllDigits 10 text → i < length text → IsNotAsciiDigit (get_or text i 0) → ⊥
not_a_digit text i d l not_one =
    let r = digit_at text i d l in
    by r not_one
  where
    by : IsInRange 48 57 (get_or text i 0) → IsNotAsciiDigit (get_or text i 0) → ⊥
    by r n = omega arith

-- a number with a minus, where it has one
pub minus_printed : (r : Option ℤ) (digits : List ℕ) (n : ℕ) → IfSome r (λ z. z ≡ neg_ℤ (pos n)) → IfSome r (λ z. 0 < n)
    → digits ≡ decimal n → IfSome r (λ z. 45 ∷ digits ≡ signed_decimal z)
minus_printed None digits n e p d = tt
minus_printed (Some z) digits n e p d = ap (λ ds. 45 ∷ ds) d ∙ sym (ap signed_decimal e ∙ signed_negative n p)

minus_abs : (n : ℕ) → unsigned_abs (neg_ℤ (pos n)) ≡ n
minus_abs zero = refl
minus_abs (suc n) = refl

pub minus_small : (r : Option ℤ) (n : ℕ) → IfSome r (λ z. z ≡ neg_ℤ (pos n)) → n ≤ 2 ^ 31 → IfSome r (λ z. unsigned_abs z ≤ 2 ^ 31)
minus_small None n e h = tt
minus_small (Some z) n e h = let is : unsigned_abs z ≡ n = ap unsigned_abs e ∙ minus_abs n in omega arith

pub zero_has_none : (r : Option ℤ) (digits : List ℕ) (n : ℕ) → IfNone r (n ≡ 0) → n ≤ 2 ^ 31 → digits ≡ decimal n
    → IfNone r ((z : ℤ) → unsigned_abs z ≤ 2 ^ 31 → 45 ∷ digits ≡ signed_decimal z → ⊥)
zero_has_none None digits n e h d = negative_only digits (λ k l some f.
    let same : n ≡ k = printed_once digits n k (omega arith) (omega arith) d f in
    absurd (omega arith))
zero_has_none (Some z) digits n e h d = tt
