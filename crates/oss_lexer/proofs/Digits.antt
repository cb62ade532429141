-- The number of a row of digits, digit by digit.
use Rattle.std.proofs.Common.{◌≡◌, ℕ, ◌+◌, ◌*◌, ◌<◌, ◌≤◌, true, List, length, get_or, take, arith}
use Rattle.std.specs.Char.{is_ascii_digit}
use Rattle.std.specs.List.{list_all}
use Rattle.std.specs.Str.Parse.{digits_value}
use Rattle.std.proofs.lemmas.Bool.Decides.{nat_tests}
use Rattle.std.proofs.lemmas.Int.Digits.{digits_value_more}
use Rattle.std.proofs.lemmas.List.Sums.{AllPass-from_list_all}
use Rattle.std.proofs.lemmas.Str.{digit_value_digit}

digit_between : (b : ℕ) → is_ascii_digit b ≡ true → (48 ≤ b) × (b ≤ 57)
digit_between b h = grind (arith, nat_tests)

pub digit_range : (digits : List ℕ) → list_all is_ascii_digit digits ≡ true → (i : ℕ) → i < length digits
    → (48 ≤ get_or digits i 0) × (get_or digits i 0 ≤ 57)
digit_range digits h i inside = digit_between _ (AllPass-from_list_all is_ascii_digit digits h i 0 inside)

pub value_more : (digits : List ℕ) → list_all is_ascii_digit digits ≡ true → (i : ℕ) → i < length digits
    → digits_value 10 (take (i + 1) digits) + 48 ≡ digits_value 10 (take i digits) * 10 + get_or digits i 0
value_more digits h i inside =
    omega (arith, digits_value_more 10 digits i inside, digit_value_digit (get_or digits i 0) (digit_range digits h i inside))
