-- Texts that are words, and texts that are lines.
use Rattle.std.proofs.Common.{◌≡◌, ◌≢◌, ℕ, zero, suc, ◌<◌, ◌≤◌, ◌^◌, Bool, true, false, not, ◌||◌, nat_eq, List, [], ◌∷◌, ◌++◌, ◌-◌}
use Rattle.std.proofs.Common.{length, get_or, All, refl, ap, ◌∙◌, arith, decimal}
use Rattle.std.specs.List.{slice_split, filter}
use Rattle.std.specs.Str.Parse.{AllDigits}
use Rattle.std.specs.Str.Lines.{lines, lines_of_parts, strip_carriage_return}
use Rattle.std.specs.Int.{IsInRange}
use Rattle.std.proofs.Math.Dec.{eqb-suc-zero}
use Rattle.std.proofs.lemmas.Bool.{false_from_ne_true, eqb-true}
use Rattle.std.proofs.lemmas.List.Splits.{slice_split_at, slice_split_none}
use Rattle.std.proofs.lemmas.Str.Parse.{digit_from_value}
use Rattle.replay.specs.TextLines.{divides_words, has_bytes, words_of_line}
use Rattle.replay.specs.LassoFiles.{is_equals_sign}
use Rattle.replay.specs.Laws.{stands_in_names, IsFileName}
use Rattle.replay.proofs.Numerals.{decimal_is_digits}
use Rattle.replay.proofs.Cutting.{split_has_first, parts_more, is_line_feed}

-- a fact of each item
abbrev pub Each : {X : Type 0} → (X → Type 0) → List X → Type 0
Each P [] = Unit {0}
Each P (x ∷ xs) = P x × Each P xs

pub each_from_all : {X : Type 0} (P : X → Type 0) (xs : List X) → All P xs → Each P xs
each_from_all P [] h = tt
each_from_all P (x ∷ xs) h = (h 0 x (omega arith), each_from_all P xs (λ k d l. h (suc k) d (omega arith)))

pub all_from_each : {X : Type 0} (P : X → Type 0) (xs : List X) → Each P xs → All P xs
all_from_each P [] h k d l = absurd (omega arith)
all_from_each P (x ∷ xs) (h, more) zero d l = h
all_from_each P (x ∷ xs) (h, more) (suc k) d l = all_from_each P xs more k d (omega arith)

pub each_append : {X : Type 0} (P : X → Type 0) (xs ys : List X) → Each P xs → Each P ys → Each P (xs ++ ys)
each_append P [] ys h g = g
each_append P (x ∷ xs) ys (h, more) g = (h, each_append P xs ys more g)

pub each_weaker : {X : Type 0} (P Q : X → Type 0) → ((x : X) → P x → Q x) → (xs : List X) → Each P xs → Each Q xs
each_weaker P Q f [] h = tt
each_weaker P Q f (x ∷ xs) (h, more) = (f x h, each_weaker P Q f xs more)

-- what a byte of a name is not
pub record IsPlain (byte : ℕ) : Type 0 where
  pub no_gap : divides_words byte ≡ false
  pub no_feed : nat_eq byte 10 ≡ false
  pub no_return : nat_eq byte 13 ≡ false
  pub no_equals : is_equals_sign byte ≡ false

four_false : (a b c d : Bool) → not (a || b || c || d) ≡ true → (a ≡ false) × (b ≡ false) × (c ≡ false) × (d ≡ false)
four_false false false false false h = (refl, refl, refl, refl)
four_false false false false true h = cc h
four_false false false true d h = cc h
four_false false true c d h = cc h
four_false true b c d h = cc h

pub plain_of : (byte : ℕ) → stands_in_names byte ≡ true → IsPlain byte
plain_of byte h =
    let f = four_false (divides_words byte) (nat_eq byte 10) (nat_eq byte 13) (is_equals_sign byte) h in
    record { no_gap = f.0; no_feed = f.1; no_return = f.2; no_equals = f.3 }

no_equal : (byte n : ℕ) → (byte ≡ n → ⊥) → nat_eq byte n ≡ false
no_equal byte n h = false_from_ne_true (nat_eq byte n) (λ e. h (eqb-true byte n e))

neither : (a b : Bool) → a ≡ false → b ≡ false → (a || b) ≡ false
neither a b h g = cc (h, g)

-- a digit or a minus is plain
pub plain_digit : (byte : ℕ) → 45 ≤ byte → byte ≤ 57 → IsPlain byte
plain_digit byte l h = record {
  no_gap = neither (nat_eq byte 32) (nat_eq byte 9) (no_equal byte 32 (λ e. absurd (omega arith))) (no_equal byte 9 (λ e. absurd (omega arith)));
  no_feed = no_equal byte 10 (λ e. absurd (omega arith));
  no_return = no_equal byte 13 (λ e. absurd (omega arith));
  no_equals = no_equal byte 61 (λ e. absurd (omega arith));
}

-- so is a small letter
pub plain_letter : (byte : ℕ) → 97 ≤ byte → byte ≤ 122 → IsPlain byte
plain_letter byte l h = record {
  no_gap = neither (nat_eq byte 32) (nat_eq byte 9) (no_equal byte 32 (λ e. absurd (omega arith))) (no_equal byte 9 (λ e. absurd (omega arith)));
  no_feed = no_equal byte 10 (λ e. absurd (omega arith));
  no_return = no_equal byte 13 (λ e. absurd (omega arith));
  no_equals = no_equal byte 61 (λ e. absurd (omega arith));
}

plain_digits : (text : List ℕ) → AllDigits 10 text → Each IsPlain text
plain_digits [] h = tt
plain_digits (b ∷ text) (h, more) = let r : IsInRange 48 57 b = digit_from_value b h in (in_range b r, plain_digits text more)
  where
    in_range : (b : ℕ) → IsInRange 48 57 b → IsPlain b
    in_range b r = plain_digit b (omega arith) (omega arith)

pub plain_decimal : (n : ℕ) → n < 2 ^ 64 → Each IsPlain (decimal n)
plain_decimal n h = plain_digits (decimal n) (decimal_is_digits n h)

pub plain_name : (name : List ℕ) → IsFileName name → Each IsPlain name
plain_name name h = each_weaker (λ byte. stands_in_names byte ≡ true) IsPlain plain_of name (each_from_all (λ byte. stands_in_names byte ≡ true) name h.1)

-- a byte of a word: it divides none
abbrev pub IsInWord : ℕ → Type 0
IsInWord byte = divides_words byte ≡ false

has_some : (w : List ℕ) → w ≢ [] → has_bytes w ≡ true
has_some [] h = absurd (h refl)
has_some (b ∷ w) h = rw eqb-suc-zero refl

kept_word : (w : List ℕ) (ws : List (List ℕ)) → has_bytes w ≡ true → filter has_bytes (w ∷ ws) ≡ w ∷ filter has_bytes ws
kept_word w ws h = rw h refl

-- a word before a blank
pub words-word : (w rest : List ℕ) → w ≢ [] → Each IsInWord w → words_of_line (w ++ 32 ∷ rest) ≡ w ∷ words_of_line rest
words-word w rest some h =
    ap (filter has_bytes) (slice_split_at divides_words w 32 rest (all_from_each IsInWord w h) refl)
    ∙ kept_word w (slice_split divides_words rest) (has_some w some)

-- a word at the end
pub words-last : (w : List ℕ) → w ≢ [] → Each IsInWord w → words_of_line w ≡ w ∷ []
words-last w some h =
    ap (filter has_bytes) (slice_split_none divides_words w (all_from_each IsInWord w h)) ∙ kept_word w [] (has_some w some)

-- a byte of a line: it ends none
pub record IsInLine (byte : ℕ) : Type 0 where
  pub no_feed : nat_eq byte 10 ≡ false
  pub no_return : nat_eq byte 13 ≡ false

pub in_line : (byte : ℕ) → IsPlain byte → IsInLine byte
in_line byte h = record { no_feed = h.no_feed; no_return = h.no_return }

last_stays : (line : List ℕ) (k : ℕ) → Each IsInLine line → nat_eq (get_or line k 0) 13 ≡ false
last_stays [] k h = refl
last_stays (b ∷ line) zero (h, more) = h.no_return
last_stays (b ∷ line) (suc k) (h, more) = last_stays line k more

stripped : (line : List ℕ) → Each IsInLine line → strip_carriage_return line ≡ line
stripped line h = rw (last_stays line (length line - 1) h) refl

-- a line before a line feed
pub lines-line : (line rest : List ℕ) → Each IsInLine line → lines (line ++ 10 ∷ rest) ≡ line ∷ lines rest
lines-line line rest h =
    ap lines_of_parts (slice_split_at is_line_feed line 10 rest (all_from_each (λ b. nat_eq b 10 ≡ false) line
    (each_weaker IsInLine (λ b. nat_eq b 10 ≡ false) (λ b i. i.no_feed) line h)) refl)
    ∙ (parts_more line (slice_split is_line_feed rest) (split_has_first rest) ∙ ap (λ l. l ∷ lines rest) (stripped line h))
