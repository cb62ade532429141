-- How a text is cut into lines, and a line into words.
use Rattle.std.proofs.Common.{◌≡◌, ◌≢◌, ℕ, suc, ◌+◌, ◌<◌, ◌≤◌, ◌⊎◌, inl, inr, Bool, true, false, not, cond}
use Rattle.std.proofs.Common.{nat_eq, List, [], ◌∷◌, length, take, drop, get_or, refl, sym, ap, ◌∙◌, arith}
use Rattle.std.proofs.Common.{drop-cons, add-one}
use Rattle.std.specs.List.{position_or_len, slice_split, onto_first, filter}
use Rattle.std.specs.Str.Lines.{lines, lines_of_parts, strip_carriage_return}
use Rattle.std.proofs.lemmas.List.{take_all, drop_all, length-take-le}
use Rattle.std.proofs.Math.Dec.{eqb-suc-zero}
use Rattle.std.proofs.lemmas.Bool.{cases_lt, false≢true}
use Rattle.std.proofs.lemmas.List.Sums.{prefix_len-le-length, fails_before_first, passes_at_first, prefix_len_is}
use Rattle.std.proofs.lemmas.List.Splits.{slice_split-cons_yes, slice_split_first, slice_split_none}
use Rattle.dimacs.specs.Dimacs.{is_blank_or_tab, is_some_word, words_between_blanks}

-- a loop that stops at the first byte that passes, or at the end
pub run_stops : (p : ℕ → Bool) (xs : List ℕ) (i : ℕ) → i < length xs → ((k : ℕ) → k < i → p (get_or xs k 0) ≡ false)
    → p (get_or xs i 0) ≡ true → i ≡ position_or_len p xs
run_stops p xs i h before here = sym
    (prefix_len_is (λ x. not (p x)) xs i 0 (omega arith) (λ k l. ap not (before k l)) (λ _. ap not here))

pub run_ends : (p : ℕ → Bool) (xs : List ℕ) (i : ℕ) → length xs ≤ i → ((k : ℕ) → k < i → p (get_or xs k 0) ≡ false)
    → length xs ≡ position_or_len p xs
run_ends p xs i h before = sym
    (prefix_len_is (λ x. not (p x)) xs (length xs) 0 (omega arith) (λ k l. ap not (before k (omega arith))) (λ l. absurd (omega arith)))

-- a blank at the front is in no word
words-gap : (b : ℕ) (bs : List ℕ) → is_blank_or_tab b ≡ true → words_between_blanks (b ∷ bs) ≡ words_between_blanks bs
words-gap b bs h = ap (filter is_some_word) (slice_split-cons_yes is_blank_or_tab b bs h)

abbrev is_word_start : ℕ → Bool
is_word_start b = not (is_blank_or_tab b)

skip_step : (t : Bool) (b : ℕ) (bs : List ℕ) (n : ℕ) → is_blank_or_tab b ≡ t
    → words_between_blanks (drop n bs) ≡ words_between_blanks bs
    → words_between_blanks (drop (cond (not (not t)) (1 + n) 0) (b ∷ bs)) ≡ words_between_blanks (b ∷ bs)
skip_step true b bs n e h = let z : 1 + n ≡ suc n = omega arith in rw z (h ∙ sym (words-gap b bs e))
skip_step false b bs n e h = refl

-- blanks at the front are in no word
pub words-skip : (line : List ℕ) → words_between_blanks (drop (position_or_len is_word_start line) line) ≡ words_between_blanks line
words-skip [] = refl
words-skip (b ∷ bs) = skip_step (is_blank_or_tab b) b bs (position_or_len is_word_start bs) refl (words-skip bs)

-- what is left is empty or begins with a word
abbrev BeginsWithWord : List ℕ → Type 0
BeginsWithWord w = (w ≡ []) ⊎ ((b : ℕ) × (bs : List ℕ) × (w ≡ b ∷ bs) × (is_blank_or_tab b ≡ false))

begins_step : (t : Bool) (b : ℕ) (bs : List ℕ) (n : ℕ) → is_blank_or_tab b ≡ t → BeginsWithWord (drop n bs)
    → BeginsWithWord (drop (cond (not (not t)) (1 + n) 0) (b ∷ bs))
begins_step true b bs n e h = let z : 1 + n ≡ suc n = omega arith in rw z h
begins_step false b bs n e h = inr (b, bs, refl, e)

begins_with_word : (line : List ℕ) → BeginsWithWord (drop (position_or_len is_word_start line) line)
begins_with_word [] = inl refl
begins_with_word (b ∷ bs) = begins_step (is_blank_or_tab b) b bs (position_or_len is_word_start bs) refl (begins_with_word bs)

no_word_case : (w : List ℕ) → BeginsWithWord w → position_or_len is_blank_or_tab w ≡ 0 → words_between_blanks w ≡ []
no_word_case w (inl e) h = rw e refl
no_word_case w (inr (b, bs, e, begins)) h =
    let one : cond (not (is_blank_or_tab b)) (1 + position_or_len is_blank_or_tab bs) 0 ≡ 0 = rw e at h in
    let two : 1 + position_or_len is_blank_or_tab bs ≡ 0 = rw begins at one in
    absurd (omega arith)

pub no_word : (line w : List ℕ) (n : ℕ) → w ≡ drop (position_or_len is_word_start line) line
    → n ≡ position_or_len is_blank_or_tab w → n ≡ 0 → words_between_blanks line ≡ []
no_word line w n e f z = sym (words-skip line)
    ∙ no_word_case (drop (position_or_len is_word_start line) line) (begins_with_word line) (ap (position_or_len is_blank_or_tab) (sym e) ∙ (sym f ∙ z))

is_some_word_where : (w : List ℕ) → 0 < length w → is_some_word w ≡ true
is_some_word_where [] h = absurd (omega arith)
is_some_word_where (b ∷ bs) h = rw eqb-suc-zero refl

kept : (w : List ℕ) (ws : List (List ℕ)) → is_some_word w ≡ true → filter is_some_word (w ∷ ws) ≡ w ∷ filter is_some_word ws
kept w ws h = rw h refl

-- a word ends at the first blank, or with the line
word_before_gap : (w : List ℕ) → 0 < position_or_len is_blank_or_tab w → position_or_len is_blank_or_tab w < length w
    → words_between_blanks w ≡ take (position_or_len is_blank_or_tab w) w ∷ words_between_blanks (drop (position_or_len is_blank_or_tab w) w)
word_before_gap w some h =
    let n : ℕ = position_or_len is_blank_or_tab w in
    let full : is_some_word (take n w) ≡ true = is_some_word_where (take n w) (rw (length-take-le n w (omega arith)) some) in
    let cut : slice_split is_blank_or_tab w ≡ take n w ∷ slice_split is_blank_or_tab (drop (n + 1) w) = slice_split_first is_blank_or_tab w 0 h in
    let rest : drop n w ≡ get_or w n 0 ∷ drop (n + 1) w = rw (add-one, drop-cons w n 0) refl in
    ap (filter is_some_word) cut ∙ (kept (take n w) (slice_split is_blank_or_tab (drop (n + 1) w)) full
    ∙ ap (λ u. take n w ∷ u) (sym (ap words_between_blanks rest ∙ words-gap (get_or w n 0) (drop (n + 1) w) (passes_at_first is_blank_or_tab w 0 h))))

last_word : (w : List ℕ) → 0 < position_or_len is_blank_or_tab w → length w ≤ position_or_len is_blank_or_tab w
    → words_between_blanks w ≡ take (position_or_len is_blank_or_tab w) w ∷ words_between_blanks (drop (position_or_len is_blank_or_tab w) w)
last_word w some h =
    let n : ℕ = position_or_len is_blank_or_tab w in
    let le = prefix_len-le-length (λ x. not (is_blank_or_tab x)) w in
    let full : is_some_word w ≡ true = is_some_word_where w (omega arith) in
    let whole : take n w ≡ w = take_all n w h in
    let none : drop n w ≡ [] = drop_all n w h in
    ap (filter is_some_word) (slice_split_none is_blank_or_tab w (λ k d l. fails_before_first is_blank_or_tab w k d (omega arith)))
    ∙ (kept w [] full ∙ sym ((λ j. whole j ∷ words_between_blanks (none j))))

one_word_at : (w : List ℕ) → 0 < position_or_len is_blank_or_tab w
    → words_between_blanks w ≡ take (position_or_len is_blank_or_tab w) w ∷ words_between_blanks (drop (position_or_len is_blank_or_tab w) w)
one_word_at w some =
    elim (cases_lt (position_or_len is_blank_or_tab w) (length w)) [ inl h ↦ word_before_gap w some h | inr h ↦ last_word w some h ]

pub one_word : (line w : List ℕ) (n : ℕ) → w ≡ drop (position_or_len is_word_start line) line
    → n ≡ position_or_len is_blank_or_tab w → n ≢ 0 → words_between_blanks line ≡ take n w ∷ words_between_blanks (drop n w)
one_word line w n e f z =
    let some : 0 < n = omega arith in
    let positive : 0 < position_or_len is_blank_or_tab w = rw f at some in
    sym (words-skip line) ∙ (ap words_between_blanks (sym e) ∙ rw f (one_word_at w positive))

abbrev pub is_line_feed : ℕ → Bool
is_line_feed byte = nat_eq byte 10

-- a text is cut into at least one part
abbrev pub HasFirst : List (List ℕ) → Type 0
HasFirst ps = (p : List ℕ) × (rest : List (List ℕ)) × (ps ≡ p ∷ rest)

onto_has_first : (x : ℕ) (ps : List (List ℕ)) → HasFirst (onto_first x ps)
onto_has_first x [] = (x ∷ [], [], refl)
onto_has_first x (p ∷ ps) = (x ∷ p, ps, refl)

split_step : (t : Bool) (x : ℕ) (ps : List (List ℕ)) → HasFirst (cond t ([] ∷ ps) (onto_first x ps))
split_step true x ps = ([], ps, refl)
split_step false x ps = onto_has_first x ps

pub split_has_first : (xs : List ℕ) → HasFirst (slice_split is_line_feed xs)
split_has_first [] = ([], [], refl)
split_has_first (x ∷ xs) = split_step (is_line_feed x) x (slice_split is_line_feed xs)

pub parts_more : (x : List ℕ) (ps : List (List ℕ)) → HasFirst ps → lines_of_parts (x ∷ ps) ≡ strip_carriage_return x ∷ lines_of_parts ps
parts_more x ps (p, rest, e) = rw e refl

-- a line that ends by a line feed
pub line_cut : (bytes : List ℕ) (n : ℕ) → n ≡ position_or_len is_line_feed bytes → n < length bytes
    → lines bytes ≡ strip_carriage_return (take n bytes) ∷ lines (drop (n + 1) bytes)
line_cut bytes n e h = rw e (line_cut_at (rw e at h))
  where
    line_cut_at : position_or_len is_line_feed bytes < length bytes
        → lines bytes ≡ strip_carriage_return (take (position_or_len is_line_feed bytes) bytes) ∷ lines (drop (position_or_len is_line_feed bytes + 1) bytes)
    line_cut_at l =
        ap lines_of_parts (slice_split_first is_line_feed bytes 0 l)
        ∙ parts_more (take (position_or_len is_line_feed bytes) bytes) (slice_split is_line_feed (drop (position_or_len is_line_feed bytes + 1) bytes))
        (split_has_first (drop (position_or_len is_line_feed bytes + 1) bytes))

whole_part : (xs : List ℕ) → xs ≢ [] → lines_of_parts (xs ∷ []) ≡ xs ∷ []
whole_part [] h = absurd (h refl)
whole_part (x ∷ xs) h = rw eqb-suc-zero refl

-- the last line, where no line feed ends it
pub last_line : (bytes : List ℕ) (n : ℕ) → n ≡ position_or_len is_line_feed bytes → length bytes ≤ n → bytes ≢ []
    → lines bytes ≡ bytes ∷ lines (drop n bytes)
last_line bytes n e h some =
    let le = prefix_len-le-length (λ x. not (is_line_feed x)) bytes in
    let none : drop n bytes ≡ [] = drop_all n bytes h in
    ap lines_of_parts (slice_split_none is_line_feed bytes (λ k d l. fails_before_first is_line_feed bytes k d (omega arith)))
    ∙ (whole_part bytes some ∙ sym (ap (λ u. bytes ∷ lines u) none))

pub empty_where : (bytes : List ℕ) → true ≡ nat_eq (length bytes) 0 → bytes ≡ []
empty_where [] e = refl
empty_where (b ∷ bs) e = let wrong : true ≡ false = rw eqb-suc-zero at e in absurd (false≢true (sym wrong))
