-- What stands at the front of a text is a piece, and no other piece begins there.
use Rattle.std.proofs.Common.{◌≡◌, ℕ, ◌<◌, ◌≤◌, suc, Bool, true, false, ◌&&◌, ◌⊎◌, inl, inr, List, [], ◌∷◌, ◌++◌, length, get_or, take, drop, Option, Some}
use Rattle.std.proofs.Common.{None, refl, sym, ap, subst, ◌∙◌, arith, eqb}
use Rattle.std.specs.Prelude.{◌==◌}
use Rattle.std.specs.Char.{is_ascii_digit}
use Rattle.std.specs.List.{list_all, prefix_len}
use Rattle.std.proofs.lemmas.Bool.{cases_lt, and_parts, and_left, or_cases, or_from, cond_both, cond-true, cond-false, false≢true, eqb-true, eqb-false}
use Rattle.std.proofs.lemmas.Bool.{ne_eqb, not-true}
use Rattle.std.proofs.lemmas.Bool.Decides.{nat_tests}
use Rattle.std.proofs.lemmas.List.{take_at, take-append-drop, length-take-le, length-append}
use Rattle.std.proofs.lemmas.List.Sums.{prefix_len-le-length}
use Rattle.std.specs.Str.Parse.{digits_value}
use Rattle.oss_base.specs.declared.fault.FaultKind.{FaultKind}
use Rattle.oss_base.specs.declared.fault.FaultKind.TheVariants.{F2, F4}
use Rattle.oss_base.specs.Limits.{largest_numeral}
use Rattle.oss_syntax.specs.Tokens.{symbols, is_blank, is_word_start, is_word_byte, is_comment_byte, begins_comment, IsBlank, IsComment, IsWord, IsNumeral}
use Rattle.oss_syntax.specs.Tokens.{IsSymbol, IsPieceOf, IsWithinLimit, IsFaultAt}
use Rattle.oss_syntax.specs.declared.token.TokenKind.{TokenKind}
use Rattle.oss_syntax.specs.declared.token.TokenKind.TheVariants.{Word, Numeral, Symbol}
use Rattle.oss_lexer.specs.declared.front.Front.{Front}
use Rattle.oss_lexer.specs.Fronts.{longest_of, symbol_front, front_of, IsFront, IsFrontIf, IsFrontWithinLimit}
use Rattle.oss_lexer.specs.Laws.{OnePiece}
use Rattle.oss_lexer.proofs.Pieces.{one_more, front_passes, rest_stops, front_is}
use Rattle.oss_lexer.proofs.Symbols.{begins_with, split_after, covers, reaches, symbol_like}

-- classes of bytes have nothing in common

-- a byte that passes isn't one that fails
other_byte : (p : ℕ → Bool) (b n : ℕ) → p n ≡ false → p b ≡ true → eqb b n ≡ false
other_byte p b n fails passes = ne_eqb b n (λ e. false≢true (sym fails ∙ sym (ap p e) ∙ passes))

no_comment_first : (p : ℕ → Bool) (b : ℕ) (bs : List ℕ) → p 45 ≡ false → p 47 ≡ false → p b ≡ true
    → begins_comment (b ∷ bs) ≡ false
no_comment_first p b [] minus slash h = refl
no_comment_first p b (c ∷ cs) minus slash h =
    or_from (eqb b 45 && eqb c 45) (eqb b 47 && eqb c 47) (and_left (eqb b 45) (eqb c 45) (other_byte p b 45 minus h))
    (and_left (eqb b 47) (eqb c 47) (other_byte p b 47 slash h))

not_blank : (p : ℕ → Bool) (b : ℕ) → p 32 ≡ false → p 9 ≡ false → p 13 ≡ false → p 10 ≡ false → p b ≡ true
    → is_blank b ≡ false
not_blank p b space tab return feed h =
    or_from _ (eqb b 10) (or_from _ (eqb b 13) (or_from (eqb b 32) (eqb b 9) (other_byte p b 32 space h) (other_byte p b 9 tab h))
    (other_byte p b 13 return h)) (other_byte p b 10 feed h)

digit_starts_no_word : (b : ℕ) → is_ascii_digit b ≡ true → is_word_start b ≡ false
digit_starts_no_word b h = grind (arith, nat_tests)

word_start_goes_on : (b : ℕ) → is_word_start b ≡ true → is_word_byte b ≡ true
word_start_goes_on b h = grind (arith, nat_tests)

-- what a piece in front of other bytes is, as a function

abbrev pub found : Option TokenKind → ℕ → Option Front
found kind len = Some (record { kind = kind; len = len })

at_comment : (bytes : List ℕ) → begins_comment bytes ≡ true
    → front_of bytes ≡ found None (prefix_len is_comment_byte bytes)
unfolding front_of
at_comment bytes h = cond-true _ _ _ h

at_blank : (bytes : List ℕ) → begins_comment bytes ≡ false → is_blank (get_or bytes 0 0) ≡ true
    → front_of bytes ≡ found None 1
unfolding front_of
at_blank bytes c h = cond-false _ _ _ c ∙ cond-true _ _ _ h

at_word : (bytes : List ℕ) → begins_comment bytes ≡ false → is_blank (get_or bytes 0 0) ≡ false
    → is_word_start (get_or bytes 0 0) ≡ true
    → front_of bytes ≡ found (Some Word) (prefix_len is_word_byte bytes)
unfolding front_of
at_word bytes c b h = cond-false _ _ _ c ∙ cond-false _ _ _ b ∙ cond-true _ _ _ h

at_numeral : (bytes : List ℕ) → begins_comment bytes ≡ false → is_blank (get_or bytes 0 0) ≡ false
    → is_word_start (get_or bytes 0 0) ≡ false → is_ascii_digit (get_or bytes 0 0) ≡ true
    → front_of bytes ≡ found (Some Numeral) (prefix_len is_ascii_digit bytes)
unfolding front_of
at_numeral bytes c b w h = cond-false _ _ _ c ∙ cond-false _ _ _ b ∙ cond-false _ _ _ w ∙ cond-true _ _ _ h

at_symbol : (bytes : List ℕ) → begins_comment bytes ≡ false → is_blank (get_or bytes 0 0) ≡ false
    → is_word_start (get_or bytes 0 0) ≡ false → is_ascii_digit (get_or bytes 0 0) ≡ false
    → front_of bytes ≡ symbol_front (longest_of symbols bytes)
unfolding front_of
at_symbol bytes c b w d = cond-false _ _ _ c ∙ cond-false _ _ _ b ∙ cond-false _ _ _ w ∙ cond-false _ _ _ d

blank_found : (text after : List ℕ) → IsBlank text → front_of (text ++ after) ≡ found None (length text)
blank_found text after blank =
    let P : List ℕ → Type 0 = λ t. front_of (t ++ after) ≡ found None (length t) in
    subst P (sym blank.1) (at_blank (blank.0 ∷ after) (no_comment_first is_blank blank.0 after refl refl blank.2) blank.2)

comment_goes_on : (text after : List ℕ) → begins_comment text ≡ true → begins_comment (text ++ after) ≡ true
comment_goes_on [] after h = absurd (false≢true h)
comment_goes_on (a ∷ []) after h = absurd (false≢true h)
comment_goes_on (a ∷ b ∷ text) after h = h

comment_found : (text after : List ℕ) → IsComment text after → front_of (text ++ after) ≡ found None (length text)
comment_found text after comment =
    at_comment (text ++ after) (comment_goes_on text after comment.begins) ∙ ap (found None)
    (front_is is_comment_byte text after comment.bytes comment.ends)

word_found : (text after : List ℕ) → IsWord text after → front_of (text ++ after) ≡ found (Some Word) (length text)
word_found [] after word = absurd word.begins
word_found (b ∷ text) after word =
    at_word (b ∷ (text ++ after)) (no_comment_first is_word_start b (text ++ after) refl refl word.begins)
    (not_blank is_word_start b refl refl refl refl word.begins) word.begins
    ∙ ap (found (Some Word)) (front_is is_word_byte (b ∷ text) after word.bytes word.ends)

numeral_found : (text after : List ℕ) → IsNumeral text after
    → front_of (text ++ after) ≡ found (Some Numeral) (length text)
numeral_found [] after numeral = absurd numeral.begins
numeral_found (b ∷ text) after numeral =
    at_numeral (b ∷ (text ++ after)) (no_comment_first is_ascii_digit b (text ++ after) refl refl numeral.begins)
    (not_blank is_ascii_digit b refl refl refl refl numeral.begins)
    (digit_starts_no_word b numeral.begins) numeral.begins
    ∙ ap (found (Some Numeral)) (front_is is_ascii_digit (b ∷ text) after numeral.bytes numeral.ends)

symbol_len_is : (text after : List ℕ) → IsSymbol text after → longest_of symbols (text ++ after) ≡ length text
symbol_len_is text after symbol =
    let least : length text ≤ longest_of symbols (text ++ after) = covers (text ++ after) symbols text symbol.listed
    (begins_with (text ++ after) text after refl) in
    elim (reaches (text ++ after) symbols) [
      | inl none ↦ omega arith
      | inr reached ↦
          let most : length reached.0 ≤ length text = symbol.longest reached.0 _ reached.1 (split_after (text ++ after) reached.0 reached.2) in
          omega (arith, reached.3)
    ]

symbol_found : (text after : List ℕ) → IsSymbol text after
    → front_of (text ++ after) ≡ found (Some Symbol) (length text)
symbol_found [] after symbol = absurd (false≢true (symbol_like [] symbol.listed))
symbol_found (b ∷ text) after symbol =
    let like = and_parts _ _ (symbol_like (b ∷ text) symbol.listed) in
    let rest = and_parts _ _ like.1 in
    at_symbol (b ∷ (text ++ after)) symbol.no_comment (not-true _ like.0) (not-true _ rest.0) (not-true _ rest.1)
    ∙ ap symbol_front (symbol_len_is (b ∷ text) after symbol)
    ∙ cond-false _ _ _ (ne_eqb (suc (length text)) 0 (λ e. omega (arith, e)))

-- A piece is what stands at the front.
pub piece_found : (kind : Option TokenKind) (text after : List ℕ) → IsPieceOf kind text after
    → front_of (text ++ after) ≡ found kind (length text)
piece_found None text after (inl blank) = blank_found text after blank
piece_found None text after (inr comment) = comment_found text after comment
piece_found (Some Word) text after word = word_found text after word
piece_found (Some Numeral) text after numeral = numeral_found text after numeral
piece_found (Some Symbol) text after symbol = symbol_found text after symbol

-- What stands at the front is a piece.

comment_byte_first : (a b : ℕ) (bs : List ℕ) → begins_comment (a ∷ b ∷ bs) ≡ true
    → (is_comment_byte a ≡ true) × (is_comment_byte b ≡ true)
comment_byte_first a b bs h = elim (or_cases _ _ h) [
  | inl minus ↦ let both = and_parts _ _ minus in (rw (eqb-true a 45 both.0) refl, rw (eqb-true b 45 both.1) refl)
  | inr slash ↦ let both = and_parts _ _ slash in (rw (eqb-true a 47 both.0) refl, rw (eqb-true b 47 both.1) refl)
]

comment_front : (bytes : List ℕ) → begins_comment bytes ≡ true → IsFront bytes None (prefix_len is_comment_byte bytes)
comment_front [] h = absurd (false≢true h)
comment_front (a ∷ []) h = absurd (false≢true h)
comment_front (a ∷ b ∷ bs) h =
    let firsts = comment_byte_first a b bs h in
    let two : prefix_len is_comment_byte (a ∷ b ∷ bs) ≡ suc (suc (prefix_len is_comment_byte bs)) =
    one_more is_comment_byte a (b ∷ bs) firsts.0 ∙ ap suc (one_more is_comment_byte b bs firsts.1) in
    record {
      piece = inr (record { begins = rw two h; bytes = front_passes is_comment_byte (a ∷ b ∷ bs); ends = rest_stops is_comment_byte (a ∷ b ∷ bs) });
      some = omega (arith, two);
      within = prefix_len-le-length is_comment_byte (a ∷ b ∷ bs);
    }

blank_front : (b : ℕ) (bs : List ℕ) → is_blank b ≡ true → IsFront (b ∷ bs) None 1
blank_front b bs h = record { piece = inl (b, refl, h); some = omega arith; within = omega arith }

word_front : (b : ℕ) (bs : List ℕ) → is_word_start b ≡ true
    → IsFront (b ∷ bs) (Some Word) (prefix_len is_word_byte (b ∷ bs))
word_front b bs h =
    let one = one_more is_word_byte b bs (word_start_goes_on b h) in
    record {
      piece = record { begins = rw one h; bytes = front_passes is_word_byte (b ∷ bs); ends = rest_stops is_word_byte (b ∷ bs) };
      some = omega (arith, one);
      within = prefix_len-le-length is_word_byte (b ∷ bs);
    }

numeral_front : (b : ℕ) (bs : List ℕ) → is_ascii_digit b ≡ true
    → IsFront (b ∷ bs) (Some Numeral) (prefix_len is_ascii_digit (b ∷ bs))
numeral_front b bs h =
    let one = one_more is_ascii_digit b bs h in
    record {
      piece = record { begins = rw one h; bytes = front_passes is_ascii_digit (b ∷ bs); ends = rest_stops is_ascii_digit (b ∷ bs) };
      some = omega (arith, one);
      within = prefix_len-le-length is_ascii_digit (b ∷ bs);
    }

symbol_at : (bytes : List ℕ) (len : ℕ) → begins_comment bytes ≡ false → longest_of symbols bytes ≡ len → 0 < len
    → IsFront bytes (Some Symbol) len
symbol_at bytes len no_comment is some = elim (reaches bytes symbols) [
  | inl none ↦ absurd (omega arith)
  | inr reached ↦
      let whole : bytes ≡ reached.0 ++ drop (length reached.0) bytes = split_after bytes reached.0 reached.2 in
      let same : length reached.0 ≡ len = reached.3 ∙ is in
      let text : take len bytes ≡ reached.0 = ap (take len) whole ∙ take_at reached.0 (drop (length reached.0) bytes) len same in
      let within : len ≤ length bytes = omega (arith, length-append {A = ℕ}, ap length whole) in
      record {
        piece = record {
          listed = rw text reached.1;
          longest = λ other rest c e.
              let fits : length other ≤ longest_of symbols bytes = covers bytes symbols other c
              (begins_with bytes other rest (sym (take-append-drop len bytes) ∙ e)) in
              omega (arith, length-take-le len bytes within);
          no_comment = rw (take-append-drop len bytes) no_comment;
        };
        some = some;
        within = within;
      }
]

symbol_front_is : (bytes : List ℕ) → begins_comment bytes ≡ false
    → IsFrontIf bytes (symbol_front (longest_of symbols bytes))
symbol_front_is bytes no_comment = cond_both (longest_of symbols bytes == 0) None (found (Some Symbol) (longest_of symbols bytes)) (IsFrontIf bytes)
    (λ _. tt)
    (λ h. symbol_at bytes (longest_of symbols bytes) no_comment refl (omega (arith, eqb-false _ _ h)))

pub front_is_piece : (bytes : List ℕ) → 0 < length bytes → IsFrontIf bytes (front_of bytes)
unfolding front_of
front_is_piece [] h = absurd (omega arith)
front_is_piece (b ∷ bs) h = cond_both (begins_comment (b ∷ bs)) _ _ (IsFrontIf (b ∷ bs)) (λ comment. comment_front (b ∷ bs) comment)
    (λ no_comment. cond_both (is_blank b) _ _ (IsFrontIf (b ∷ bs)) (λ blank. blank_front b bs blank)
    (λ _. cond_both (is_word_start b) _ _ (IsFrontIf (b ∷ bs)) (λ word. word_front b bs word)
    (λ _. cond_both (is_ascii_digit b) _ _ (IsFrontIf (b ∷ bs)) (λ digit. numeral_front b bs digit)
    (λ _. symbol_front_is (b ∷ bs) no_comment))))

kind_at : Option Front → Option TokenKind
kind_at None = None
kind_at (Some front) = front.kind

len_at : Option Front → ℕ
len_at None = 0
len_at (Some front) = front.len

pub one_piece : OnePiece
unfolding kind_at len_at
one_piece kind other text more after rest piece stands e =
    let same : found kind (length text) ≡ found other (length more) = sym (piece_found kind text after piece) ∙ ap front_of e
    ∙ piece_found other more rest stands in
    let len : length text ≡ length more = ap len_at same in
    (ap kind_at same, sym (take_at text after (length text) refl) ∙ ap (take (length text)) e ∙ take_at more rest (length text) (sym len))

pub piece_not_empty : (kind : Option TokenKind) (after : List ℕ) → IsPieceOf kind [] after → ⊥
piece_not_empty None after (inl blank) = let e : [] ≡ blank.0 ∷ [] = blank.1 in cc
piece_not_empty None after (inr comment) = false≢true comment.begins
piece_not_empty (Some Word) after word = word.begins
piece_not_empty (Some Numeral) after numeral = numeral.begins
piece_not_empty (Some Symbol) after symbol = false≢true (symbol_like [] symbol.listed)

-- what `front_of` answers, as a fault or a piece within the limit

pub fault_at_none : (rest : List ℕ) → 0 < length rest → front_of rest ≡ None → IsFaultAt F2 rest
fault_at_none rest some e = inl (
  refl,
  record {
    some = λ empty. absurd (omega (arith, ap length empty));
    none_begins = λ kind text after whole piece. let same : None ≡ found kind (length text) = sym e ∙ ap front_of whole
        ∙ piece_found kind text after piece in cc;
  },
)

pub fault_at_large : (rest : List ℕ) (len : ℕ) → 0 < length rest → front_of rest ≡ found (Some Numeral) len
    → largest_numeral < digits_value 10 (take len rest) → IsFaultAt F4 rest
fault_at_large rest len some e large =
    let is : IsFrontIf rest (found (Some Numeral) len) = subst (IsFrontIf rest) e (front_is_piece rest some) in
    inr (refl, record { text = take len rest; after = drop len rest; whole = sym (take-append-drop len rest); numeral = is.piece; large = large })

pub stands_at : (rest : List ℕ) (front : Front) → 0 < length rest → front_of rest ≡ Some front
    → IsWithinLimit front.kind (take front.len rest) → IsFrontWithinLimit rest front
stands_at rest front some e limit =
    let is : IsFrontIf rest (Some front) = subst (IsFrontIf rest) e (front_is_piece rest some) in
    record { is_front = is; limit = limit }

limit_cases : (kind : Option TokenKind) (text : List ℕ)
    → IsWithinLimit kind text ⊎ ((kind ≡ Some Numeral) × (largest_numeral < digits_value 10 text))
limit_cases None text = inl tt
limit_cases (Some Word) text = inl tt
limit_cases (Some Symbol) text = inl tt
limit_cases (Some Numeral) text = elim (cases_lt largest_numeral (digits_value 10 text)) [ inl large ↦ inr (refl, large) | inr small ↦ inl small ]

step_of : (rest : List ℕ) → 0 < length rest → (answer : Option Front) → front_of rest ≡ answer
    → ((front : Front) × IsFrontWithinLimit rest front) ⊎ ((kind : FaultKind) × IsFaultAt kind rest)
step_of rest some None e = inr (F2, fault_at_none rest some e)
step_of rest some (Some front) e = elim (limit_cases front.kind (take front.len rest)) [
  | inl limit ↦ inl (front, stands_at rest front some e limit)
  | inr large ↦ inr (F4, fault_at_large rest front.len some (e ∙ ap (λ k. found k front.len) large.0) large.1)
]

pub step : (rest : List ℕ) → 0 < length rest
    → ((front : Front) × IsFrontWithinLimit rest front) ⊎ ((kind : FaultKind) × IsFaultAt kind rest)
step rest some = step_of rest some (front_of rest) refl

-- what the code knows of the piece that it found

pub found_within : (rest : List ℕ) (front : Front) → 0 < length rest → front_of rest ≡ Some front
    → front.len ≤ length rest
found_within rest front some e = let is : IsFrontIf rest (Some front) = subst (IsFrontIf rest) e (front_is_piece rest some) in is.within

digits_of_numeral : (kind : Option TokenKind) (text after : List ℕ) → IsPieceOf kind text after → kind ≡ Some Numeral
    → list_all is_ascii_digit text ≡ true
digits_of_numeral kind text after piece e =
    let P : Option TokenKind → Type 0 = λ k. IsPieceOf k text after in
    let numeral : IsNumeral text after = subst P e piece in
    numeral.bytes

pub found_digits : (rest : List ℕ) (front : Front) → 0 < length rest → front_of rest ≡ Some front
    → front.kind ≡ Some Numeral → list_all is_ascii_digit (take front.len rest) ≡ true
found_digits rest front some e numeral =
    let is : IsFrontIf rest (Some front) = subst (IsFrontIf rest) e (front_is_piece rest some) in
    digits_of_numeral front.kind (take front.len rest) (drop front.len rest) is.piece numeral

pub fault_over_limit : (rest : List ℕ) (front : Front) → 0 < length rest → front_of rest ≡ Some front
    → (IsWithinLimit front.kind (take front.len rest) → ⊥) → IsFaultAt F4 rest
fault_over_limit rest front some e over = elim (limit_cases front.kind (take front.len rest)) [
  | inl limit ↦ absurd (over limit)
  | inr large ↦ fault_at_large rest front.len some (e ∙ ap (λ k. found k front.len) large.0) large.1
]
