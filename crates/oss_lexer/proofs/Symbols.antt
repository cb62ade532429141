-- The longest of some texts with which bytes begin.
use Rattle.std.proofs.Common.{◌≡◌, ℕ, ◌<◌, ◌≤◌, max, zero, suc, Bool, true, false, not, ◌&&◌, ◌||◌, ◌⊎◌, inl, inr, List, [], ◌∷◌, ◌++◌, length, get_or}
use Rattle.std.proofs.Common.{take, drop, refl, sym, ap, subst, ◌∙◌, arith, eqb}
use Rattle.std.specs.Prelude.{Contains, ◌==◌, bytes_eq}
use Rattle.std.specs.Char.{is_ascii_digit}
use Rattle.std.specs.List.{fold, list_all, starts_with}
use Rattle.std.proofs.Math.Nat.{le-max_left, le-max_right}
use Rattle.std.proofs.lemmas.Bool.{cases_Bool, cases_lt, or_cases, cond_both, cond-true, cond-false, false≢true, eqb-true}
use Rattle.std.proofs.lemmas.Bool.Decides.{Decides-eqb}
use Rattle.std.proofs.lemmas.List.{take_at, take-append-drop, length-take}
use Rattle.std.proofs.lemmas.List.Elements.{All-contains}
use Rattle.std.proofs.lemmas.List.Sums.{AllPass-from_list_all}
use Rattle.std.proofs.lemmas.Slice.Eq.{starts_is, bytes_eq-Decides}
use Rattle.oss_syntax.specs.Tokens.{symbols, is_blank, is_word_start}
use Rattle.oss_lexer.specs.Fronts.{longer, longest_of, of_length, is_listed}

pub begins_with : (bytes text rest : List ℕ) → bytes ≡ text ++ rest → starts_with ◌==◌ bytes text ≡ true
begins_with bytes text rest e = (starts_is Decides-eqb bytes text (starts_with ◌==◌ bytes text) refl).1 rest e

pub split_after : (bytes text : List ℕ) → starts_with ◌==◌ bytes text ≡ true → bytes ≡ text ++ drop (length text) bytes
split_after bytes text h = (starts_is Decides-eqb bytes text (starts_with ◌==◌ bytes text) refl).0 h

longer-ge : (bytes : List ℕ) (len : ℕ) (text : List ℕ) → len ≤ longer bytes len text
longer-ge bytes len text = cond_both (starts_with ◌==◌ bytes text) (max len (length text)) len (λ v. len ≤ v) (λ _. le-max_left len (length text))
    (λ _. omega arith)

longest-ge : (bytes : List ℕ) (texts : List (List ℕ)) (len : ℕ) → len ≤ fold (longer bytes) len texts
longest-ge bytes [] len = omega arith
longest-ge bytes (text ∷ texts) len = omega (arith, longer-ge bytes len text, longest-ge bytes texts (longer bytes len text))

covers_at : (bytes : List ℕ) (texts : List (List ℕ)) (len : ℕ) (text : List ℕ) (k : ℕ) → k < length texts
    → get_or texts k text ≡ text
    → starts_with ◌==◌ bytes text ≡ true → length text ≤ fold (longer bytes) len texts
covers_at bytes [] len text k h e s = absurd (omega arith)
covers_at bytes (first ∷ texts) len text zero h e s =
    let same : length first ≡ length text = ap length e in
    let starts : starts_with ◌==◌ bytes first ≡ true = rw e s in
    let taken : longer bytes len first ≡ max len (length first) = cond-true _ _ _ starts in
    omega (arith, same, taken, le-max_right len (length first), longest-ge bytes texts (longer bytes len first))
covers_at bytes (first ∷ texts) len text (suc k) h e s = covers_at bytes texts (longer bytes len first) text k (omega arith) e s

-- each text with which the bytes begin is at most so long
pub covers : (bytes : List ℕ) (texts : List (List ℕ)) (text : List ℕ) → Contains texts text
    → starts_with ◌==◌ bytes text ≡ true → length text ≤ longest_of texts bytes
covers bytes texts text c s = covers_at bytes texts 0 text c.0 c.1 c.2 s

abbrev pub Reached : List ℕ → List (List ℕ) → ℕ → Type 0
Reached bytes texts len = (text : List ℕ) × Contains texts text × (starts_with ◌==◌ bytes text ≡ true) × (length text ≡ len)

longer_cases : (bytes : List ℕ) (len : ℕ) (text : List ℕ)
    → (longer bytes len text ≡ len) ⊎ ((starts_with ◌==◌ bytes text ≡ true) × (length text ≡ longer bytes len text))
longer_cases bytes len text = elim (cases_Bool (starts_with ◌==◌ bytes text)) [
  | inl s ↦ elim (cases_lt len (length text)) [
    | inl h ↦ inr (s, rw (cond-true (starts_with ◌==◌ bytes text) (max len (length text)) len s) (omega arith))
    | inr h ↦ inl (rw (cond-true (starts_with ◌==◌ bytes text) (max len (length text)) len s) (omega arith))
  ]
  | inr s ↦ inl (cond-false (starts_with ◌==◌ bytes text) (max len (length text)) len s)
]

reaches_from : (bytes : List ℕ) (texts : List (List ℕ)) (len : ℕ)
    → (fold (longer bytes) len texts ≡ len) ⊎ Reached bytes texts (fold (longer bytes) len texts)
reaches_from bytes [] len = inl refl
reaches_from bytes (text ∷ texts) len = elim (reaches_from bytes texts (longer bytes len text)) [
  | inl same ↦ elim (longer_cases bytes len text) [
    | inl kept ↦ inl (same ∙ kept)
    | inr taken ↦ inr (text, (0, omega arith, refl), taken.0, taken.1 ∙ sym same)
  ]
  | inr reached ↦ inr (reached.0, (suc reached.1.0, omega (arith, reached.1.1), reached.1.2), reached.2, reached.3)
]

-- some text with which the bytes begin is so long
pub reaches : (bytes : List ℕ) (texts : List (List ℕ))
    → (longest_of texts bytes ≡ 0) ⊎ Reached bytes texts (longest_of texts bytes)
reaches bytes texts = reaches_from bytes texts 0

-- what the symbols have in common: one is not empty, and begins like no blank, word or numeral
abbrev pub like_a_symbol : List ℕ → Bool
like_a_symbol [] = false
like_a_symbol (first ∷ _) = not (is_blank first) && (not (is_word_start first) && not (is_ascii_digit first))

all_like : list_all like_a_symbol symbols ≡ true
unfolding symbols
all_like = refl

pub symbol_like : (text : List ℕ) → Contains symbols text → like_a_symbol text ≡ true
symbol_like text c = All-contains (λ text. like_a_symbol text ≡ true) symbols text (AllPass-from_list_all like_a_symbol symbols all_like) c

-- a text that is listed among those of a length
pub listed_holds : (n : ℕ) (texts : List (List ℕ)) (text : List ℕ) → is_listed (of_length n texts) text ≡ true
    → Contains texts text × (length text ≡ n)
listed_holds n [] text h = absurd (false≢true h)
listed_holds n (first ∷ texts) text h = elim (cases_Bool (length first == n)) [
  | inl same ↦
      let here : is_listed (first ∷ of_length n texts) text ≡ true = subst (λ l. is_listed l text ≡ true) (cond-true _ _ _ same) h in
      elim (cases_Bool (bytes_eq text first)) [
        | inl e ↦
            let equal : text ≡ first = (bytes_eq-Decides text first).0 e in
            ((0, omega arith, sym equal), ap length equal ∙ eqb-true _ _ same)
        | inr e ↦
            let later = listed_holds n texts text (sym (cond-false _ _ _ e) ∙ here) in
            ((suc later.0.0, omega (arith, later.0.1), later.0.2), later.1)
      ]
  | inr other ↦
      let later = listed_holds n texts text (subst (λ l. is_listed l text ≡ true) (cond-false _ _ _ other) h) in
      ((suc later.0.0, omega (arith, later.0.1), later.0.2), later.1)
]

listed_first : (texts : List (List ℕ)) (first text : List ℕ) → first ≡ text → is_listed (first ∷ texts) text ≡ true
listed_first texts first text e = cond-true _ _ _ ((bytes_eq-Decides text first).1 (sym e))

listed_later : (texts : List (List ℕ)) (first text : List ℕ) → is_listed texts text ≡ true
    → is_listed (first ∷ texts) text ≡ true
listed_later texts first text h = cond_both (bytes_eq text first) true (is_listed texts text) (λ v. v ≡ true) (λ _. refl) (λ _. h)

-- a text that is listed is listed among those of its length
pub listed_from : (texts : List (List ℕ)) (text : List ℕ) (k : ℕ) → k < length texts → get_or texts k text ≡ text
    → is_listed (of_length (length text) texts) text ≡ true
listed_from [] text k h e = absurd (omega arith)
listed_from (first ∷ texts) text zero h e =
    let same : (length first == length text) ≡ true = (Decides-eqb (length first) (length text)).1 (ap length e) in
    subst (λ l. is_listed l text ≡ true) (sym (cond-true _ _ _ same)) (listed_first (of_length (length text) texts) first text e)
listed_from (first ∷ texts) text (suc k) h e =
    let later : is_listed (of_length (length text) texts) text ≡ true = listed_from texts text k (omega arith) e in
    cond_both (length first == length text) (first ∷ of_length (length text) texts) (of_length (length text) texts) (λ l. is_listed l text ≡ true)
    (λ _. listed_later (of_length (length text) texts) first text later) (λ _. later)

-- a symbol has at most three bytes
abbrev pub is_short : List ℕ → Bool
is_short text = (length text == 1) || ((length text == 2) || (length text == 3))

all_short : list_all is_short symbols ≡ true
unfolding symbols
all_short = refl

symbol_is_short : (text : List ℕ) → Contains symbols text → is_short text ≡ true
symbol_is_short text c = All-contains (λ text. is_short text ≡ true) symbols text (AllPass-from_list_all is_short symbols all_short) c

short_most : (text : List ℕ) → is_short text ≡ true → length text ≤ 3
short_most text h = elim (or_cases (length text == 1) ((length text == 2) || (length text == 3)) h) [
  | inl one ↦ omega (arith, eqb-true (length text) 1 one)
  | inr more ↦ elim (or_cases (length text == 2) (length text == 3) more) [
    | inl two ↦ omega (arith, eqb-true (length text) 2 two)
    | inr three ↦ omega (arith, eqb-true (length text) 3 three)
  ]
]

symbol_short : (text : List ℕ) → Contains symbols text → length text ≤ 3
symbol_short text c = short_most text (symbol_is_short text c)

-- whether a symbol of this length stands at the front
abbrev pub has_symbol : ℕ → List ℕ → Bool
has_symbol n bytes = is_listed (of_length n symbols) (take n bytes)

symbol_at_least : (n : ℕ) (bytes : List ℕ) → has_symbol n bytes ≡ true → n ≤ longest_of symbols bytes
symbol_at_least n bytes h =
    let listed = listed_holds n symbols (take n bytes) h in
    omega (arith, listed.1, covers bytes symbols (take n bytes) listed.0 (begins_with bytes (take n bytes) _ (sym (take-append-drop n bytes))))

symbol_at_most : (n : ℕ) (bytes : List ℕ) → ((k : ℕ) → n < k → k ≤ 3 → has_symbol k bytes ≡ false)
    → longest_of symbols bytes ≤ n
symbol_at_most n bytes none = elim (reaches bytes symbols) [
  | inl empty ↦ omega arith
  | inr reached ↦ elim (cases_lt n (length reached.0)) [
    | inl more ↦
        let text : reached.0 ≡ take (length reached.0) bytes =
        sym (ap (take (length reached.0)) (split_after bytes reached.0 reached.2) ∙ take_at reached.0 _ (length reached.0) refl) in
        let listed : has_symbol (length reached.0) bytes ≡ true =
        subst (λ t. is_listed (of_length (length reached.0) symbols) t ≡ true) text (listed_from symbols reached.0 reached.1.0 reached.1.1 reached.1.2) in
        absurd (false≢true (sym (none (length reached.0) more (symbol_short reached.0 reached.1)) ∙ listed))
    | inr few ↦ omega (arith, reached.3)
  ]
]

no_symbol_of : (bytes : List ℕ) (n k : ℕ) → n ≡ k → has_symbol n bytes ≡ false → has_symbol k bytes ≡ false
no_symbol_of bytes n k e h = subst (λ m. has_symbol m bytes ≡ false) e h

pub symbol_of_three : (bytes : List ℕ) → has_symbol 3 bytes ≡ true → 3 ≡ longest_of symbols bytes
symbol_of_three bytes three = omega (arith, symbol_at_least 3 bytes three, symbol_at_most 3 bytes (λ k more few. absurd (omega arith)))

pub symbol_of_two : (bytes : List ℕ) → has_symbol 3 bytes ≡ false → has_symbol 2 bytes ≡ true
    → 2 ≡ longest_of symbols bytes
symbol_of_two bytes three two =
    omega (arith, symbol_at_least 2 bytes two, symbol_at_most 2 bytes (λ k more few. no_symbol_of bytes 3 k (omega arith) three))

one_or_three : (bytes : List ℕ) → has_symbol 3 bytes ≡ false → has_symbol 2 bytes ≡ false → (k : ℕ) → 1 < k → k ≤ 3
    → has_symbol k bytes ≡ false
one_or_three bytes three two k more few = elim (cases_lt 2 k) [
  | inl h ↦ no_symbol_of bytes 3 k (omega arith) three
  | inr h ↦ no_symbol_of bytes 2 k
      (omega arith) two
]

pub symbol_of_one : (bytes : List ℕ) → has_symbol 3 bytes ≡ false → has_symbol 2 bytes ≡ false
    → has_symbol 1 bytes ≡ true → 1 ≡ longest_of symbols bytes
symbol_of_one bytes three two one = omega (arith, symbol_at_least 1 bytes one, symbol_at_most 1 bytes (one_or_three bytes three two))

pub no_symbol : (bytes : List ℕ) → has_symbol 3 bytes ≡ false → has_symbol 2 bytes ≡ false
    → has_symbol 1 bytes ≡ false → 0 ≡ longest_of symbols bytes
no_symbol bytes three two one =
    omega (
      arith,
      symbol_at_most 0 bytes
          (λ k more few. elim (cases_lt 1 k) [ inl h ↦ one_or_three bytes three two k h few | inr h ↦ no_symbol_of bytes 1 k (omega arith) one ]),
    )

-- fewer bytes are no symbol of this length
pub too_few : (n : ℕ) (bytes : List ℕ) → length bytes < n → false ≡ has_symbol n bytes
too_few n bytes h = elim (cases_Bool (has_symbol n bytes)) [
  | inl stands ↦ absurd (omega (arith, (listed_holds n symbols (take n bytes) stands).1, length-take n bytes))
  | inr none ↦ sym none
]
