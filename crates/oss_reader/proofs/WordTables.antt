-- A word or symbol is looked up among those of its length.
use Rattle.std.proofs.Common.{◌≡◌, ℕ, Bool, true, false, List, [], ◌∷◌, length, Option, Some, None, refl, sym, ap, ◌∙◌, cond, inl, inr}
use Rattle.std.specs.Prelude.{◌==◌, bytes_eq}
use Rattle.std.specs.List.{list_all}
use Rattle.std.proofs.lemmas.Bool.{cases_Bool, cond-true, cond-false, and_parts, false≢true}
use Rattle.std.proofs.lemmas.Bool.Decides.{Decides-eqb}
use Rattle.std.proofs.lemmas.Slice.Eq.{bytes_eq-Decides}
use Rattle.oss_base.specs.declared.place.Span.{Span}
use Rattle.oss_syntax.specs.Alphabet.{Terminal}
use Rattle.oss_syntax.specs.Alphabet as terminal
use Rattle.oss_syntax.specs.Terminals.{Spelling, choose, as_terminal, structure_words, unsupported_words, truth_words, port_words, prefix_words}
use Rattle.oss_syntax.specs.Terminals.{binary_words, binary_symbols, prefix_symbols, mark_symbols, unsupported_symbols, word_terminal, symbol_terminal}
use Rattle.oss_reader.specs.Words.{spellings_of_length, word_of_length, symbol_of_length, is_word_length, is_symbol_length}

chosen_later : {A : Type 0} → (spelling : Spelling A) (table : List (Spelling A)) (text : List ℕ)
    → bytes_eq text spelling.text ≡ false → choose (spelling ∷ table) text ≡ choose table text
chosen_later spelling table text e = cond-false (bytes_eq text spelling.text) _ _ e

other_length : {A : Type 0} → (spelling : Spelling A) (text : List ℕ) → (length spelling.text == length text) ≡ false
    → bytes_eq text spelling.text ≡ false
other_length spelling text differ = elim (cases_Bool (bytes_eq text spelling.text)) [
  | inl same ↦ absurd (false≢true (sym differ ∙ (Decides-eqb (length spelling.text) (length text)).1
      (ap length (sym ((bytes_eq-Decides text spelling.text).0 same)))))
  | inr none ↦ none
]

choose_by_length : {A : Type 0} → (table : List (Spelling A)) (text : List ℕ)
    → choose (spellings_of_length (length text) table) text ≡ choose table text
choose_by_length [] text = refl
choose_by_length (spelling ∷ table) text = elim (cases_Bool (length spelling.text == length text)) [
  | inl same ↦
      ap (λ l. choose l text) (cond-true _ (spelling ∷ spellings_of_length (length text) table) (spellings_of_length (length text) table) same)
      ∙ ap (λ r. cond (bytes_eq text spelling.text) (Some spelling.means) r) (choose_by_length table text)
  | inr differ ↦
      ap (λ l. choose l text) (cond-false _ (spelling ∷ spellings_of_length (length text) table) (spellings_of_length (length text) table) differ)
      ∙ choose_by_length table text ∙ sym (chosen_later spelling table text (other_length spelling text differ))
]

pub word_by_length : (text : List ℕ) (span : Span) → word_of_length (length text) text span ≡ word_terminal text span
word_by_length text span = λ i.
    as_terminal terminal.Mark (choose_by_length structure_words text i) span
    (as_terminal terminal.Truth (choose_by_length truth_words text i) span
    (as_terminal terminal.OfPort (choose_by_length port_words text i) span
    (as_terminal terminal.Prefix (choose_by_length prefix_words text i) span
    (as_terminal terminal.Binary (choose_by_length binary_words text i) span
    (as_terminal terminal.Mark (choose_by_length unsupported_words text i) span
    (terminal.Name (record { text = text; span = span })))))))

pub symbol_by_length : (text : List ℕ) (span : Span)
    → symbol_of_length (length text) text span ≡ symbol_terminal text span
symbol_by_length text span = λ i.
    as_terminal terminal.Binary (choose_by_length binary_symbols text i) span
    (as_terminal terminal.Prefix (choose_by_length prefix_symbols text i) span
    (as_terminal terminal.Mark (choose_by_length mark_symbols text i) span
    (as_terminal terminal.Mark (choose_by_length unsupported_symbols text i) span
    (terminal.Name (record { text = text; span = span })))))

-- the same at a number that is the length
pub word_of : (n : ℕ) (text : List ℕ) (span : Span) (read : Terminal) → length text ≡ n
    → read ≡ word_of_length n text span → read ≡ word_terminal text span
word_of n text span read e h = h ∙ ap (λ m. word_of_length m text span) (sym e) ∙ word_by_length text span

pub symbol_of : (n : ℕ) (text : List ℕ) (span : Span) (read : Terminal) → length text ≡ n
    → read ≡ symbol_of_length n text span → read ≡ symbol_terminal text span
symbol_of n text span read e h = h ∙ ap (λ m. symbol_of_length m text span) (sym e) ∙ symbol_by_length text span

-- a text of another length stands in no table

choose_none : {A : Type 0} → (p : ℕ → Bool) (table : List (Spelling A)) (text : List ℕ)
    → list_all (λ (spelling : Spelling A). p (length spelling.text)) table ≡ true → p (length text) ≡ false
    → choose table text ≡ None
choose_none p [] text all none = refl
choose_none p (spelling ∷ table) text all none =
    let parts = and_parts (p (length spelling.text)) (list_all (λ s. p (length s.text)) table) all in
    elim (cases_Bool (bytes_eq text spelling.text)) [
      | inl same ↦ absurd (false≢true (sym none ∙ ap (λ t. p (length t)) ((bytes_eq-Decides text spelling.text).0 same) ∙ parts.0))
      | inr differ ↦ chosen_later spelling table text differ ∙ choose_none p table text parts.1 none
    ]

pub word_of_other : (text : List ℕ) (span : Span) → is_word_length (length text) ≡ false
    → terminal.Name (record { text = text; span = span }) ≡ word_terminal text span
word_of_other text span none = sym (λ i.
    as_terminal terminal.Mark (choose_none is_word_length structure_words text refl none i) span
    (as_terminal terminal.Truth (choose_none is_word_length truth_words text refl none i) span
    (as_terminal terminal.OfPort (choose_none is_word_length port_words text refl none i) span
    (as_terminal terminal.Prefix (choose_none is_word_length prefix_words text refl none i) span
    (as_terminal terminal.Binary (choose_none is_word_length binary_words text refl none i) span
    (as_terminal terminal.Mark (choose_none is_word_length unsupported_words text refl none i) span
    (terminal.Name (record { text = text; span = span }))))))))

pub symbol_of_other : (text : List ℕ) (span : Span) → is_symbol_length (length text) ≡ false
    → terminal.Name (record { text = text; span = span }) ≡ symbol_terminal text span
symbol_of_other text span none = sym (λ i.
    as_terminal terminal.Binary (choose_none is_symbol_length binary_symbols text refl none i) span
    (as_terminal terminal.Prefix (choose_none is_symbol_length prefix_symbols text refl none i) span
    (as_terminal terminal.Mark (choose_none is_symbol_length mark_symbols text refl none i) span
    (as_terminal terminal.Mark (choose_none is_symbol_length unsupported_symbols text refl none i) span
    (terminal.Name (record { text = text; span = span }))))))
