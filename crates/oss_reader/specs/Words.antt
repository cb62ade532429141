-- The tables of reserved words and symbols, restricted to spellings of one length. This file serves proofs only: no
-- public contract cites it.
use Rattle.std.specs.Prelude.{ℕ, ◌==◌, ◌||◌, Bool, List, length}
use Rattle.std.specs.List.{filter}
use Rattle.oss_base.specs.declared.place.Span.{Span}
use Rattle.oss_syntax.specs.Alphabet.{Terminal}
use Rattle.oss_syntax.specs.Alphabet as terminal
use Rattle.oss_syntax.specs.Terminals.{Spelling, choose, as_terminal, structure_words, unsupported_words}
use Rattle.oss_syntax.specs.Terminals.{truth_words, port_words, prefix_words, binary_words, binary_symbols}
use Rattle.oss_syntax.specs.Terminals.{prefix_symbols, mark_symbols, unsupported_symbols}

-- the spellings of this length
abbrev pub spellings_of_length : {A : Type 0} → ℕ → List (Spelling A) → List (Spelling A)
spellings_of_length {A} n table = filter (λ (spelling : Spelling A). length spelling.text == n) table

-- what a word is read as among those of this length
abbrev pub word_of_length : ℕ → List ℕ → Span → Terminal
word_of_length n text span =
    as_terminal terminal.Mark (choose (spellings_of_length n structure_words) text) span
    (as_terminal terminal.Truth (choose (spellings_of_length n truth_words) text) span
    (as_terminal terminal.OfPort (choose (spellings_of_length n port_words) text) span
    (as_terminal terminal.Prefix (choose (spellings_of_length n prefix_words) text) span
    (as_terminal terminal.Binary (choose (spellings_of_length n binary_words) text) span
    (as_terminal terminal.Mark (choose (spellings_of_length n unsupported_words) text) span
    (terminal.Name (record { text = text; span = span })))))))

-- what a symbol is read as among those of this length
abbrev pub symbol_of_length : ℕ → List ℕ → Span → Terminal
symbol_of_length n text span =
    as_terminal terminal.Binary (choose (spellings_of_length n binary_symbols) text) span
    (as_terminal terminal.Prefix (choose (spellings_of_length n prefix_symbols) text) span
    (as_terminal terminal.Mark (choose (spellings_of_length n mark_symbols) text) span
    (as_terminal terminal.Mark (choose (spellings_of_length n unsupported_symbols) text) span
    (terminal.Name (record { text = text; span = span })))))

-- the lengths of reserved words, and of symbols
abbrev pub is_word_length : ℕ → Bool
is_word_length n =
    (n == 1) || ((n == 2) || ((n == 3) || ((n == 4) || ((n == 5) || ((n == 6)
    || ((n == 7) || ((n == 8) || ((n == 9) || ((n == 10) || (n == 12))))))))))

abbrev pub is_symbol_length : ℕ → Bool
is_symbol_length n = (n == 1) || ((n == 2) || (n == 3))
