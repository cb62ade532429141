-- Sets of pairs of names (serves proofs only).
use Rattle.std.specs.Prelude.{◌≡◌, ℕ, Bool, ◌&&◌, ◌||◌, List, bytes_eq, String, string_bytes}
use Rattle.std.specs.List.{list_any}
use Rattle.oss_syntax.specs.declared.words.Word.{Word}
use Rattle.spec_names.specs.NamesFaults.{same_dotted}

abbrev pub same_texts : List ℕ × List ℕ → List ℕ × List ℕ → Bool
same_texts a b = bytes_eq a.0 b.0 && bytes_eq a.1 b.1

abbrev pub has_texts : List (List ℕ × List ℕ) → List ℕ × List ℕ → Bool
has_texts pairs pair = list_any (same_texts pair) pairs

abbrev pub pair_bytes : {A : Type 0} → String A × String A → List ℕ × List ℕ
pair_bytes pair = (string_bytes pair.0, string_bytes pair.1)

-- the new set has this pair too, and no other
abbrev pub HasOneMore : List (List ℕ × List ℕ) → List (List ℕ × List ℕ) → List ℕ × List ℕ → Type 0
HasOneMore old new pair = (q : List ℕ × List ℕ) → has_texts new q ≡ (has_texts old q || same_texts q pair)

-- the set has the texts of these pairs of words, and no other
abbrev pub HasAllOf : List (Word × Word) → List (List ℕ × List ℕ) → Type 0
HasAllOf pairs set = (pair : Word × Word) → has_texts set (pair.0.text, pair.1.text) ≡ list_any (same_dotted pair) pairs
