-- How a text is read word by word.
use Rattle.std.proofs.Common.{◌≡◌, ℕ, ◌+◌, ◌-◌, List, [], ◌∷◌, ◌++◌, length, take, refl, sym, ap, ◌∙◌, arith}
use Rattle.std.specs.Str.Lines.{lines}
use Rattle.std.proofs.lemmas.List.{append_assoc, append-nil, length_push}
use Rattle.std.proofs.lemmas.List.Concat.{flat_map-append}
use Rattle.std.proofs.Math.Seq.{take-append_seam}
use Rattle.dimacs.specs.Dimacs.{told_words, words_between_blanks, words_of_lines}
use Rattle.dimacs.specs.DimacsReading.{IsReadUpTo}

pub nothing_read : (text : List ℕ) → IsReadUpTo text 0 [] text []
nothing_read text = record { front = []; parts = refl; count = refl; told = refl; before = ([], refl) }

-- one more word of the line
pub one_more_word : (text : List ℕ) (number : ℕ) (rest behind word after : List ℕ) (words : List (List ℕ))
    → words_between_blanks rest ≡ word ∷ words_between_blanks after
    → IsReadUpTo text number rest behind words → IsReadUpTo text number after behind (words ++ word ∷ [])
one_more_word text number rest behind word after words e r = record {
  front = r.front;
  parts = r.parts;
  count = r.count;
  told = r.told ∙ (ap (λ (ws : List (List ℕ)). words ++ ws) e ∙ sym (append_assoc words (word ∷ []) (words_between_blanks after)));
  before = (
    r.before.0 ++ word ∷ [],
    ap (λ (ws : List (List ℕ)). ws ++ word ∷ []) r.before.1
        ∙ append_assoc (words_of_lines (take (number - 1) (lines text))) r.before.0 (word ∷ []),
  );
}

pub up_to : (text : List ℕ) (number : ℕ) (front back : List (List ℕ)) → lines text ≡ front ++ back → length front ≡ number
    → take number (lines text) ≡ front
up_to text number front back parts count =
    ap (take number) parts ∙ (ap (λ (n : ℕ). take n (front ++ back)) (sym count) ∙ take-append_seam front back)

no_more : (words : List (List ℕ)) (rest : List ℕ) → words_between_blanks rest ≡ [] → words ++ words_between_blanks rest ≡ words
no_more words rest none = ap (λ (ws : List (List ℕ)). words ++ ws) none ∙ append-nil words

-- the next line, where no word is left of this one
pub next_line_read : (text : List ℕ) (number : ℕ) (rest behind line after part : List ℕ) (words : List (List ℕ))
    → words_between_blanks rest ≡ [] → lines behind ≡ line ∷ lines after → words_between_blanks part ≡ told_words line
    → IsReadUpTo text number rest behind words → IsReadUpTo text (number + 1) part after words
next_line_read text number rest behind line after part words none cut told r = record {
  front = r.front ++ line ∷ [];
  parts = r.parts ∙ (ap (λ (ls : List (List ℕ)). r.front ++ ls) cut ∙ sym (append_assoc r.front (line ∷ []) (lines after)));
  count = length_push r.front line ∙ ap (λ (n : ℕ). n + 1) r.count;
  told = flat_map-append told_words r.front (line ∷ [])
      ∙ (ap (λ (ws : List (List ℕ)). ws ++ (told_words line ++ [])) (r.told ∙ no_more words rest none)
      ∙ ap (λ (ws : List (List ℕ)). words ++ ws) (append-nil (told_words line) ∙ sym told));
  before = (
    [],
    sym (append-nil (words_of_lines (take (number + 1 - 1) (lines text))) ∙ (ap (λ (n : ℕ). words_of_lines (take n (lines text))) one_less
        ∙ (ap words_of_lines (up_to text number r.front (lines behind) r.parts r.count) ∙ (r.told ∙ no_more words rest none)))),
  );
}
  where
    one_less : number + 1 - 1 ≡ number
    one_less = omega arith

-- nothing is left
pub all_read : (text : List ℕ) (number : ℕ) (rest behind : List ℕ) (words : List (List ℕ))
    → words_between_blanks rest ≡ [] → behind ≡ [] → IsReadUpTo text number rest behind words
    → (words ≡ words_of_lines (lines text)) × (number ≡ length (lines text))
all_read text number rest behind words none empty r =
    let whole : lines text ≡ r.front = r.parts ∙ (ap (λ (b : List ℕ). r.front ++ lines b) empty ∙ append-nil r.front) in
    (sym (ap words_of_lines whole ∙ (r.told ∙ no_more words rest none)), sym r.count ∙ ap length (sym whole))
