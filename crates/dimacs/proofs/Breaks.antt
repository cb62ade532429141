-- Where a text breaks the format.
use Rattle.std.proofs.Common.{◌≡◌, ℕ, ◌+◌, ◌-◌, ◌≤◌, List, [], ◌∷◌, ◌++◌, length, take, refl, sym, ap, ◌∙◌, subst, arith, decimal}
use Rattle.std.specs.Prelude.{codes}
use Rattle.std.specs.List.{flat_map}
use Rattle.std.specs.Str.Lines.{lines}
use Rattle.std.proofs.lemmas.List.{append_assoc, append-nil, length-append, take_all}
use Rattle.std.proofs.lemmas.List.Concat.{flat_map-append}
use Rattle.cnf.specs.declared.lit.Lit.{Lit}
use Rattle.dimacs.specs.Dimacs.{told_words, words_between_blanks, words_of_lines, clause_words, header_words, most_of_kind, AreWordsOf, CanGoOn}
use Rattle.dimacs.specs.Dimacs.{BreaksFormatAt}
use Rattle.dimacs.specs.DimacsReading.{BeginsWithLines, IsReadUpTo, GoesOnWith}
use Rattle.dimacs.proofs.ReadingLaws.{up_to}

pub respelled : (ws us : List (List ℕ)) (vars : ℕ) (clauses : List (List Lit)) → ws ≡ us → AreWordsOf ws vars clauses → AreWordsOf us vars clauses
respelled ws us vars clauses e s = record {
  written = sym e ∙ s.written;
  known = s.known;
  vars_most = s.vars_most;
  clauses_most = s.clauses_most;
}

-- no text whose words begin with these stands for clauses
abbrev pub NeverGoesOn : List (List ℕ) → Type 0
NeverGoesOn words = (more : List (List ℕ)) (vars : ℕ) (clauses : List (List Lit)) → AreWordsOf (words ++ more) vars clauses → ⊥

onward : (front more words : List (List ℕ)) (rest : List ℕ) → words_of_lines front ≡ words ++ words_between_blanks rest
    → words_of_lines (front ++ more) ≡ words ++ (words_between_blanks rest ++ words_of_lines more)
onward front more words rest told = flat_map-append told_words front more
    ∙ (ap (λ (ws : List (List ℕ)). ws ++ words_of_lines more) told ∙ append_assoc words (words_between_blanks rest) (words_of_lines more))

-- words that begin those of some clauses, and a front of them
front_can : (words more : List (List ℕ)) → CanGoOn (words ++ more) → CanGoOn words
front_can words more c = (more ++ c.0, c.1, c.2, respelled _ _ c.1 c.2 (append_assoc words more c.0) c.3)

lines_can : (text : List ℕ) (number : ℕ) (words : List (List ℕ)) → BeginsWithLines text number words → CanGoOn words
    → CanGoOn (words_of_lines (take (number - 1) (lines text)))
lines_can text number words b c =
    front_can (words_of_lines (take (number - 1) (lines text))) b.0 (subst CanGoOn b.1 c)

-- the text breaks at the line of a word that may not come here
pub breaks_here : (text : List ℕ) (number : ℕ) (rest behind : List ℕ) (words : List (List ℕ)) (word : List ℕ)
    → CanGoOn words → BeginsWithLines text number words → NeverGoesOn (words ++ word ∷ [])
    → IsReadUpTo text number rest behind (words ++ word ∷ []) → BreaksFormatAt text number
breaks_here text number rest behind words word can begins never r = record {
  none = λ vars clauses s. never (words_between_blanks rest ++ words_of_lines (lines behind)) vars clauses
      (respelled _ _ vars clauses (ap words_of_lines r.parts ∙ onward r.front (lines behind) (words ++ word ∷ []) rest r.told) s);
  before = lines_can text number words begins can;
  here = λ le c. never (words_between_blanks rest ++ c.0) c.1 c.2
      (respelled _ _ c.1 c.2
      (ap (λ (ls : List (List ℕ)). words_of_lines ls ++ c.0) (up_to text number r.front (lines behind) r.parts r.count)
      ∙ (ap (λ (ws : List (List ℕ)). ws ++ c.0) r.told ∙ append_assoc (words ++ word ∷ []) (words_between_blanks rest) c.0)) c.3);
  within = let sizes : length (lines text) ≡ length r.front + length (lines behind) = ap length r.parts ∙ length-append r.front (lines behind) in
      let count : length r.front ≡ number = r.count in omega arith;
}

-- the text ends, and its words stand for no clauses
pub breaks_behind : (text : List ℕ) (number : ℕ) (words : List (List ℕ)) → CanGoOn words
    → (words ≡ words_of_lines (lines text)) × (number ≡ length (lines text))
    → ((vars : ℕ) (clauses : List (List Lit)) → AreWordsOf words vars clauses → ⊥) → BreaksFormatAt text (number + 1)
breaks_behind text number words can all never = record {
  none = λ vars clauses s. never vars clauses (respelled _ _ vars clauses (sym all.0) s);
  before = subst CanGoOn (all.0 ∙ ap words_of_lines (sym (take_all (number + 1 - 1) (lines text) enough))) can;
  here = λ le. let count : number ≡ length (lines text) = all.1 in absurd (omega arith);
  within = let count : number ≡ length (lines text) = all.1 in omega arith;
}
  where
    enough : length (lines text) ≤ number + 1 - 1
    enough = let count : number ≡ length (lines text) = all.1 in omega arith

-- ---- the words before the clauses

pub ends_before : (words : List (List ℕ)) (fits : List ℕ → Type 0) → GoesOnWith words fits
    → (vars : ℕ) (clauses : List (List Lit)) → AreWordsOf words vars clauses → ⊥
ends_before words fits goes vars clauses s =
    let g = goes [] vars clauses (respelled _ _ vars clauses (sym (append-nil words)) s) in
    let e : [] ≡ g.0 ∷ g.1 = g.2 in cc

first_same : (x y : List ℕ) (xs ys : List (List ℕ)) → x ∷ xs ≡ y ∷ ys → x ≡ y
first_same x y xs ys e = cc

rest_same : (x y : List ℕ) (xs ys : List (List ℕ)) → x ∷ xs ≡ y ∷ ys → xs ≡ ys
rest_same x y xs ys e = cc

pub other_word : (words : List (List ℕ)) (word : List ℕ) (fits : List ℕ → Type 0) → (fits word → ⊥) → GoesOnWith words fits
    → NeverGoesOn (words ++ word ∷ [])
other_word words word fits wrong goes more vars clauses s =
    let g = goes (word ∷ more) vars clauses (respelled _ _ vars clauses (append_assoc words (word ∷ []) more) s) in
    wrong (subst fits (sym (first_same word g.0 more g.1 g.2)) g.3)

pub first_p : GoesOnWith [] (λ word. word ≡ codes "p")
first_p more vars clauses s = (codes "p", codes "cnf" ∷ decimal vars ∷ decimal (length clauses) ∷ flat_map clause_words clauses, s.written, refl)

pub then_cnf : GoesOnWith (codes "p" ∷ []) (λ word. word ≡ codes "cnf")
then_cnf more vars clauses s =
    (codes "cnf", decimal vars ∷ decimal (length clauses) ∷ flat_map clause_words clauses, rest_same _ _ _ _ s.written, refl)

pub then_vars : GoesOnWith (codes "p" ∷ codes "cnf" ∷ []) (λ word. (n : ℕ) × (n ≤ most_of_kind) × (word ≡ decimal n))
then_vars more vars clauses s = (
  decimal vars,
  decimal (length clauses) ∷ flat_map clause_words clauses,
  rest_same _ _ _ _ (rest_same _ _ _ _ s.written),
  (vars, s.vars_most, refl),
)

pub then_count : (n : ℕ) → GoesOnWith (codes "p" ∷ codes "cnf" ∷ decimal n ∷ []) (λ word. (m : ℕ) × (m ≤ most_of_kind) × (word ≡ decimal m))
then_count n more vars clauses s = (
  decimal (length clauses),
  flat_map clause_words clauses,
  rest_same _ _ _ _ (rest_same _ _ _ _ (rest_same _ _ _ _ s.written)),
  (length clauses, s.clauses_most, refl),
)

-- no clauses, over so many variables
no_clauses : (vars : ℕ) → vars ≤ most_of_kind → AreWordsOf (header_words vars 0) vars []
no_clauses vars most = record { written = refl; known = λ k d l. absurd (omega arith); vars_most = most; clauses_most = omega arith }

pub can_begin : CanGoOn []
can_begin = (header_words 0 0, 0, [], no_clauses 0 (omega arith))

pub can_after_p : CanGoOn (codes "p" ∷ [])
can_after_p = (codes "cnf" ∷ decimal 0 ∷ decimal 0 ∷ [], 0, [], no_clauses 0 (omega arith))

pub can_after_cnf : CanGoOn (codes "p" ∷ codes "cnf" ∷ [])
can_after_cnf = (decimal 0 ∷ decimal 0 ∷ [], 0, [], no_clauses 0 (omega arith))

pub can_after_vars : (vars : ℕ) → vars ≤ most_of_kind → CanGoOn (codes "p" ∷ codes "cnf" ∷ decimal vars ∷ [])
can_after_vars vars most = (decimal 0 ∷ [], vars, [], no_clauses vars most)
