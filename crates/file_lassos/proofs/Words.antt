-- Names of a text: they can stand in a lasso file, and a name before a dot is told from what stands behind the dot.
use Rattle.std.proofs.Common.{◌≡◌, ◌≢◌, ℕ, true, false, not, ◌||◌, nat_eq, get_or, List, [], ◌∷◌, ◌++◌, refl, sym, ap, subst, ◌∙◌}
use Rattle.std.specs.Prelude.{All, codes}
use Rattle.std.specs.List.{list_all}
use Rattle.std.proofs.lemmas.Bool.{false≢true, eqb-true, false_from_ne_true, and_parts}
use Rattle.std.proofs.lemmas.List.Elements.{All-append}
use Rattle.std.proofs.lemmas.List.Sums.{AllPass-from_list_all}
use Rattle.oss_syntax.specs.Tokens.{is_word_start, is_word_byte, FirstPasses}
use Rattle.oss_printer.proofs.Fits.{IsName}
use Rattle.replay.specs.Laws.{stands_in_names, IsFileName}

abbrev pub AreWordBytes : List ℕ → Type 0
AreWordBytes text = list_all is_word_byte text ≡ true

-- a byte of a word is no byte that is none
other_byte : (byte other : ℕ) → is_word_byte byte ≡ true → is_word_byte other ≡ false → nat_eq byte other ≡ false
other_byte byte other word no_word =
    false_from_ne_true (nat_eq byte other) (λ e. false≢true (sym no_word ∙ (ap is_word_byte (sym (eqb-true byte other e)) ∙ word)))

word_stands : (byte : ℕ) → is_word_byte byte ≡ true → stands_in_names byte ≡ true
word_stands byte word =
    let blank = other_byte byte 32 word refl in
    let tab = other_byte byte 9 word refl in
    let line_feed = other_byte byte 10 word refl in
    let carriage = other_byte byte 13 word refl in
    let equals = other_byte byte 61 word refl in
    λ j. not ((blank j || tab j) || line_feed j || carriage j || equals j)

all_stand : (text : List ℕ) → AreWordBytes text → All (λ byte. stands_in_names byte ≡ true) text
all_stand text bytes k d l = word_stands (get_or text k d) (AllPass-from_list_all is_word_byte text bytes k d l)

dot_stands : All (λ byte. stands_in_names byte ≡ true) (codes ".")
dot_stands = AllPass-from_list_all stands_in_names (codes ".") refl

-- a name stands in front

abbrev HasBytes : List ℕ → Type 0
HasBytes [] = ⊥
HasBytes (byte ∷ rest) = Unit {0}

begun_alone : (text : List ℕ) → FirstPasses is_word_start text → HasBytes text
begun_alone [] begins = absurd begins
begun_alone (byte ∷ text) begins = tt

pub file_name : (text : List ℕ) → IsName text → IsFileName text
file_name text name = (λ e. subst HasBytes e (begun_alone text name.begins), all_stand text name.bytes)

begun_twice : (a b c : List ℕ) → FirstPasses is_word_start a → HasBytes ((a ++ b) ++ c)
begun_twice [] b c begins = absurd begins
begun_twice (byte ∷ a) b c begins = tt

pub dotted_name : (a b : List ℕ) → IsName a → IsName b → IsFileName ((a ++ codes ".") ++ b)
dotted_name a b first second = (
  λ e. subst HasBytes e (begun_twice a (codes ".") b first.begins),
  All-append (λ byte. stands_in_names byte ≡ true) (a ++ codes ".") b
      (All-append (λ byte. stands_in_names byte ≡ true) a (codes ".") (all_stand a first.bytes) dot_stands) (all_stand b second.bytes),
)

-- what has a dot is no name
pub no_dot : (a b : List ℕ) → AreWordBytes ((a ++ codes ".") ++ b) → ⊥
no_dot [] b h = false≢true h
no_dot (byte ∷ a) b h = no_dot a b (and_parts (is_word_byte byte) (list_all is_word_byte ((a ++ codes ".") ++ b)) h).1

abbrev first_or : ℕ → List ℕ → ℕ
first_or d [] = d
first_or d (byte ∷ rest) = byte

abbrev behind : List ℕ → List ℕ
behind [] = []
behind (byte ∷ rest) = rest

first_word : (byte : ℕ) (rest : List ℕ) → AreWordBytes (byte ∷ rest) → byte ≡ 46 → ⊥
first_word byte rest h e =
    false≢true (sym (ap is_word_byte e) ∙ (and_parts (is_word_byte byte) (list_all is_word_byte rest) h).0)

-- names before a dot are told, and what stands behind it
pub cut_at_dot : (a b p q : List ℕ) → AreWordBytes a → AreWordBytes b → (a ++ codes ".") ++ p ≡ (b ++ codes ".") ++ q
    → (a ≡ b) × (p ≡ q)
cut_at_dot [] [] p q h k e = (refl, ap behind e)
cut_at_dot [] (byte ∷ b) p q h k e = absurd (first_word byte b k (sym (ap (first_or 0) e)))
cut_at_dot (byte ∷ a) [] p q h k e = absurd (first_word byte a h (ap (first_or 0) e))
cut_at_dot (byte ∷ a) (other ∷ b) p q h k e =
    let here : byte ≡ other = ap (first_or 0) e in
    let more = cut_at_dot a b p q (and_parts (is_word_byte byte) (list_all is_word_byte a) h).1
    (and_parts (is_word_byte other) (list_all is_word_byte b) k).1 (ap behind e) in
    (λ j. here j ∷ more.0 j, more.1)
