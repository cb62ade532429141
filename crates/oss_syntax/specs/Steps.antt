-- The steps by which a rule of the grammar is told, in the order of its right side, as in Wirth's extended Backus-Naur
-- form: each says how the terminals begin, and hands what is left to the next.
use Rattle.std.specs.Prelude.{◌≡◌, List, [], ◌∷◌}
use Rattle.oss_base.specs.declared.place.Span.{Span}
use Rattle.oss_syntax.specs.declared.words.Word.{Word}
use Rattle.oss_syntax.specs.declared.terminal.Mark.{Mark}
use Rattle.oss_syntax.specs.Alphabet.{Terminal}
use Rattle.oss_syntax.specs.Alphabet as terminal

-- a reserved word or symbol, then what `Next` says
pub record Mark_then (mark : Mark) (Next : List Terminal → Type 0) (ts : List Terminal) : Type 0 where
  pub span : Span
  pub left : List Terminal
  pub begins : ts ≡ terminal.Mark mark span ∷ left
  pub next : Next left

-- a name, then what `Next` says
pub record Name_then (word : Word) (Next : List Terminal → Type 0) (ts : List Terminal) : Type 0 where
  pub left : List Terminal
  pub begins : ts ≡ terminal.Name word ∷ left
  pub next : Next left

-- A phrase of a kind that `R` describes, then what `Next` says. `R` relates terminals, the phrase that
-- they begin with, and what is left after it.
pub record Phrase_then {A : Type 0} (R : List Terminal → A → List Terminal → Type 0) (phrase : A)
    (Next : List Terminal → Type 0) (ts : List Terminal) : Type 0 where
  pub left : List Terminal
  pub holds : R ts phrase left
  pub next : Next left

-- nothing more: what is left is `rest`
abbrev pub RestIs : List Terminal → List Terminal → Type 0
RestIs rest left = left ≡ rest

-- any number of phrases, one after another
abbrev pub Many : {A : Type 0} → (List Terminal → A → List Terminal → Type 0)
    → List Terminal → List A → List Terminal → Type 0
Many R ts [] rest = ts ≡ rest
Many R ts (phrase ∷ phrases) rest = (left : List Terminal) × R ts phrase left × Many R left phrases rest
