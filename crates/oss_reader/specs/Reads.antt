-- What the functions of the reader answer. This file serves proofs only: no public contract cites it.
use Rattle.std.specs.Prelude.{◌≡◌, ℕ, ◌<◌, ◌≤◌, List, [], ◌∷◌, ◌++◌, Result, Ok, Err, Option, Some, None}
use Rattle.std.specs.Borrow.{Bor}
use Rattle.oss_base.specs.declared.place.Span.{Span}
use Rattle.oss_syntax.specs.declared.words.Word.{Word}
use Rattle.oss_syntax.specs.declared.expression.PrefixWord.{PrefixWord}
use Rattle.oss_syntax.specs.declared.expression.BinaryWord.TheVariants as binary
use Rattle.oss_syntax.specs.declared.expression.Role.{Role}
use Rattle.oss_syntax.specs.declared.terminal.Mark.{Mark}
use Rattle.oss_syntax.specs.declared.terminal.Mark.TheVariants as mark
use Rattle.oss_syntax.specs.Alphabet.{Terminal}
use Rattle.oss_syntax.specs.Alphabet as terminal
use Rattle.oss_syntax.specs.Formulas.{SpellsPrefix}
use Rattle.oss_syntax.specs.Steps.{Many}
use Rattle.oss_syntax.specs.Expressions.{Tree, tree, height}
use Rattle.oss_reader.specs.declared.halt.Halt.{Halt}
use Rattle.oss_reader.specs.declared.halt.Halt.TheVariants as halts
use Rattle.oss_reader.specs.declared.measured.MeasuredExpr.{MeasuredExpr}
use Rattle.oss_reader.specs.declared.cursor.Next.{Next}
use Rattle.oss_reader.specs.declared.cursor.Next.TheVariants as next
use Rattle.oss_reader.specs.declared.cursor.Start.{Start}
use Rattle.oss_reader.specs.declared.cursor.Start.TheVariants as start
use Rattle.oss_reader.specs.declared.expressions.Step.{Step}
use Rattle.oss_reader.specs.declared.expressions.Step.TheVariants as step
use Rattle.oss_reader.specs.declared.lead.Lead.{Lead}
use Rattle.oss_reader.specs.declared.rest.Rest.{Rest}
use Rattle.oss_reader.specs.Leads.{lead_terminal}
use Rattle.oss_reader.specs.Ahead.{ahead}
use Rattle.oss_reader.specs.Phrases.{EndsAtLevel, OnlyPhrase, NoPhrase, PhrasesGoOnFrom, prefix_of}

-- a fact where the reading halted for another cause than want of memory
abbrev pub OnBroken : Halt → Type 0 → Type 0
OnBroken (halts.Broken _) P = P
OnBroken halts.NoMemory P = Unit {0}

-- a phrase of a kind, and the only one
pub record Sole {A : Type 0} (R : List Terminal → A → List Terminal → Type 0) (ts : List Terminal) (phrase : A)
    (rest : List Terminal) : Type 0 where
  pub holds : R ts phrase rest
  pub only : (other : A) (left : List Terminal) → R ts other left → (other ≡ phrase) × (left ≡ rest)

-- no phrase of a kind
abbrev pub Nothing : {A : Type 0} → (List Terminal → A → List Terminal → Type 0) → List Terminal → Type 0
Nothing R ts = (phrase : _) (rest : List Terminal) → R ts phrase rest → ⊥

-- the terminals begin with this mark, or do not
pub record IsMark (wanted : Mark) (ts left : List Terminal) : Type 0 where
  pub span : Span
  pub begins : ts ≡ terminal.Mark wanted span ∷ left

abbrev pub NoMark : Mark → List Terminal → Type 0
NoMark wanted ts = (span : Span) (left : List Terminal) → ts ≡ terminal.Mark wanted span ∷ left → ⊥

abbrev pub NoName : List Terminal → Type 0
NoName ts = (word : Word) (left : List Terminal) → ts ≡ terminal.Name word ∷ left → ⊥

-- the terminals begin with a name of this text, or do not
abbrev pub IsNamed : List ℕ → List Terminal → List Terminal → Type 0
IsNamed text ts left = (span : Span) × (ts ≡ terminal.Name (record { text = text; span = span }) ∷ left)

abbrev pub NotNamed : List ℕ → List Terminal → Type 0
NotNamed text ts =
    (span : Span) (left : List Terminal) → ts ≡ terminal.Name (record { text = text; span = span }) ∷ left → ⊥

-- what follows an operand: an operator, a dot, or something at which each expression may end
abbrev pub FollowsOperand : List Terminal → Next → Type 0
FollowsOperand ts (next.Operator word span more) = ts ≡ terminal.Binary word span ∷ ahead more
FollowsOperand ts next.Dot = (span : Span) × (more : List Terminal) × (ts ≡ terminal.Mark mark.Dot span ∷ more)
FollowsOperand ts next.Other = (k : ℕ) → EndsAtLevel k ts

-- how an operand begins
abbrev pub IsStart : List Terminal → Start → Type 0
IsStart ts (start.Name text span more) = ts ≡ terminal.Name (record { text = text.now; span = span }) ∷ ahead more
IsStart ts (start.Numeral value span more) = ts ≡ terminal.Numeral value span ∷ ahead more
IsStart ts (start.Truth truth span more) = ts ≡ terminal.Truth truth span ∷ ahead more
IsStart ts (start.OfPort word span more) = ts ≡ terminal.OfPort word span ∷ ahead more
IsStart ts (start.Open span more) = ts ≡ terminal.Mark mark.Open span ∷ ahead more
IsStart ts (start.Prefix word span) =
    (first : Terminal) × (more : List Terminal) × (ts ≡ first ∷ more) × (prefix_of first ≡ Some (word, span))
IsStart ts start.None = (role : Role) (room k : ℕ) → NoPhrase role room k ts

-- a part that is read so far, or nothing
abbrev pub ReadsBegin : Role → ℕ → ℕ → List Terminal → Result (MeasuredExpr × Rest) Halt → Type 0
ReadsBegin role room k ts (Ok found) = PhrasesGoOnFrom role room k ts (tree found.0.expr) (ahead found.1)
ReadsBegin role room k ts (Err halt) = OnBroken halt (NoPhrase role room k ts)

-- the only expression, or nothing
abbrev pub ReadsPhrase : Role → ℕ → ℕ → List Terminal → Result (MeasuredExpr × Rest) Halt → Type 0
ReadsPhrase role room k ts (Ok found) = OnlyPhrase role room k ts (tree found.0.expr) (ahead found.1)
ReadsPhrase role room k ts (Err halt) = OnBroken halt (NoPhrase role room k ts)

-- one operator and its right operand more, or the end of the expression
abbrev pub ReadsStep : Role → ℕ → ℕ → Tree → List Terminal → Result Step Halt → Type 0
ReadsStep role room k left rest (Ok (step.More part after)) =
    (height left < height (tree part.expr)) × (height (tree part.expr) ≤ room)
    × ((ts : List Terminal) → PhrasesGoOnFrom role room k ts left rest
    → PhrasesGoOnFrom role room k ts (tree part.expr) (ahead after))
ReadsStep role room k left rest (Ok (step.Done part after)) =
    (ts : List Terminal) → PhrasesGoOnFrom role room k ts left rest
    → OnlyPhrase role room k ts (tree part.expr) (ahead after)
ReadsStep role room k left rest (Err halt) =
    OnBroken halt ((ts : List Terminal) → PhrasesGoOnFrom role room k ts left rest → NoPhrase role room k ts)

-- a phrase of a kind after which `Stop` holds, and the only one
pub record SoleUntil {A : Type 0} (R : List Terminal → A → List Terminal → Type 0) (Stop : List Terminal → Type 0)
    (ts : List Terminal) (phrase : A) (rest : List Terminal) : Type 0 where
  pub holds : R ts phrase rest
  pub stops : Stop rest
  pub only : (other : A) (left : List Terminal) → R ts other left → Stop left → (other ≡ phrase) × (left ≡ rest)

-- no phrase of a kind after which `Stop` holds
abbrev pub NothingUntil : {A : Type 0} → (List Terminal → A → List Terminal → Type 0) → (List Terminal → Type 0)
    → List Terminal → Type 0
NothingUntil R Stop ts = (phrase : _) (rest : List Terminal) → R ts phrase rest → Stop rest → ⊥

-- phrases of a list that are read so far: each list that ends where `Stop` holds goes on from them
pub record ListsGoOnFrom {A : Type 0} (R : List Terminal → A → List Terminal → Type 0) (Stop : List Terminal → Type 0)
    (ts : List Terminal) (read : List A) (mid : List Terminal) : Type 0 where
  pub holds : Many R ts read mid
  pub all : (phrases : List A) (rest : List Terminal) → Many R ts phrases rest → Stop rest
      → (more : List A) × (phrases ≡ read ++ more) × Many R mid more rest

abbrev pub NoNumeral : List Terminal → Type 0
NoNumeral ts = (value : ℕ) (span : Span) (left : List Terminal) → ts ≡ terminal.Numeral value span ∷ left → ⊥

-- the terminals begin with a minus, or do not
abbrev pub IsMinus : Span → List Terminal → List Terminal → Type 0
IsMinus span ts left = ts ≡ terminal.Binary binary.Minus span ∷ left

abbrev pub NoMinus : List Terminal → Type 0
NoMinus ts = (span : Span) (left : List Terminal) → ts ≡ terminal.Binary binary.Minus span ∷ left → ⊥

abbrev pub IsAfterMinus : List Terminal → List Terminal → Type 0
IsAfterMinus ts left = (span : Span) × IsMinus span ts left

-- What the reading functions answer, each by cases: what was found and what is left after it, or that it is not there.

-- the first terminal
abbrev pub FindsFirst : List Terminal → Option (Lead × Rest) → Type 0
FindsFirst ts (Some found) = ts ≡ lead_terminal found.0 ∷ ahead found.1
FindsFirst ts None = ts ≡ []

-- a mark at the front, with its span, or without
abbrev pub FindsMark : Mark → List Terminal → Option (Span × Rest) → Type 0
FindsMark wanted ts (Some found) = ts ≡ terminal.Mark wanted found.0 ∷ ahead found.1
FindsMark wanted ts None = NoMark wanted ts

abbrev pub PassesMark : Mark → List Terminal → Option Rest → Type 0
PassesMark wanted ts (Some left) = IsMark wanted ts (ahead left)
PassesMark wanted ts None = NoMark wanted ts

-- a name at the front
abbrev pub FindsName : List Terminal → Option (Bor (List ℕ) × Span × Rest) → Type 0
FindsName ts (Some found) = ts ≡ terminal.Name (record { text = found.0.now; span = found.1 }) ∷ ahead found.2
FindsName ts None = NoName ts

-- a minus at the front
abbrev pub FindsMinus : List Terminal → Option (Span × Rest) → Type 0
FindsMinus ts (Some found) = IsMinus found.0 ts (ahead found.1)
FindsMinus ts None = NoMinus ts

-- the same where it is wanted
abbrev pub ReadsMark : Mark → List Terminal → Result Rest Halt → Type 0
ReadsMark wanted ts (Ok left) = IsMark wanted ts (ahead left)
ReadsMark wanted ts (Err halt) = OnBroken halt (NoMark wanted ts)

abbrev pub ReadsName : List Terminal → Result (Word × Rest) Halt → Type 0
ReadsName ts (Ok found) = ts ≡ terminal.Name found.0 ∷ ahead found.1
ReadsName ts (Err halt) = OnBroken halt (NoName ts)

abbrev pub ReadsNamed : List ℕ → List Terminal → Result Rest Halt → Type 0
ReadsNamed text ts (Ok left) = IsNamed text ts (ahead left)
ReadsNamed text ts (Err halt) = OnBroken halt (NotNamed text ts)

abbrev pub ReadsNumeral : List Terminal → Result (ℕ × Span × Rest) Halt → Type 0
ReadsNumeral ts (Ok found) = ts ≡ terminal.Numeral found.0 found.1 ∷ ahead found.2
ReadsNumeral ts (Err halt) = OnBroken halt (NoNumeral ts)

abbrev pub ReadsMinus : List Terminal → Result Rest Halt → Type 0
ReadsMinus ts (Ok left) = IsAfterMinus ts (ahead left)
ReadsMinus ts (Err halt) = OnBroken halt (NoMinus ts)

abbrev pub ReadsPrefix : PrefixWord → Span → List Terminal → Result Rest Halt → Type 0
ReadsPrefix word span ts (Ok left) = SpellsPrefix ts word span (ahead left)
ReadsPrefix word span ts (Err halt) = OnBroken halt ((left : List Terminal) → SpellsPrefix ts word span left → ⊥)

-- the only phrase of a kind, seen as `view` says
abbrev pub ReadsAs : {A X : Type 0} → (X → A) → (List Terminal → A → List Terminal → Type 0)
    → List Terminal → Result (X × Rest) Halt → Type 0
ReadsAs view R ts (Ok found) = Sole R ts (view found.0) (ahead found.1)
ReadsAs view R ts (Err halt) = OnBroken halt (Nothing R ts)

-- and seen as it is
abbrev pub Reads : {A : Type 0} → (List Terminal → A → List Terminal → Type 0)
    → List Terminal → Result (A × Rest) Halt → Type 0
Reads R ts (Ok found) = Sole R ts found.0 (ahead found.1)
Reads R ts (Err halt) = OnBroken halt (Nothing R ts)

-- the only phrase of a kind after which `Stop` holds
abbrev pub ReadsUntil : {A X : Type 0} → (X → A) → (List Terminal → A → List Terminal → Type 0)
    → (List Terminal → Type 0) → List Terminal → Result (X × Rest) Halt → Type 0
ReadsUntil view R Stop ts (Ok found) = SoleUntil R Stop ts (view found.0) (ahead found.1)
ReadsUntil view R Stop ts (Err halt) = OnBroken halt (NothingUntil R Stop ts)
