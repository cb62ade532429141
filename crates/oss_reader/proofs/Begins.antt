use Rattle.std.proofs.Common.{◌≡◌, ℕ, List, [], ◌∷◌, length, Some, None, Result, Ok, Err, refl, sym, ap, subst, inl, inr, arith, codes, ◌∙◌}
use Rattle.std.specs.Result.{IsErrAnd}
use Rattle.oss_base.specs.declared.place.Span.{Span}
use Rattle.oss_syntax.specs.declared.expression.PrefixWord.{PrefixWord}
use Rattle.oss_syntax.specs.declared.expression.PrefixWord.TheVariants as prefix
use Rattle.oss_syntax.specs.declared.expression.BinaryWord.{BinaryWord}
use Rattle.oss_syntax.specs.declared.expression.BinaryWord.TheVariants as binary
use Rattle.oss_syntax.specs.declared.expression.Role.{Role}
use Rattle.oss_syntax.specs.declared.terminal.Mark.{Mark}
use Rattle.oss_syntax.specs.declared.terminal.Mark.TheVariants as mark
use Rattle.oss_syntax.specs.Alphabet.{Terminal}
use Rattle.oss_syntax.specs.Alphabet as terminal
use Rattle.oss_syntax.specs.Expressions.{Tree}
use Rattle.oss_syntax.specs.Formulas.{SpellsPrefix, InTheFuture}
use Rattle.oss_reader.specs.declared.halt.Halt.{Halt}
use Rattle.oss_reader.specs.declared.rest.Rest.{Rest}
use Rattle.oss_reader.specs.declared.measured.MeasuredExpr.{MeasuredExpr}
use Rattle.oss_reader.specs.declared.expressions.Step.{Step}
use Rattle.oss_reader.specs.Phrases.{PhrasesGoOnFrom, NoPhrase, prefix_of}
use Rattle.oss_reader.specs.Reads.{OnBroken, ReadsBegin, ReadsStep, NoMark, NoMinus, IsNamed, NotNamed}
use Rattle.oss_reader.proofs.Operands.{never_at}
use Rattle.oss_reader.proofs.Sequences.{on_broken}

pub nil_of : (ts : List Terminal) → length ts ≡ 0 → ts ≡ []
nil_of [] e = refl
nil_of (t ∷ ts) e = absurd (omega arith)

binary_prefix : (word : BinaryWord) (span : Span) → (word ≡ binary.Minus → ⊥)
    → prefix_of (terminal.Binary word span) ≡ None
binary_prefix binary.Plus span apart = refl
binary_prefix binary.Minus span apart = absurd (apart refl)
binary_prefix binary.Equal span apart = refl
binary_prefix binary.NotEqual span apart = refl
binary_prefix binary.Less span apart = refl
binary_prefix binary.AtMost span apart = refl
binary_prefix binary.Greater span apart = refl
binary_prefix binary.AtLeast span apart = refl
binary_prefix binary.Until span apart = refl
binary_prefix binary.Releases span apart = refl
binary_prefix binary.And span apart = refl
binary_prefix binary.Or span apart = refl
binary_prefix binary.Implies span apart = refl
binary_prefix binary.Iff span apart = refl

mark_prefix : (m : Mark) (span : Span) → (m ≡ mark.In → ⊥) → prefix_of (terminal.Mark m span) ≡ None
mark_prefix mark.Component span apart = refl
mark_prefix mark.System span apart = refl
mark_prefix mark.Interface span apart = refl
mark_prefix mark.Input span apart = refl
mark_prefix mark.Output span apart = refl
mark_prefix mark.Port span apart = refl
mark_prefix mark.Contract span apart = refl
mark_prefix mark.Assume span apart = refl
mark_prefix mark.Guarantee span apart = refl
mark_prefix mark.Refinement span apart = refl
mark_prefix mark.Sub span apart = refl
mark_prefix mark.Connection span apart = refl
mark_prefix mark.RefinedBy span apart = refl
mark_prefix mark.Boolean span apart = refl
mark_prefix mark.Event span apart = refl
mark_prefix mark.In span apart = absurd (apart refl)
mark_prefix mark.Assign span apart = refl
mark_prefix mark.Colon span apart = refl
mark_prefix mark.Semicolon span apart = refl
mark_prefix mark.Comma span apart = refl
mark_prefix mark.Range span apart = refl
mark_prefix mark.Dot span apart = refl
mark_prefix mark.Open span apart = refl
mark_prefix mark.Close span apart = refl
mark_prefix mark.OpenBrace span apart = refl
mark_prefix mark.CloseBrace span apart = refl
mark_prefix mark.At span apart = refl
mark_prefix mark.UnsupportedType span apart = refl
mark_prefix mark.UnsupportedConstruct span apart = refl

-- an operator that is no minus begins no operand
pub never_binary : (role : Role) (room k : ℕ) (ts : List Terminal) (word : BinaryWord) (span : Span)
    (more : List Terminal)
    → ts ≡ terminal.Binary word span ∷ more → (word ≡ binary.Minus → ⊥) → NoPhrase role room k ts
never_binary role room k ts word span more e none =
    never_at role room k ts (terminal.Binary word span) more e (λ h. h) (binary_prefix word span none)

-- nor does a mark that is no opening bracket and no `in`
pub never_mark : (role : Role) (room k : ℕ) (ts : List Terminal) (m : Mark) (span : Span) (more : List Terminal)
    → ts ≡ terminal.Mark m span ∷ more → (m ≡ mark.Open → ⊥) → (m ≡ mark.In → ⊥) → NoPhrase role room k ts
never_mark role room k ts m span more e opened within =
    never_at role room k ts (terminal.Mark m span) more e opened (mark_prefix m span within)

-- what a halt says, where it is handed on
pub begin_halted : (role : Role) (room k : ℕ) (ts : List Terminal) (r : Result (MeasuredExpr × Rest) Halt)
    (halt : Halt) (P : Type 0)
    → IsErrAnd r (λ y. y ≡ halt) → OnBroken halt P → (P → NoPhrase role room k ts) → ReadsBegin role room k ts r
begin_halted role room k ts (Ok found) halt P is p f = absurd is
begin_halted role room k ts (Err other) halt P is p f =
    subst (λ (x : Halt). OnBroken x (NoPhrase role room k ts)) (sym is) (on_broken halt P (NoPhrase role room k ts) f p)

some_pair : (a b : PrefixWord × Span) → Some a ≡ Some b → a ≡ b
some_pair a b e = cc

-- the word `in` begins `in the future`
pub in_word : (ts : List Terminal) (first : Terminal) (more : List Terminal) (word : PrefixWord) (span within : Span)
    (mid : List Terminal)
    → ts ≡ first ∷ more → prefix_of first ≡ Some (word, span) → ts ≡ terminal.Mark mark.In within ∷ mid
    → (word ≡ prefix.Future) × (span ≡ within)
in_word ts first more word span within mid e found i =
    let same : first ≡ terminal.Mark mark.In within = cc in
    let other = ap prefix_of same in
    let pair : (word, span) ≡ (prefix.Future, within) = some_pair (word, span) (prefix.Future, within) (sym found ∙ other) in
    (ap (λ (x : PrefixWord × Span). x.0) pair, ap (λ (x : PrefixWord × Span). x.1) pair)

pub after_in : (ts : List Terminal) (first : Terminal) (more : List Terminal) (word : PrefixWord) (span within : Span)
    (mid a left : List Terminal)
    → ts ≡ first ∷ more → prefix_of first ≡ Some (word, span) → ts ≡ terminal.Mark mark.In within ∷ mid
    → IsNamed (codes "the") mid a → IsNamed (codes "future") a left → SpellsPrefix ts word span left
after_in ts first more word span within mid a left e found i t f =
    let same = in_word ts first more word span within mid e found i in
    let g = t.1 in
    let h = f.1 in
    let there : InTheFuture ts within left = (t.0, f.0, cc) in
    let spelled : SpellsPrefix ts prefix.Future within left = inr there in
    subst (λ (x : PrefixWord). SpellsPrefix ts x span left) (sym same.0) (subst (λ (x : Span). SpellsPrefix ts prefix.Future x left) (sym same.1) spelled)

in_the_future : (ts : List Terminal) (first : Terminal) (more : List Terminal) (word : PrefixWord)
    (span within : Span) (mid left : List Terminal)
    → ts ≡ first ∷ more → prefix_of first ≡ Some (word, span) → ts ≡ terminal.Mark mark.In within ∷ mid
    → SpellsPrefix ts word span left → InTheFuture ts within left
in_the_future ts first more word span within mid left e found i s =
    let same = in_word ts first more word span within mid e found i in
    let one = subst (λ (x : PrefixWord). SpellsPrefix ts x span left) same.0 s in
    let two = subst (λ (x : Span). SpellsPrefix ts prefix.Future x left) same.1 one in
    elim two [ inl p ↦ absurd (cc) | inr q ↦ q ]

pub not_the : (ts : List Terminal) (first : Terminal) (more : List Terminal) (word : PrefixWord) (span within : Span)
    (mid : List Terminal)
    → ts ≡ first ∷ more → prefix_of first ≡ Some (word, span) → ts ≡ terminal.Mark mark.In within ∷ mid
    → NotNamed (codes "the") mid
    → (left : List Terminal) → SpellsPrefix ts word span left → ⊥
not_the ts first more word span within mid e found i none left s =
    let f = in_the_future ts first more word span within mid left e found i s in
    let g = f.2 in
    none f.0 (terminal.Name (record { text = codes "future"; span = f.1 }) ∷ left) cc

pub not_future : (ts : List Terminal) (first : Terminal) (more : List Terminal) (word : PrefixWord)
    (span within : Span) (mid a : List Terminal)
    → ts ≡ first ∷ more → prefix_of first ≡ Some (word, span) → ts ≡ terminal.Mark mark.In within ∷ mid
    → IsNamed (codes "the") mid a → NotNamed (codes "future") a
    → (left : List Terminal) → SpellsPrefix ts word span left → ⊥
not_future ts first more word span within mid a e found i t none left s =
    let f = in_the_future ts first more word span within mid left e found i s in
    let g = f.2 in
    let h = t.1 in
    none f.1 left cc

pub step_halted : (role : Role) (room k : ℕ) (left : Tree) (rest : List Terminal) (r : Result Step Halt) (halt : Halt)
    (P : Type 0)
    → IsErrAnd r (λ y. y ≡ halt) → OnBroken halt P
    → (P → (ts : List Terminal) → PhrasesGoOnFrom role room k ts left rest → NoPhrase role room k ts)
    → ReadsStep role room k left rest r
step_halted role room k left rest (Ok found) halt P is p f = absurd is
step_halted role room k left rest (Err other) halt P is p f =
    subst (λ (x : Halt). OnBroken x ((ts : List Terminal) → PhrasesGoOnFrom role room k ts left rest → NoPhrase role room k ts)) (sym is)
    (on_broken halt P ((ts : List Terminal) → PhrasesGoOnFrom role room k ts left rest → NoPhrase role room k ts) f p)
