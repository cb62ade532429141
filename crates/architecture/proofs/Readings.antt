-- Which ports a typed expression reads: those that its names mean.
use Rattle.std.proofs.Common.{◌≡◌, ℕ, ◌<◌, Bool, true, false, List, Option, Some, None, refl}
use Rattle.oss_syntax.specs.Expressions.{Tree, Name, Dotted, Numeral, Truth, Brackets, OfPort, Prefix, Binary}
use Rattle.oss_syntax.specs.declared.expression.BinaryWord.{BinaryWord}
use Rattle.oss_syntax.specs.declared.expression.BinaryWord.TheVariants as binary
use Rattle.oss_syntax.specs.declared.expression.PortWord.{PortWord}
use Rattle.oss_syntax.specs.declared.expression.PortWord.TheVariants as port_word
use Rattle.oss_syntax.specs.declared.expression.PrefixWord.{PrefixWord}
use Rattle.oss_syntax.specs.declared.expression.PrefixWord.TheVariants as prefix
use Rattle.port_types.specs.declared.types.PortType.{PortType}
use Rattle.port_types.specs.declared.types.PortType.TheVariants as kind
use Rattle.spec_model.specs.Expressions.{NumberReadsBelow, ChoiceReadsBelow, ReadsBelow}
use Rattle.spec_types.specs.Typing.{PortReading, ExpressionReading, Typed, Formula, Term, Pick, formula_in, number_in, port_as, read_port, read_name}
use Rattle.spec_types.specs.Typing.{equality, at_most, of_port, of_wanted, typed_prefix, typed_binary, truth_word, typed_of}

-- a typed expression reads ports below n
abbrev pub TypedReadsBelow : ℕ → Typed → Type 0
TypedReadsBelow n (Formula f) = ReadsBelow n f
TypedReadsBelow n (Term t values) = NumberReadsBelow n t
TypedReadsBelow n (Pick p names) = ChoiceReadsBelow n p

-- what the names mean are ports of which this is so
pub record MeansOnly (Holds : PortReading → Type 0) (reading : ExpressionReading) : Type 0 where
  pub bare : (text : List ℕ) (p : PortReading) → reading.bare text ≡ Some p → Holds p
  pub dotted : (sub port : List ℕ) (p : PortReading) → reading.dotted sub port ≡ Some p → Holds p
  pub wanted : (text : List ℕ) (p : PortReading) → reading.wanted text ≡ Some p → Holds p

-- what the names mean are ports below n
abbrev pub IsBelow : ℕ → ExpressionReading → Type 0
IsBelow n reading = MeansOnly (λ (p : PortReading). p.number < n) reading

module _ (n : ℕ) where
  pub formula_reads : (t : Typed) → TypedReadsBelow n t → ReadsBelow n (formula_in t)
  formula_reads (Formula f) h = h
  formula_reads (Term t values) h = tt
  formula_reads (Pick p names) h = tt

  number_reads : (t : Typed) → TypedReadsBelow n t → NumberReadsBelow n (number_in t)
  number_reads (Formula f) h = tt
  number_reads (Term t values) h = h
  number_reads (Pick p names) h = tt

  equality_reads : (a b : Typed) → TypedReadsBelow n a → TypedReadsBelow n b → ReadsBelow n (equality a b)
  equality_reads (Formula f) (Formula g) h k = (h, k)
  equality_reads (Formula f) (Term b others) h k = tt
  equality_reads (Formula f) (Pick q others) h k = tt
  equality_reads (Term a values) (Formula g) h k = tt
  equality_reads (Term a values) (Term b others) h k = (h, k)
  equality_reads (Term a values) (Pick q others) h k = tt
  equality_reads (Pick p names) (Formula g) h k = tt
  equality_reads (Pick p names) (Term b others) h k = tt
  equality_reads (Pick p names) (Pick q others) h k = (h, k)

  at_most_reads : (a b : Typed) → TypedReadsBelow n a → TypedReadsBelow n b → ReadsBelow n (at_most a b)
  at_most_reads a b h k = (number_reads a h, number_reads b k)

  port_reads : (number : ℕ) (next : Bool) (type : PortType) → number < n → TypedReadsBelow n (port_as number next type)
  port_reads number next kind.Bool l = l
  port_reads number next (kind.Range lo hi) l = l
  port_reads number next (kind.Enum names) l = l

  of_port_reads : (word : PortWord) (p : PortReading) → p.number < n → TypedReadsBelow n (of_port word p)
  of_port_reads port_word.Next p l = port_reads p.number true p.kind l
  of_port_reads port_word.Change p l =
      equality_reads (read_port true p) (read_port false p) (port_reads p.number true p.kind l) (port_reads p.number false p.kind l)
  of_port_reads port_word.Rise p l = (l, l)
  of_port_reads port_word.Fall p l = (l, l)

  name_reads : (text : List ℕ) (o : Option PortReading) → ((p : PortReading) → o ≡ Some p → p.number < n)
      → TypedReadsBelow n (read_name text o)
  name_reads text None below = tt
  name_reads text (Some p) below = port_reads p.number false p.kind (below p refl)

  wanted_reads : (word : PortWord) (o : Option PortReading) → ((p : PortReading) → o ≡ Some p → p.number < n)
      → TypedReadsBelow n (of_wanted word o)
  wanted_reads word None below = tt
  wanted_reads word (Some p) below = of_port_reads word p (below p refl)

  before_reads : (word : PrefixWord) (a : Typed) → TypedReadsBelow n a → TypedReadsBelow n (typed_prefix word a)
  before_reads prefix.Minus a h = number_reads a h
  before_reads prefix.Not a h = formula_reads a h
  before_reads prefix.Always a h = formula_reads a h
  before_reads prefix.Never a h = formula_reads a h
  before_reads prefix.Future a h = formula_reads a h
  before_reads prefix.Then a h = formula_reads a h

  between_reads : (word : BinaryWord) (a b : Typed) → TypedReadsBelow n a → TypedReadsBelow n b
      → TypedReadsBelow n (typed_binary word a b)
  between_reads binary.Plus a b h k = (number_reads a h, number_reads b k)
  between_reads binary.Minus a b h k = (number_reads a h, number_reads b k)
  between_reads binary.Equal a b h k = equality_reads a b h k
  between_reads binary.NotEqual a b h k = equality_reads a b h k
  between_reads binary.Less a b h k = at_most_reads b a k h
  between_reads binary.AtMost a b h k = at_most_reads a b h k
  between_reads binary.Greater a b h k = at_most_reads a b h k
  between_reads binary.AtLeast a b h k = at_most_reads b a k h
  between_reads binary.Until a b h k = (formula_reads a h, formula_reads b k)
  between_reads binary.Releases a b h k = (formula_reads a h, formula_reads b k)
  between_reads binary.And a b h k = (formula_reads a h, formula_reads b k)
  between_reads binary.Or a b h k = (formula_reads a h, formula_reads b k)
  between_reads binary.Implies a b h k = (formula_reads a h, formula_reads b k)
  between_reads binary.Iff a b h k = (formula_reads a h, formula_reads b k)

  truth_reads : (value : Bool) → ReadsBelow n (truth_word value)
  truth_reads true = tt
  truth_reads false = tt

  pub typed_reads : (reading : ExpressionReading) → IsBelow n reading → (e : Tree) → TypedReadsBelow n
      (typed_of reading e)
  typed_reads reading below (Name name) = name_reads name.text (reading.bare name.text) (below.bare name.text)
  typed_reads reading below (Dotted sub port) =
      name_reads port.text (reading.dotted sub.text port.text) (below.dotted sub.text port.text)
  typed_reads reading below (Numeral value span) = tt
  typed_reads reading below (Truth value span) = truth_reads value
  typed_reads reading below (Brackets inside span) = typed_reads reading below inside
  typed_reads reading below (OfPort word port span) = wanted_reads word (reading.wanted port.text) (below.wanted port.text)
  typed_reads reading below (Prefix word operand span) =
      before_reads word (typed_of reading operand) (typed_reads reading below operand)
  typed_reads reading below (Binary word left right span) =
      between_reads word (typed_of reading left) (typed_of reading right) (typed_reads reading below left)
      (typed_reads reading below right)
