-- What a tree without temporal words stands for reads one valuation alone.
use Rattle.std.proofs.Common.{◌≡◌, Bool, true, false, List, ℕ, Option, Some, None, refl}
use Rattle.std.proofs.lemmas.Bool.{false≢true}
use Rattle.oss_syntax.specs.Expressions.{Tree, Name, Dotted, Numeral, Truth, Brackets, OfPort, Prefix, Binary, allows_prefix, allows_binary}
use Rattle.oss_syntax.specs.declared.expression.BinaryWord.{BinaryWord}
use Rattle.oss_syntax.specs.declared.expression.BinaryWord.TheVariants as binary
use Rattle.oss_syntax.specs.declared.expression.PrefixWord.{PrefixWord}
use Rattle.oss_syntax.specs.declared.expression.PrefixWord.TheVariants as prefix
use Rattle.oss_syntax.specs.declared.expression.Role.TheVariants as roles
use Rattle.port_types.specs.declared.types.PortType.{PortType}
use Rattle.port_types.specs.declared.types.PortType.TheVariants as kind
use Rattle.spec_model.specs.Expressions.{IsStateNumber, IsStateChoice, IsState}
use Rattle.spec_types.specs.Typing.{PortReading, ExpressionReading, Typed, Formula, Term, Pick, formula_in, number_in, port_as, read_name}
use Rattle.spec_types.specs.Typing.{equality, at_most, typed_prefix, typed_binary, truth_word, typed_of}
use Rattle.architecture.specs.StateSources.{IsStateTree}

-- a typed expression reads one valuation alone
abbrev pub IsStateTyped : Typed → Type 0
IsStateTyped (Formula f) = IsState f
IsStateTyped (Term t values) = IsStateNumber t
IsStateTyped (Pick p names) = IsStateChoice p

formula_state : (t : Typed) → IsStateTyped t → IsState (formula_in t)
formula_state (Formula f) h = h
formula_state (Term t values) h = tt
formula_state (Pick p names) h = tt

number_state : (t : Typed) → IsStateTyped t → IsStateNumber (number_in t)
number_state (Formula f) h = tt
number_state (Term t values) h = h
number_state (Pick p names) h = tt

equality_state : (a b : Typed) → IsStateTyped a → IsStateTyped b → IsState (equality a b)
equality_state (Formula f) (Formula g) h k = (h, k)
equality_state (Formula f) (Term b others) h k = tt
equality_state (Formula f) (Pick q others) h k = tt
equality_state (Term a values) (Formula g) h k = tt
equality_state (Term a values) (Term b others) h k = (h, k)
equality_state (Term a values) (Pick q others) h k = tt
equality_state (Pick p names) (Formula g) h k = tt
equality_state (Pick p names) (Term b others) h k = tt
equality_state (Pick p names) (Pick q others) h k = (h, k)

at_most_state : (a b : Typed) → IsStateTyped a → IsStateTyped b → IsState (at_most a b)
at_most_state a b h k = (number_state a h, number_state b k)

port_state : (number : ℕ) (type : PortType) → IsStateTyped (port_as number false type)
port_state number kind.Bool = refl
port_state number (kind.Range lo hi) = refl
port_state number (kind.Enum names) = refl

name_state : (text : List ℕ) (o : Option PortReading) → IsStateTyped (read_name text o)
name_state text None = tt
name_state text (Some p) = port_state p.number p.kind

before_state : (word : PrefixWord) (a : Typed) → allows_prefix roles.State word ≡ true → IsStateTyped a
    → IsStateTyped (typed_prefix word a)
before_state prefix.Minus a e h = number_state a h
before_state prefix.Not a e h = formula_state a h
before_state prefix.Always a e h = absurd (false≢true e)
before_state prefix.Never a e h = absurd (false≢true e)
before_state prefix.Future a e h = absurd (false≢true e)
before_state prefix.Then a e h = absurd (false≢true e)

between_state : (word : BinaryWord) (a b : Typed) → allows_binary roles.State word ≡ true → IsStateTyped a
    → IsStateTyped b
    → IsStateTyped (typed_binary word a b)
between_state binary.Plus a b e h k = (number_state a h, number_state b k)
between_state binary.Minus a b e h k = (number_state a h, number_state b k)
between_state binary.Equal a b e h k = equality_state a b h k
between_state binary.NotEqual a b e h k = equality_state a b h k
between_state binary.Less a b e h k = at_most_state b a k h
between_state binary.AtMost a b e h k = at_most_state a b h k
between_state binary.Greater a b e h k = at_most_state a b h k
between_state binary.AtLeast a b e h k = at_most_state b a k h
between_state binary.Until a b e h k = absurd (false≢true e)
between_state binary.Releases a b e h k = absurd (false≢true e)
between_state binary.And a b e h k = (formula_state a h, formula_state b k)
between_state binary.Or a b e h k = (formula_state a h, formula_state b k)
between_state binary.Implies a b e h k = (formula_state a h, formula_state b k)
between_state binary.Iff a b e h k = (formula_state a h, formula_state b k)

truth_state : (value : Bool) → IsState (truth_word value)
truth_state true = tt
truth_state false = tt

pub typed_state : (reading : ExpressionReading) (e : Tree) → IsStateTree e → IsStateTyped (typed_of reading e)
typed_state reading (Name name) h = name_state name.text (reading.bare name.text)
typed_state reading (Dotted sub port) h = name_state port.text (reading.dotted sub.text port.text)
typed_state reading (Numeral value span) h = tt
typed_state reading (Truth value span) h = truth_state value
typed_state reading (Brackets inside span) h = typed_state reading inside h
typed_state reading (OfPort word port span) h = absurd h
typed_state reading (Prefix word operand span) h =
    before_state word (typed_of reading operand) h.0 (typed_state reading operand h.1)
typed_state reading (Binary word left right span) h =
    between_state word (typed_of reading left) (typed_of reading right) h.0 (typed_state reading left h.1)
    (typed_state reading right h.2)
