-- What an expression is: a formula, an integer term with the interval of its values, or a pick of a name
-- with the names that it may be. A comparison, `rise`, `fall` and `change` become formulas over atoms, and
-- brackets vanish (the typed formulas of linear temporal logic over infinite-state variables: Cimatti,
-- Roveri, Susi and Tonetta, Validation of requirements for hybrid systems, 2012; intervals after
-- R. E. Moore, Interval analysis, 1966).

use Rattle.std.specs.Prelude.{ℕ, pos, ◌+ℤ◌, ◌-ℤ◌, Bool, true, false, List, [], ◌∷◌, Option, Some, None}
use Rattle.port_types.specs.declared.interval.Interval.{Interval}
use Rattle.port_types.specs.declared.types.PortType.{PortType}
use Rattle.port_types.specs.declared.types.PortType.TheVariants as kind
use Rattle.oss_syntax.specs.Expressions.{Tree, Name, Dotted, Numeral, Truth, Brackets, OfPort, Prefix, Binary}
use Rattle.oss_syntax.specs.declared.expression.PortWord.{PortWord}
use Rattle.oss_syntax.specs.declared.expression.PortWord.TheVariants as port_word
use Rattle.oss_syntax.specs.declared.expression.PrefixWord.{PrefixWord}
use Rattle.oss_syntax.specs.declared.expression.PrefixWord.TheVariants as prefix
use Rattle.oss_syntax.specs.declared.expression.BinaryWord.{BinaryWord}
use Rattle.oss_syntax.specs.declared.expression.BinaryWord.TheVariants as binary
use Rattle.typed_ltl.specs.Formulas.{Number, Choice, Ltl}
use Rattle.typed_ltl.specs.Formulas as ltl

-- how a port is read in an expression: by its number there, and with its type
pub record PortReading : Type 0 where
  pub number : ℕ
  pub kind : PortType

-- What the names of an expression mean: a bare name, `SUB.PORT`, and the port that `next` and its kin want.
-- A bare name that is no port is an enumerator, since one that means nothing has been refused before.
pub record ExpressionReading : Type 0 where
  pub bare : List ℕ → Option PortReading
  pub dotted : List ℕ → List ℕ → Option PortReading
  pub wanted : List ℕ → Option PortReading

pub data Typed : Type 0 where
  Formula : Ltl → Typed
  Term : Number → Interval → Typed
  Pick : Choice → List (List ℕ) → Typed

-- An operand as a formula, a number or a pick. One of another kind, which is a type fault, counts as false,
-- and as the number 0 with the interval 0..0.

abbrev pub formula_in : Typed → Ltl
formula_in (Formula f) = f
formula_in (Term t values) = ltl.False
formula_in (Pick p names) = ltl.False

abbrev pub number_in : Typed → Number
number_in (Formula f) = ltl.Literal (pos 0)
number_in (Term t values) = t
number_in (Pick p names) = ltl.Literal (pos 0)

abbrev pub values_in : Typed → Interval
values_in (Formula f) = record { lo = pos 0; hi = pos 0 }
values_in (Term t values) = values
values_in (Pick p names) = record { lo = pos 0; hi = pos 0 }

-- the sums and the differences of the values of two intervals, by their ends

abbrev pub sums : Interval → Interval → Interval
sums a b = record { lo = a.lo +ℤ b.lo; hi = a.hi +ℤ b.hi }

abbrev pub differences : Interval → Interval → Interval
differences a b = record { lo = a.lo -ℤ b.hi; hi = a.hi -ℤ b.lo }

-- names

-- the port of this number and type, now or in the next valuation
abbrev pub port_as : ℕ → Bool → PortType → Typed
port_as number next kind.Bool = Formula (ltl.Atomic (ltl.TruthAt number next))
port_as number next (kind.Range lo hi) = Term (ltl.NumberAt number next) (record { lo = lo; hi = hi })
port_as number next (kind.Enum names) = Pick (ltl.NameAt number next) names

abbrev pub read_port : Bool → PortReading → Typed
read_port next port = port_as port.number next port.kind

abbrev pub read_name : List ℕ → Option PortReading → Typed
read_name text None = Pick (ltl.Named text) (text ∷ [])
read_name text (Some port) = read_port false port

-- comparisons of two operands of one kind

abbrev pub equality : Typed → Typed → Ltl
equality (Formula f) (Formula g) = ltl.Iff f g
equality (Term a values) (Term b others) = ltl.Atomic (ltl.Equals a b)
equality (Pick p names) (Pick q others) = ltl.Atomic (ltl.SameName p q)
equality _ _ = ltl.False

abbrev pub at_most : Typed → Typed → Ltl
at_most a b = ltl.Atomic (ltl.AtMost (number_in a) (number_in b))

-- `next`, `change`, `rise` and `fall` of a port

abbrev pub truth_at : Bool → PortReading → Ltl
truth_at next port = ltl.Atomic (ltl.TruthAt port.number next)

abbrev pub of_port : PortWord → PortReading → Typed
of_port port_word.Next port = read_port true port
of_port port_word.Change port = Formula (ltl.Not (equality (read_port true port) (read_port false port)))
of_port port_word.Rise port = Formula (ltl.And (ltl.Not (truth_at false port)) (truth_at true port))
of_port port_word.Fall port = Formula (ltl.And (truth_at false port) (ltl.Not (truth_at true port)))

-- A name that is no port has been refused before; it counts as false here.
abbrev pub of_wanted : PortWord → Option PortReading → Typed
of_wanted word None = Formula ltl.False
of_wanted word (Some port) = of_port word port

-- operators

abbrev pub typed_prefix : PrefixWord → Typed → Typed
typed_prefix prefix.Minus a = Term (ltl.Opposite (number_in a)) (differences (record {
  lo = pos 0;
  hi = pos 0;
}) (values_in a))
typed_prefix prefix.Not a = Formula (ltl.Not (formula_in a))
typed_prefix prefix.Always a = Formula (ltl.Always (formula_in a))
typed_prefix prefix.Never a = Formula (ltl.Never (formula_in a))
typed_prefix prefix.Future a = Formula (ltl.Future (formula_in a))
typed_prefix prefix.Then a = Formula (ltl.Then (formula_in a))

abbrev pub typed_binary : BinaryWord → Typed → Typed → Typed
typed_binary binary.Plus a b = Term (ltl.Sum (number_in a) (number_in b)) (sums (values_in a) (values_in b))
typed_binary binary.Minus a b =
    Term (ltl.Difference (number_in a) (number_in b)) (differences (values_in a) (values_in b))
typed_binary binary.Equal a b = Formula (equality a b)
typed_binary binary.NotEqual a b = Formula (ltl.Not (equality a b))
typed_binary binary.Less a b = Formula (ltl.Not (at_most b a))
typed_binary binary.AtMost a b = Formula (at_most a b)
typed_binary binary.Greater a b = Formula (ltl.Not (at_most a b))
typed_binary binary.AtLeast a b = Formula (at_most b a)
typed_binary binary.Until a b = Formula (ltl.Until (formula_in a) (formula_in b))
typed_binary binary.Releases a b = Formula (ltl.Releases (formula_in a) (formula_in b))
typed_binary binary.And a b = Formula (ltl.And (formula_in a) (formula_in b))
typed_binary binary.Or a b = Formula (ltl.Or (formula_in a) (formula_in b))
typed_binary binary.Implies a b = Formula (ltl.Implies (formula_in a) (formula_in b))
typed_binary binary.Iff a b = Formula (ltl.Iff (formula_in a) (formula_in b))

-- a numeral as a number
abbrev pub numeral_term : ℕ → Number
numeral_term value = ltl.Literal (pos value)

abbrev pub truth_word : Bool → Ltl
truth_word true = ltl.True
truth_word false = ltl.False

abbrev pub typed_of : ExpressionReading → Tree → Typed
typed_of reading (Name name) = read_name name.text (reading.bare name.text)
typed_of reading (Dotted sub port) = read_name port.text (reading.dotted sub.text port.text)
typed_of reading (Numeral value span) = Term (numeral_term value) (record { lo = pos value; hi = pos value })
typed_of reading (Truth value span) = Formula (truth_word value)
typed_of reading (Brackets inside span) = typed_of reading inside
typed_of reading (OfPort word port span) = of_wanted word (reading.wanted port.text)
typed_of reading (Prefix word operand span) = typed_prefix word (typed_of reading operand)
typed_of reading (Binary word left right span) = typed_binary word (typed_of reading left) (typed_of reading right)
