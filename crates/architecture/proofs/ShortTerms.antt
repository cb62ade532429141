-- The terms of an expression with few leaves are short.
use Rattle.std.proofs.Common.{ℕ, ◌+◌, ◌*◌, ◌≤◌, Bool, true, false, List, Option, Some, None, arith}
use Rattle.oss_base.specs.Limits.{largest_numeral, most_bytes}
use Rattle.oss_syntax.specs.Expressions.{Tree, Name, Dotted, Numeral, Truth, Brackets, OfPort, Prefix, Binary}
use Rattle.oss_syntax.specs.declared.expression.BinaryWord.{BinaryWord}
use Rattle.oss_syntax.specs.declared.expression.BinaryWord.TheVariants as binary
use Rattle.oss_syntax.specs.declared.expression.PortWord.{PortWord}
use Rattle.oss_syntax.specs.declared.expression.PortWord.TheVariants as port_word
use Rattle.oss_syntax.specs.declared.expression.PrefixWord.{PrefixWord}
use Rattle.oss_syntax.specs.declared.expression.PrefixWord.TheVariants as prefix
use Rattle.port_types.specs.declared.types.PortType.{PortType}
use Rattle.port_types.specs.declared.types.PortType.TheVariants as kind
use Rattle.spec_types.specs.Typing.{PortReading, ExpressionReading, Typed, Formula, Term, Pick, formula_in, number_in, port_as, read_port, read_name, equality}
use Rattle.spec_types.specs.Typing.{at_most}
use Rattle.spec_types.specs.Typing.{of_port, of_wanted, typed_prefix, typed_binary, truth_word, typed_of}
use Rattle.spec_values.specs.SmallNumbers.{reach, HasShortTerms}
use Rattle.architecture.proofs.FewTerminals.{leaf_count, HasFileNumerals}

-- an expression with n leaves has short terms
abbrev pub IsShortTyped : ℕ → Typed → Type 0
IsShortTyped n (Formula f) = HasShortTerms f
IsShortTyped n (Term t values) = reach t ≤ n * largest_numeral
IsShortTyped n (Pick p names) = Unit {0}

pub formula_short : (n : ℕ) (t : Typed) → IsShortTyped n t → HasShortTerms (formula_in t)
formula_short n (Formula f) h = h
formula_short n (Term t values) h = tt
formula_short n (Pick p names) h = tt

number_short : (n : ℕ) (t : Typed) → IsShortTyped n t → reach (number_in t) ≤ n * largest_numeral
number_short n (Formula f) h = omega arith
number_short n (Term t values) h = h
number_short n (Pick p names) h = omega arith

-- a number with so many leaves is short
few_short : (n k : ℕ) → n ≤ most_bytes → k ≤ n * largest_numeral → k ≤ most_bytes * largest_numeral
few_short n k few l = omega (arith, few, l)

equality_short : (m n : ℕ) (a b : Typed) → m ≤ most_bytes → n ≤ most_bytes → IsShortTyped m a → IsShortTyped n b
    → HasShortTerms (equality a b)
equality_short m n (Formula f) (Formula g) p q h k = (h, k)
equality_short m n (Formula f) (Term b others) p q h k = tt
equality_short m n (Formula f) (Pick c others) p q h k = tt
equality_short m n (Term a values) (Formula g) p q h k = tt
equality_short m n (Term a values) (Term b others) p q h k = (few_short m (reach a) p h, few_short n (reach b) q k)
equality_short m n (Term a values) (Pick c others) p q h k = tt
equality_short m n (Pick c names) (Formula g) p q h k = tt
equality_short m n (Pick c names) (Term b others) p q h k = tt
equality_short m n (Pick c names) (Pick d others) p q h k = tt

at_most_short : (m n : ℕ) (a b : Typed) → m ≤ most_bytes → n ≤ most_bytes → IsShortTyped m a → IsShortTyped n b
    → HasShortTerms (at_most a b)
at_most_short m n a b p q h k =
    (few_short m (reach (number_in a)) p (number_short m a h), few_short n (reach (number_in b)) q (number_short n b k))

port_short : (number : ℕ) (next : Bool) (type : PortType) → IsShortTyped 1 (port_as number next type)
port_short number next kind.Bool = tt
port_short number next (kind.Range lo hi) = omega arith
port_short number next (kind.Enum names) = tt

name_short : (text : List ℕ) (o : Option PortReading) → IsShortTyped 1 (read_name text o)
name_short text None = tt
name_short text (Some p) = port_short p.number false p.kind

of_port_short : (word : PortWord) (p : PortReading) → IsShortTyped 1 (of_port word p)
of_port_short port_word.Next p = port_short p.number true p.kind
of_port_short port_word.Change p =
    equality_short 1 1 (read_port true p) (read_port false p) (omega arith) (omega arith) (port_short p.number true p.kind)
    (port_short p.number false p.kind)
of_port_short port_word.Rise p = (tt, tt)
of_port_short port_word.Fall p = (tt, tt)

wanted_short : (word : PortWord) (o : Option PortReading) → IsShortTyped 1 (of_wanted word o)
wanted_short word None = tt
wanted_short word (Some p) = of_port_short word p

before_short : (n : ℕ) (word : PrefixWord) (a : Typed) → IsShortTyped n a → IsShortTyped n (typed_prefix word a)
before_short n prefix.Minus a h = number_short n a h
before_short n prefix.Not a h = formula_short n a h
before_short n prefix.Always a h = formula_short n a h
before_short n prefix.Never a h = formula_short n a h
before_short n prefix.Future a h = formula_short n a h
before_short n prefix.Then a h = formula_short n a h

module _ (m n : ℕ) (a b : Typed) (few : m + n ≤ most_bytes) (h : IsShortTyped m a) (k : IsShortTyped n b) where
  first_few : m ≤ most_bytes
  first_few = omega (arith, few)

  second_few : n ≤ most_bytes
  second_few = omega (arith, few)

  between_short : (word : BinaryWord) → IsShortTyped (m + n) (typed_binary word a b)
  between_short binary.Plus = omega (arith, number_short m a h, number_short n b k)
  between_short binary.Minus = omega (arith, number_short m a h, number_short n b k)
  between_short binary.Equal = equality_short m n a b first_few second_few h k
  between_short binary.NotEqual = equality_short m n a b first_few second_few h k
  between_short binary.Less = at_most_short n m b a second_few first_few k h
  between_short binary.AtMost = at_most_short m n a b first_few second_few h k
  between_short binary.Greater = at_most_short m n a b first_few second_few h k
  between_short binary.AtLeast = at_most_short n m b a second_few first_few k h
  between_short binary.Until = (formula_short m a h, formula_short n b k)
  between_short binary.Releases = (formula_short m a h, formula_short n b k)
  between_short binary.And = (formula_short m a h, formula_short n b k)
  between_short binary.Or = (formula_short m a h, formula_short n b k)
  between_short binary.Implies = (formula_short m a h, formula_short n b k)
  between_short binary.Iff = (formula_short m a h, formula_short n b k)

truth_short : (truth : Bool) → HasShortTerms (truth_word truth)
truth_short true = tt
truth_short false = tt

module _ (reading : ExpressionReading) where
  pub typed_short : (e : Tree) → HasFileNumerals e → leaf_count e ≤ most_bytes → IsShortTyped (leaf_count e)
      (typed_of reading e)
  typed_short (Name name) numerals few = name_short name.text (reading.bare name.text)
  typed_short (Dotted sub port) numerals few = name_short port.text (reading.dotted sub.text port.text)
  typed_short (Numeral value span) numerals few = omega (arith, numerals)
  typed_short (Truth truth span) numerals few = truth_short truth
  typed_short (Brackets inside span) numerals few = typed_short inside numerals few
  typed_short (OfPort word port span) numerals few = wanted_short word (reading.wanted port.text)
  typed_short (Prefix word operand span) numerals few =
      before_short (leaf_count operand) word (typed_of reading operand) (typed_short operand numerals few)
  typed_short (Binary word left right span) numerals few =
      between_short (leaf_count left) (leaf_count right) (typed_of reading left) (typed_of reading right) few
      (typed_short left numerals.0 (omega (arith, few))) (typed_short right numerals.1 (omega (arith, few))) word
