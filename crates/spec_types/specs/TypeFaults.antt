-- Where the types of a text do not fit: a type mismatch (the operand of an operator, a port inside `rise` or
-- `fall`, a whole formula, the expression of a connection) and an empty range. An operator is at fault by
-- the kinds of its operands alone, so the fault of an operand hides none above it (type checking of terms: B. C.
-- Pierce, Types and Programming Languages, 2002; an interval that lies within another: R. E. Moore, Interval
-- analysis, 1966).

use Rattle.std.specs.Prelude.{ℕ, ℤ, Bool, true, false, ◌&&◌, List, [], ◌∷◌, ◌++◌, Option, Some, None, bytes_eq, int_le}
use Rattle.std.specs.List.{list_any, list_all}
use Rattle.port_types.specs.declared.interval.Interval.{Interval}
use Rattle.port_types.specs.declared.types.PortType.{PortType}
use Rattle.port_types.specs.declared.types.PortType.TheVariants as kind
use Rattle.oss_base.specs.declared.fault.FaultKind.TheVariants as kinds
use Rattle.oss_syntax.specs.declared.words.Word.{Word}
use Rattle.oss_syntax.specs.Expressions.{Tree, Name, Dotted, Numeral, Truth, Brackets, OfPort, Prefix, Binary}
use Rattle.oss_syntax.specs.declared.expression.PortWord.{PortWord}
use Rattle.oss_syntax.specs.declared.expression.PortWord.TheVariants as port_word
use Rattle.oss_syntax.specs.declared.expression.PrefixWord.{PrefixWord}
use Rattle.oss_syntax.specs.declared.expression.PrefixWord.TheVariants as prefix
use Rattle.oss_syntax.specs.declared.expression.BinaryWord.{BinaryWord}
use Rattle.oss_syntax.specs.declared.expression.BinaryWord.TheVariants as binary
use Rattle.oss_base.specs.declared.sites.FaultSite.{FaultSite}
use Rattle.spec_types.specs.Typing.{Typed, Formula, Term, Pick, PortReading, ExpressionReading, typed_of}

-- kinds

abbrev pub is_formula : Typed → Bool
is_formula (Formula f) = true
is_formula (Term t values) = false
is_formula (Pick p names) = false

abbrev pub is_number : Typed → Bool
is_number (Formula f) = false
is_number (Term t values) = true
is_number (Pick p names) = false

abbrev pub is_name_of : List (List ℕ) → List ℕ → Bool
is_name_of names name = list_any (bytes_eq name) names

abbrev pub share_name : List (List ℕ) → List (List ℕ) → Bool
share_name names others = list_any (is_name_of others) names

-- two formulas, two numbers, or two picks that share a name
abbrev pub are_comparable : Typed → Typed → Bool
are_comparable (Formula f) (Formula g) = true
are_comparable (Term a values) (Term b others) = true
are_comparable (Pick p names) (Pick q others) = share_name names others
are_comparable _ _ = false

-- the operands that an operator wants
abbrev pub admits_operand : PrefixWord → Typed → Bool
admits_operand prefix.Minus a = is_number a
admits_operand _ a = is_formula a

abbrev pub admits_operands : BinaryWord → Typed → Typed → Bool
admits_operands binary.Plus a b = is_number a && is_number b
admits_operands binary.Minus a b = is_number a && is_number b
admits_operands binary.Less a b = is_number a && is_number b
admits_operands binary.AtMost a b = is_number a && is_number b
admits_operands binary.Greater a b = is_number a && is_number b
admits_operands binary.AtLeast a b = is_number a && is_number b
admits_operands binary.Equal a b = are_comparable a b
admits_operands binary.NotEqual a b = are_comparable a b
admits_operands _ a b = is_formula a && is_formula b

-- `rise` and `fall` want a boolean port, `next` and `change` any port
abbrev pub is_boolean : PortType → Bool
is_boolean kind.Bool = true
is_boolean (kind.Range lo hi) = false
is_boolean (kind.Enum names) = false

abbrev pub admits_port : PortWord → PortType → Bool
admits_port port_word.Next k = true
admits_port port_word.Change k = true
admits_port port_word.Rise k = is_boolean k
admits_port port_word.Fall k = is_boolean k

-- expressions

abbrev pub mismatch_unless : Bool → ℕ → List FaultSite
mismatch_unless true offset = []
mismatch_unless false offset = record { kind = kinds.F16; offset = offset } ∷ []

abbrev pub port_mismatch : PortWord → Word → Option PortReading → List FaultSite
port_mismatch word name None = []
port_mismatch word name (Some port) = mismatch_unless (admits_port word port.kind) name.span.start

abbrev pub expression_faults : ExpressionReading → Tree → List FaultSite
expression_faults reading (Name name) = []
expression_faults reading (Dotted sub port) = []
expression_faults reading (Numeral value span) = []
expression_faults reading (Truth value span) = []
expression_faults reading (Brackets inside span) = expression_faults reading inside
expression_faults reading (OfPort word port span) = port_mismatch word port (reading.wanted port.text)
expression_faults reading (Prefix word operand span) =
    expression_faults reading operand ++ mismatch_unless (admits_operand word (typed_of reading operand)) span.start
expression_faults reading (Binary word left right span) =
    expression_faults reading left ++ (expression_faults reading right
    ++ mismatch_unless (admits_operands word (typed_of reading left) (typed_of reading right)) span.start)

-- where the first token of an expression begins
abbrev pub expression_start : Tree → ℕ
expression_start (Name name) = name.span.start
expression_start (Dotted sub port) = sub.span.start
expression_start (Numeral value span) = span.start
expression_start (Truth value span) = span.start
expression_start (Brackets inside span) = span.start
expression_start (OfPort word port span) = span.start
expression_start (Prefix word operand span) = span.start
expression_start (Binary word left right span) = expression_start left

-- a whole formula of a contract is boolean
abbrev pub formula_faults : ExpressionReading → Tree → List FaultSite
formula_faults reading e = expression_faults reading e
    ++ mismatch_unless (is_formula (typed_of reading e)) (expression_start e)

-- connections

-- the names are all among the others
abbrev pub are_names_of : List (List ℕ) → List (List ℕ) → Bool
are_names_of others names = list_all (is_name_of others) names

-- an interval is within a range by their ends, also where one of them is empty
abbrev pub is_within : ℤ → ℤ → Interval → Bool
is_within lo hi values = int_le lo values.lo && int_le values.hi hi

-- what may be the value of a port of this type
abbrev pub admits_source : PortType → Typed → Bool
admits_source kind.Bool e = is_formula e
admits_source (kind.Range lo hi) (Term t values) = is_within lo hi values
admits_source (kind.Enum names) (Pick p values) = are_names_of names values
admits_source _ _ = false

abbrev pub source_faults : ExpressionReading → PortType → Tree → List FaultSite
source_faults reading target e = expression_faults reading e
    ++ mismatch_unless (admits_source target (typed_of reading e)) (expression_start e)
