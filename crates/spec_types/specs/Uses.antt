-- What an expression uses: its size, and how often it reads each port. Each operator, port, numeral,
-- enumerator and truth word counts 1, brackets count 0, a port under `next` counts as the port does, and
-- `rise`, `fall` and `change` count two ports and two operators. An enumerator is no port. (The length of a
-- formula of linear temporal logic: C. Baier and J.-P. Katoen, Principles of Model Checking, 2008.)

use Rattle.std.specs.Prelude.{ℕ, ◌+◌, cond, nat_eq, List, [], ◌∷◌, ◌++◌, Option, Some, None}
use Rattle.port_types.specs.declared.types.PortId.{PortId}
use Rattle.oss_syntax.specs.Expressions.{Tree, Name, Dotted, Numeral, Truth, Brackets, OfPort, Prefix, Binary}
use Rattle.oss_syntax.specs.declared.expression.PortWord.{PortWord}
use Rattle.oss_syntax.specs.declared.expression.PortWord.TheVariants as port_word
use Rattle.spec_model.specs.declared.contract.Uses.{Uses}
use Rattle.spec_types.specs.Typing.{PortReading, ExpressionReading}

abbrev pub port_word_size : PortWord → ℕ
port_word_size port_word.Next = 1
port_word_size port_word.Change = 4
port_word_size port_word.Rise = 4
port_word_size port_word.Fall = 4

abbrev pub expression_size : Tree → ℕ
expression_size (Name port) = 1
expression_size (Dotted sub port) = 1
expression_size (Numeral value span) = 1
expression_size (Truth value span) = 1
expression_size (Brackets inside span) = expression_size inside
expression_size (OfPort word port span) = port_word_size word
expression_size (Prefix word operand span) = 1 + expression_size operand
expression_size (Binary word left right span) = 1 + expression_size left + expression_size right

-- the port that a name reads, if it is one
abbrev pub name_reads : Option PortReading → List ℕ
name_reads None = []
name_reads (Some port) = port.number ∷ []

abbrev pub port_word_reads : PortWord → ℕ → List ℕ
port_word_reads port_word.Next port = port ∷ []
port_word_reads port_word.Change port = port ∷ port ∷ []
port_word_reads port_word.Rise port = port ∷ port ∷ []
port_word_reads port_word.Fall port = port ∷ port ∷ []

abbrev pub wanted_reads : PortWord → Option PortReading → List ℕ
wanted_reads word None = []
wanted_reads word (Some port) = port_word_reads word port.number

-- the ports that an expression reads, in text order, each as often as it occurs
abbrev pub reads : ExpressionReading → Tree → List ℕ
reads reading (Name name) = name_reads (reading.bare name.text)
reads reading (Dotted sub port) = name_reads (reading.dotted sub.text port.text)
reads reading (Numeral value span) = []
reads reading (Truth value span) = []
reads reading (Brackets inside span) = reads reading inside
reads reading (OfPort word port span) = wanted_reads word (reading.wanted port.text)
reads reading (Prefix word operand span) = reads reading operand
reads reading (Binary word left right span) = reads reading left ++ reads reading right

-- one more occurrence of a port: ports stand in the order of their first occurrences
abbrev pub count_one : List (PortId × ℕ) → ℕ → List (PortId × ℕ)
count_one [] port = (record { 0 = port }, 1) ∷ []
count_one (read ∷ counts) port = cond (nat_eq port read.0.0) ((read.0, read.1 + 1) ∷ counts)
    (read ∷ count_one counts port)

abbrev pub count_each : List (PortId × ℕ) → List ℕ → List (PortId × ℕ)
count_each counts [] = counts
count_each counts (port ∷ ports) = count_each (count_one counts port) ports

abbrev pub expression_uses : ExpressionReading → Tree → Uses
expression_uses reading e = record { size = expression_size e; ports = count_each [] (reads reading e) }
