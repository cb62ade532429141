use Rattle.std.proofs.Common.{◌+◌, ◌-◌, ◌*◌}
use Rattle.oss_syntax.specs.Expressions.{tree, height}
use Rattle.oss_reader.specs.Phrases.{PhrasesGoOnFrom}
use Rattle.oss_reader.specs.Ahead.{ahead}
use Rattle.oss_reader.proofs.expressions.+reader.Given as goal

abbrev pub decreases-brackets : goal.decreases-brackets
decreases-brackets l = 4 * l.room + 1

abbrev pub decreases-expression : goal.decreases-expression
decreases-expression l = 4 * l.room + 3

abbrev pub decreases-operand : goal.decreases-operand
decreases-operand l = 4 * l.room + 2

abbrev pub decreases-prefixed : goal.decreases-prefixed
decreases-prefixed l = 4 * l.room + 1

abbrev pub decreases-read_step : goal.decreases-read_step
decreases-read_step l = 4 * l.room + 2

-- what is read so far begins each phrase
abbrev pub invariant-expression-operators : goal.invariant-expression-operators
invariant-expression-operators l = PhrasesGoOnFrom l.role l.room l.max (ahead l.terminals) (tree l.left.expr) (ahead l.rest)

-- the height grows
abbrev pub decreases-expression-operators : goal.decreases-expression-operators
decreases-expression-operators l = l.room - height (tree l.left.expr)
