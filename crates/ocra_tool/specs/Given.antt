-- Serves private contracts only: what words gave so far, as the code keeps it.
use Rattle.std.specs.Prelude.{◌≡◌, ℕ, List, [], ◌∷◌, ◌++◌, map, string_bytes, Option, Some, None, option_to_list}
use Rattle.std.specs.Prelude.{option_and_then}
use Rattle.ocra_tool.specs.Words.{Arguments, Task, arguments, task_with}
use Rattle.ocra_tool.specs.declared.given.Given.{Given}
use Rattle.ocra_tool.specs.declared.given.Operands.{Operands}
use Rattle.ocra_tool.specs.declared.given.Operands.TheVariants as operands
use Rattle.ocra_tool.specs.declared.given.Step.{Step}

abbrev pub operand_words : Operands → List (List ℕ)
operand_words operands.Zero = []
operand_words (operands.One first) = first.now ∷ []
operand_words (operands.Two first second) = first.now ∷ second.now ∷ []

abbrev pub arguments_meant : Given → Arguments
arguments_meant given = record {
  operands = operand_words given.operands;
  depths = option_to_list given.depth;
  widths = option_to_list given.width;
}

-- these, and behind them those
abbrev pub joined : Arguments → Arguments → Arguments
joined a b = record {
  operands = a.operands ++ b.operands;
  depths = a.depths ++ b.depths;
  widths = a.widths ++ b.widths;
}

-- the task of a command with these arguments, and behind them the rest
abbrev pub task_behind : List ℕ → Arguments → Option Arguments → Option Task
task_behind command a rest = option_and_then (λ b. task_with command (joined a b)) rest

-- What the words behind these arguments come to, for each command: no task, or the same task as what is given then with
-- the words that are left.
abbrev pub StepsTo : Arguments → List (List ℕ) → Option Step → Type 0
StepsTo a words None = (command : List ℕ) → task_behind command a (arguments words) ≡ None
StepsTo a words (Some step) = (command : List ℕ) → task_behind command a (arguments words)
    ≡ task_behind command (arguments_meant step.given) (arguments (map string_bytes step.left.now))
