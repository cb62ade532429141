-- The task that a parsed command stands for, and the bounds of its numbers.
use Rattle.std.specs.Prelude.{◌≤◌}
use Rattle.ocra_tool.specs.Words.{Task, CheckFile, ReplayLasso, PrintFile, most_depth, most_width}
use Rattle.ocra_tool.specs.declared.words.Command.{Command}
use Rattle.ocra_tool.specs.declared.words.Command.TheVariants.{Check, Replay, Print}

abbrev pub task_meant : Command → Task
task_meant (Check file depth width) = CheckFile file.now depth width
task_meant (Replay file lasso) = ReplayLasso file.now lasso.now
task_meant (Print file) = PrintFile file.now

abbrev pub IsInRange : Command → Type 0
IsInRange (Check file depth width) = (1 ≤ depth) × (depth ≤ most_depth) × (1 ≤ width) × (width ≤ most_width)
IsInRange (Replay file lasso) = Unit {0}
IsInRange (Print file) = Unit {0}
