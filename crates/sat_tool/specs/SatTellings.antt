-- Serves private contracts only: the task that the program lends to its parts.
use Rattle.std.specs.Option.{option_map}
use Rattle.sat_tool.specs.declared.words.Task.{Task}
use Rattle.sat_tool.specs.SatTasks.{SatTask}

abbrev pub task_of_words : Task → SatTask
task_of_words task = record { file = task.file.now; trace = option_map (λ out. out.now) task.trace }
