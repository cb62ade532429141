-- What the words of a command line mean (after the utilities of POSIX, "Utility Argument Syntax" and "Utility Syntax
-- Guidelines").
--
-- The first word is the name of the command. Behind it stand its operands and its options, in any order. The option
-- `--depth` or `--width` takes the very next word, whatever it is, as its number. No other word that begins with `-`,
-- nor an empty one, means anything.
use Rattle.std.specs.Prelude.{if◌then◌else◌, ℕ, List, [], ◌∷◌, map, find, codes, decimal}
use Rattle.std.specs.Prelude.{String, bytes_eq, string_bytes, Option, Some, None, option_map, option_and_then}
use Rattle.std.specs.List.{range_with_len}
use Rattle.std.specs.declared.alloc.Global.{Global}
use Rattle.oss_io.specs.Operands.{is_operand}

-- What a command line asks for.
pub data Task : Type 0 where
  -- the report on the file of this name, for lassos of at most so many states (its depth) and guards of at most so many
  -- members (its width)
  CheckFile : List ℕ → ℕ → ℕ → Task
  -- what the lasso in the second of these files says of the contracts of the first
  ReplayLasso : List ℕ → List ℕ → Task
  -- the canonical text of the file of this name
  PrintFile : List ℕ → Task

abbrev pub most_depth : ℕ
most_depth = 32

abbrev pub most_width : ℕ
most_width = 3

-- where no option gives another
abbrev pub default_depth : ℕ
default_depth = 8

abbrev pub default_width : ℕ
default_width = 2

-- the number from 1 to `most` whose decimal digits, without leading zeros, the word is
unfoldable pub number_up_to : ℕ → List ℕ → Option ℕ
number_up_to most word = find (λ n. bytes_eq word (decimal n)) (range_with_len 1 most)

-- The words behind a command: its operands, and the numbers that its options take, each in order.
pub record Arguments : Type 0 where
  pub operands : List (List ℕ)
  pub depths : List ℕ
  pub widths : List ℕ

abbrev pub with_operand : List ℕ → Arguments → Arguments
with_operand word a = record { operands = word ∷ a.operands; depths = a.depths; widths = a.widths }

abbrev pub with_depth : ℕ → Arguments → Arguments
with_depth n a = record { operands = a.operands; depths = n ∷ a.depths; widths = a.widths }

abbrev pub with_width : ℕ → Arguments → Arguments
with_width n a = record { operands = a.operands; depths = a.depths; widths = n ∷ a.widths }

-- what an option adds, where the word behind it is its number
abbrev pub with_number : ℕ → List ℕ → (ℕ → Arguments → Arguments) → Option Arguments → Option Arguments
with_number most word add rest = option_and_then (λ n. option_map (add n) rest) (number_up_to most word)

abbrev pub arguments : List (List ℕ) → Option Arguments
arguments [] = Some (record { operands = []; depths = []; widths = [] })
arguments (word ∷ []) = if is_operand word then option_map (with_operand word) (arguments []) else None
arguments (word ∷ next ∷ words) =
    if bytes_eq word (codes "--depth") then with_number most_depth next with_depth (arguments words)
    else (if bytes_eq word (codes "--width") then with_number most_width next with_width (arguments words)
    else (if is_operand word then option_map (with_operand word) (arguments (next ∷ words)) else None))

-- the number of an option that stands at most once
abbrev pub at_most_one : ℕ → List ℕ → Option ℕ
at_most_one default [] = Some default
at_most_one default (n ∷ []) = Some n
at_most_one default (n ∷ m ∷ more) = None

-- `check` has one operand, and may have each option once
abbrev pub check_with : List (List ℕ) → List ℕ → List ℕ → Option Task
check_with (file ∷ []) depths widths = option_and_then
    (λ depth. option_map (CheckFile file depth) (at_most_one default_width widths)) (at_most_one default_depth depths)
check_with operands depths widths = None

-- `replay` has two operands and no option
abbrev pub replay_with : List (List ℕ) → List ℕ → List ℕ → Option Task
replay_with (file ∷ lasso ∷ []) [] [] = Some (ReplayLasso file lasso)
replay_with operands depths widths = None

-- `print` has one operand and no option
abbrev pub print_with : List (List ℕ) → List ℕ → List ℕ → Option Task
print_with (file ∷ []) [] [] = Some (PrintFile file)
print_with operands depths widths = None

abbrev pub task_with : List ℕ → Arguments → Option Task
task_with command a =
    if bytes_eq command (codes "check") then check_with a.operands a.depths a.widths
    else (if bytes_eq command (codes "replay") then replay_with a.operands a.depths a.widths
    else (if bytes_eq command (codes "print") then print_with a.operands a.depths a.widths else None))

-- The task that the words mean, if they mean one.
abbrev pub words_mean : List (List ℕ) → Option Task
words_mean [] = None
words_mean (command ∷ words) = option_and_then (task_with command) (arguments words)

-- The same of words as the program gets them.
abbrev pub task_of : List (String Global) → Option Task
task_of words = words_mean (map string_bytes words)
