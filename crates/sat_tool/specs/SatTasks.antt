-- What the words of the solver's command line ask for. A word that is empty or begins with `-` names no file. (The
-- convention on `-` is that of the utilities of POSIX, "Utility Syntax Guidelines".)
use Rattle.std.specs.Prelude.{ℕ, ◌&&◌, List, [], ◌∷◌, Option, Some, None, map, bytes_eq, codes}
use Rattle.std.specs.Prelude.{string_bytes, if◌then◌else◌, String}
use Rattle.std.specs.declared.alloc.Global.{Global}
use Rattle.oss_io.specs.Operands.{is_operand}

-- The file whose clauses are solved, and the file that a trace is written to, if the words ask for one.
pub record SatTask : Type 0 where
  pub file : List ℕ
  pub trace : Option (List ℕ)

-- `FILE`, or `FILE --trace OUT`
abbrev pub task_asked : List (List ℕ) → Option SatTask
task_asked (file ∷ []) = if is_operand file then Some (record { file = file; trace = None }) else None
task_asked (file ∷ option ∷ out ∷ []) =
    if is_operand file && bytes_eq option (codes "--trace") && is_operand out
    then Some (record { file = file; trace = Some out }) else None
task_asked words = None

-- The same of words as the program gets them.
abbrev pub asked : List (String Global) → Option SatTask
asked words = task_asked (map string_bytes words)
