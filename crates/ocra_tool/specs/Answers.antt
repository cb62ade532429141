-- The words in which the top call says what it answers.
use Rattle.std.specs.Prelude.{ℕ, List, Option, IfSome}
use Rattle.oss_io.specs.Outside.{Rose}
use Rattle.ocra_tool.specs.Tasks.{first_file, second_file, second_bytes, IfBoth}
use Rattle.ocra_tool.specs.Words.{Task}

-- What is said of the bytes of FILE, where the words mean a task and the shelf tells these bytes.
abbrev pub OfFile : Option Task → (List ℕ → Option (List ℕ)) → (Task → List ℕ → Type 0) → Type 0
OfFile task held P = IfSome task (λ t. IfSome (held (first_file t)) (P t))

-- What is said of the bytes of both files, where the shelf tells them.
abbrev pub IfHeld : Task → (List ℕ → Option (List ℕ)) → (List ℕ → List ℕ → Type 0) → Type 0
IfHeld task held P = IfBoth (held (first_file task)) (second_bytes (second_file task) held) P

-- The same, where the words mean a task.
abbrev pub OfFiles : Option Task → (List ℕ → Option (List ℕ)) → (Task → List ℕ → List ℕ → Type 0) → Type 0
OfFiles task held P = IfSome task (λ t. IfHeld t held (P t))

-- No call failed that a count of faults counts, as it went from `before` to `now`.
abbrev pub IsQuiet : ℕ → ℕ → Type 0
IsQuiet before now = ¬ Rose before now
