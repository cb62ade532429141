-- The statuses that the program ends with.
use Rattle.std.specs.Prelude.{◌≡◌, ℕ, ◌⊎◌}

-- The statuses of what is done: nothing is refuted or undecided, something is refuted, nothing is refuted but something
-- is undecided.
abbrev pub IsDone : ℕ → Type 0
IsDone status = (status ≡ 0) ⊎ (status ≡ 1) ⊎ (status ≡ 2)

-- Done, or: the file is refused, the words mean no command, a file could not be read, the output could not be written,
-- want of memory, the second file is refused.
abbrev pub IsStatus : ℕ → Type 0
IsStatus status = IsDone status ⊎ (status ≡ 3) ⊎ (status ≡ 4) ⊎ (status ≡ 5) ⊎ (status ≡ 6) ⊎ (status ≡ 7)
    ⊎ (status ≡ 8)
