-- The lines that the program writes. Each ends by LF, the byte 10.
use Rattle.std.specs.Prelude.{ℕ, List, ◌++◌, codes, decimal}

-- Where words mean no command.
abbrev pub usage_line : List ℕ
usage_line = codes "usage: ocra_tool check|tree|certify FILE [--depth 1..32] [--width 1..3] | print FILE | replay FILE LASSO | recheck FILE CERT | sample N\n"

-- A file is refused for a fault with this number and text, which stands at this line and column.
abbrev pub fault_line : List ℕ → ℕ → ℕ → ℕ → List ℕ → List ℕ
fault_line name line column number text = name ++ codes ":" ++ decimal line ++ codes ":" ++ decimal column
    ++ codes ": F" ++ decimal number ++ codes " " ++ text ++ codes "\n"

-- A lasso file breaks at this line.
abbrev pub lasso_break_line : List ℕ → ℕ → List ℕ
lasso_break_line name line = name ++ codes ":" ++ decimal line ++ codes ": lasso text\n"

-- A file could not be read.
abbrev pub read_fault_line : List ℕ → List ℕ
read_fault_line name = name ++ codes ": read fault\n"

-- The output could not be written.
abbrev pub write_fault_line : List ℕ
write_fault_line = codes "write fault\n"

-- Memory was short.
abbrev pub no_memory_line : List ℕ
no_memory_line = codes "want of memory\n"
