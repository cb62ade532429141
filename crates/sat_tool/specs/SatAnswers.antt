-- What the solver says of the bytes of a file, and the lines that it writes.
use Rattle.std.specs.Prelude.{◌≡◌, ℕ, ◌⊎◌, Bool, List, ◌++◌, codes, decimal}
use Rattle.cnf.specs.declared.lit.Lit.{Lit}
use Rattle.cnf.specs.Clauses.{IsModel, HasNoModel}
use Rattle.clause_log.specs.declared.chain.Chain.{Chain}
use Rattle.clause_log.specs.Derivations.{Derives}
use Rattle.dimacs.specs.declared.reading.Reason.{Reason}
use Rattle.dimacs.specs.declared.reading.Reason.TheVariants as reason
use Rattle.dimacs.specs.Dimacs.{IsDimacs, BreaksFormatAt}
use Rattle.dimacs.specs.SolverTexts.{trace_text}

-- The clauses of the bytes have this model.
abbrev pub HasThisModel : List ℕ → List Bool → Type 0
HasThisModel bytes model =
    (vars : ℕ) × (clauses : List (List Lit)) × IsDimacs bytes vars clauses × IsModel vars clauses model

-- The clauses of the bytes have no model.
abbrev pub IsUnsatisfiable : List ℕ → Type 0
IsUnsatisfiable bytes = (vars : ℕ) × (clauses : List (List Lit)) × IsDimacs bytes vars clauses × HasNoModel vars clauses

-- The text is the trace of a log that derives the empty clause from the clauses of the bytes.
abbrev pub IsTraceOf : List ℕ → List ℕ → Type 0
IsTraceOf bytes text = (vars : ℕ) × (clauses : List (List Lit)) × (log : List Chain) × IsDimacs bytes vars clauses
    × Derives clauses log × (text ≡ trace_text clauses log)

abbrev pub reason_text : Reason → List ℕ
reason_text reason.Header = codes "the text does not begin with p cnf and two numbers"
reason_text reason.Entry = codes "this is neither a literal nor the end of a clause"
reason_text reason.Variable = codes "there are not so many variables"
reason_text reason.Clauses = codes "there are more clauses than their number"
reason_text reason.End = codes "the text ends too early"

-- A file breaks the format at this line.
abbrev pub break_line : List ℕ → ℕ → Reason → List ℕ
break_line name line why = name ++ codes ":" ++ decimal line ++ codes ": " ++ reason_text why ++ codes "\n"

-- The line tells where the bytes of the file of this name break the format.
abbrev pub IsBreakLine : List ℕ → List ℕ → List ℕ → Type 0
IsBreakLine name bytes text =
    (line : ℕ) × (why : Reason) × (text ≡ break_line name line why) × BreaksFormatAt bytes line

-- The lines on standard error where the words ask for nothing, the file could not be read, an output could not be
-- written, and memory was short.
unfoldable pub solver_usage : List ℕ
solver_usage = codes "usage: sat_tool FILE [--trace OUT]\n"

unfoldable pub told_read_fault : List ℕ
told_read_fault = codes "read fault\n"

unfoldable pub told_write_fault : List ℕ
told_write_fault = codes "write fault\n"

unfoldable pub told_no_memory : List ℕ
told_no_memory = codes "want of memory\n"

-- The statuses that the program ends with: a model, no model, the file breaks the format, the words ask for nothing,
-- the file could not be read, an output could not be written, want of memory.
abbrev pub IsSatStatus : ℕ → Type 0
IsSatStatus status =
    (status ≡ 10) ⊎ (status ≡ 20) ⊎ (status ≡ 1) ⊎ (status ≡ 4) ⊎ (status ≡ 5) ⊎ (status ≡ 6) ⊎ (status ≡ 7)
