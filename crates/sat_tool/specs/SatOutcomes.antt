-- Serves private contracts only: what comes of a file before anything is written.
use Rattle.std.specs.Prelude.{◌≡◌, ℕ, Bool, true, false, List, Option, Some, None, IfSome}
use Rattle.oss_io.specs.Outside.{Rose}
use Rattle.cnf.specs.declared.lit.Lit.{Lit}
use Rattle.cnf.specs.Clauses.{IsModel, HasNoModel}
use Rattle.clause_log.specs.declared.chain.Chain.{Chain}
use Rattle.clause_log.specs.Derivations.{Derives}
use Rattle.dimacs.specs.declared.reading.Reason.{Reason}
use Rattle.dimacs.specs.Dimacs.{BreaksFormatAt}
use Rattle.dimacs.specs.SolverTexts.{sat_text, trace_text}
use Rattle.sat_tool.specs.declared.outcome.SatOutcome.{SatOutcome}
use Rattle.sat_tool.specs.declared.outcome.SatOutcome.TheVariants as came
use Rattle.sat_tool.specs.SatTasks.{SatTask}
use Rattle.sat_tool.specs.SatAnswers.{HasThisModel, IsUnsatisfiable, IsTraceOf, break_line}

-- There is a trace exactly where one is asked for.
abbrev pub HasTrace : Option (List ℕ) → Option (List ℕ) → Option (List ℕ) → Type 0
HasTrace told None None = Unit {0}
HasTrace told (Some out) (Some text) = IfSome told (λ bytes. IsTraceOf bytes text)
HasTrace told None (Some text) = ⊥
HasTrace told (Some out) None = ⊥

-- What is so where a task came to this: of the bytes of its file, where they are told, and of the shelf's count of
-- faults, which went from `before` to `now`.
abbrev pub ComesTo : Option (List ℕ) → ℕ → ℕ → SatTask → SatOutcome → Type 0
ComesTo told before now task (came.Sat text) =
    (model : List Bool) × (text ≡ sat_text model) × IfSome told (λ bytes. HasThisModel bytes model)
ComesTo told before now task (came.Unsat trace) = IfSome told IsUnsatisfiable × HasTrace told task.trace trace
ComesTo told before now task (came.Refused text) = (line : ℕ) × (why : Reason) × (text ≡ break_line task.file line why)
    × IfSome told (λ bytes. BreaksFormatAt bytes line)
ComesTo told before now task came.ReadFault = Rose before now
ComesTo told before now task came.NoMemory = Unit {0}

-- There is a trace of the clauses exactly where one is asked for.
abbrev pub HasTraceText : List (List Lit) → Bool → Option (List ℕ) → Type 0
HasTraceText clauses false None = Unit {0}
HasTraceText clauses true (Some text) = (log : List Chain) × Derives clauses log × (text ≡ trace_text clauses log)
HasTraceText clauses false (Some text) = ⊥
HasTraceText clauses true None = ⊥

-- What comes of clauses over so many variables.
abbrev pub IsOutcomeOf : ℕ → List (List Lit) → Bool → SatOutcome → Type 0
IsOutcomeOf vars clauses traced (came.Sat text) =
    (model : List Bool) × (text ≡ sat_text model) × IsModel vars clauses model
IsOutcomeOf vars clauses traced (came.Unsat trace) = HasNoModel vars clauses × HasTraceText clauses traced trace
IsOutcomeOf vars clauses traced (came.Refused text) = ⊥
IsOutcomeOf vars clauses traced came.ReadFault = ⊥
IsOutcomeOf vars clauses traced came.NoMemory = Unit {0}
