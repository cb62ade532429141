-- What each task is, by the bytes of the files that it reads (the operands of a utility: POSIX, "Utility Argument
-- Syntax"): FILE, and for some tasks a second file. All that is said of a run is said by these definitions, so a
-- further task is one case more in each.
use Rattle.std.specs.Prelude.{◌≡◌, ℕ, List, [], Option, Some, None, IfSome}
use Rattle.oss_base.specs.declared.fault.Fault.{Fault}
use Rattle.spec_model.specs.declared.spec.Spec.{Spec}
use Rattle.replay.specs.declared.named.NamedLasso.{NamedLasso}
use Rattle.replay.specs.LassoFiles.{IsLasso, IsBreak}
use Rattle.ocra_tool.specs.Decided.{IsChecked}
use Rattle.ocra_tool.specs.Files.{IsSpecification, IsSoleSpecification, IsFaultOf}
use Rattle.ocra_tool.specs.Lines.{lasso_break_line}
use Rattle.ocra_tool.specs.Prints.{IsPrintOf}
use Rattle.ocra_tool.specs.Replays.{IsReplayOf}
use Rattle.ocra_tool.specs.Statuses.{IsDone}
use Rattle.ocra_tool.specs.Words.{Task, CheckFile, ReplayLasso, PrintFile, default_width}

-- What a second file is refused for.
pub data SecondFault : Type 0 where
  -- It is no lasso file: this line is the first that breaks.
  LassoBreak : ℕ → SecondFault

abbrev pub second_fault_line : List ℕ → SecondFault → List ℕ
second_fault_line name (LassoBreak line) = lasso_break_line name line

-- The files.

abbrev pub first_file : Task → List ℕ
first_file (CheckFile file depth width) = file
first_file (ReplayLasso file lasso) = file
first_file (PrintFile file) = file

abbrev pub second_file : Task → Option (List ℕ)
second_file (CheckFile file depth width) = None
second_file (ReplayLasso file lasso) = Some lasso
second_file (PrintFile file) = None

-- the width at which FILE is read
abbrev pub task_width : Task → ℕ
task_width (CheckFile file depth width) = width
task_width (ReplayLasso file lasso) = default_width
task_width (PrintFile file) = default_width

-- the bytes of the second file, where they are told; where there is no such file there are none
abbrev pub second_bytes : Option (List ℕ) → (List ℕ → Option (List ℕ)) → Option (List ℕ)
second_bytes None held = Some []
second_bytes (Some name) held = held name

-- The names of both files pass this test.
abbrev pub OfNames : Task → (List ℕ → Type 0) → Type 0
OfNames task P = P (first_file task) × IfSome (second_file task) P

-- What is so of the bytes of both files, where they are told.
abbrev pub IfBoth : Option (List ℕ) → Option (List ℕ) → (List ℕ → List ℕ → Type 0) → Type 0
IfBoth told other P = IfSome told (λ bytes. IfSome other (P bytes))

-- FILE alone.

-- It has no fault for the task.
abbrev pub IsSound : Task → List ℕ → Type 0
IsSound task bytes = (spec : Spec) × IsSpecification (task_width task) bytes spec

-- This is its first fault for the task.
abbrev pub IsFaultFor : Task → List ℕ → Fault → Type 0
IsFaultFor task bytes fault = IsFaultOf (task_width task) bytes fault

abbrev pub HasFaultFor : Task → List ℕ → Type 0
HasFaultFor task bytes = (fault : Fault) × IsFaultFor task bytes fault

-- FILE and the second file.

-- None of them has a fault for the task.
abbrev pub AreSound : Task → List ℕ → List ℕ → Type 0
AreSound (CheckFile file depth width) bytes second = (spec : Spec) × IsSpecification width bytes spec
AreSound (ReplayLasso file lasso) bytes second =
    (spec : Spec) × IsSpecification default_width bytes spec × (named : NamedLasso) × IsLasso spec second named
AreSound (PrintFile file) bytes second = (spec : Spec) × IsSpecification default_width bytes spec

-- FILE has none, and this is that of the second file.
abbrev pub IsSecondFaultFor : Task → List ℕ → List ℕ → SecondFault → Type 0
IsSecondFaultFor (CheckFile file depth width) bytes second fault = ⊥
IsSecondFaultFor (ReplayLasso file lasso) bytes second (LassoBreak line) =
    (spec : Spec) × IsSoleSpecification default_width bytes spec × IsBreak spec second line
IsSecondFaultFor (PrintFile file) bytes second fault = ⊥

abbrev pub HasSecondFaultFor : Task → List ℕ → List ℕ → Type 0
HasSecondFaultFor task bytes second = (fault : SecondFault) × IsSecondFaultFor task bytes second fault

-- The answer.

-- The task can end with this status where it is done.
abbrev pub IsStatusOf : Task → ℕ → Type 0
IsStatusOf (CheckFile file depth width) status = IsDone status
IsStatusOf (ReplayLasso file lasso) status = status ≡ 0
IsStatusOf (PrintFile file) status = status ≡ 0

-- The task is answered by this text and this status.
abbrev pub IsAnswerTo : Task → List ℕ → List ℕ → List ℕ → ℕ → Type 0
IsAnswerTo (CheckFile file depth width) bytes second text status = IsChecked depth width bytes text status
IsAnswerTo (ReplayLasso file lasso) bytes second text status = IsReplayOf bytes second text × (status ≡ 0)
IsAnswerTo (PrintFile file) bytes second text status = IsPrintOf bytes text × (status ≡ 0)
