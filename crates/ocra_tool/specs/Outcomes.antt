-- What may come of a task before anything of it is written, and what each outcome means.
use Rattle.std.specs.Prelude.{◌≡◌, ℕ, ◌⊎◌, List, Option, Some, IfSome}
use Rattle.oss_base.specs.declared.fault.Fault.{Fault}
use Rattle.oss_base.specs.Faults.{fault_number, fault_text}
use Rattle.oss_io.specs.Outside.{Rose}
use Rattle.ocra_tool.specs.declared.outcome.Outcome.{Outcome}
use Rattle.ocra_tool.specs.declared.outcome.Outcome.TheVariants.{Done, Refused, SecondRefused, ReadFault, NoMemory}
use Rattle.ocra_tool.specs.Lines.{fault_line}
use Rattle.ocra_tool.specs.Tasks.{SecondFault, second_fault_line, first_file, second_file, IfBoth, IsSound, IsFaultFor}
use Rattle.ocra_tool.specs.Tasks.{IsSecondFaultFor, IsStatusOf, IsAnswerTo}
use Rattle.ocra_tool.specs.Words.{Task}

-- The line of a file with a fault.
abbrev pub fault_line_of : List ℕ → Fault → List ℕ
fault_line_of name fault =
    fault_line name fault.place.line fault.place.column (fault_number fault.kind) (fault_text fault.kind)

-- The file of this name may be the one that could not be read: FILE, or the second file where FILE has no fault.
abbrev pub MayBeUnread : Task → Option (List ℕ) → List ℕ → Type 0
MayBeUnread task told name =
    (name ≡ first_file task) ⊎ ((second_file task ≡ Some name) × IfSome told (IsSound task))

-- What is so where a task came to an outcome: of the bytes of FILE and of the second file, where they are told, and of
-- the shelf's count of faults, which went from `before` to `now`.
abbrev pub Means : Option (List ℕ) → Option (List ℕ) → ℕ → ℕ → Task → Outcome → Type 0
Means told other before now task (Done report) =
    IsStatusOf task report.status × IfSome told (IsSound task)
    × IfBoth told other (λ bytes second. IsAnswerTo task bytes second report.text report.status)
Means told other before now task (Refused line) =
    (fault : Fault) × (line ≡ fault_line_of (first_file task) fault)
    × IfSome told (λ bytes. IsFaultFor task bytes fault)
Means told other before now task (SecondRefused line) =
    (name : List ℕ) × (second_file task ≡ Some name) × (fault : SecondFault) × (line ≡ second_fault_line name fault)
    × IfSome told (IsSound task)
    × IfBoth told other (λ bytes second. IsSecondFaultFor task bytes second fault)
Means told other before now task (ReadFault name) = MayBeUnread task told name.now × Rose before now
Means told other before now task NoMemory = Unit {0}
