-- Kinds of fault, their numbers and their words, and what is said of a fault that a call answers.
use Rattle.std.specs.Prelude.{ℕ, List, Result, Ok, Err, codes}
use Rattle.oss_base.specs.declared.fault.Fault.{Fault}
use Rattle.oss_base.specs.declared.fault.FaultKind.{FaultKind}
use Rattle.oss_base.specs.declared.fault.FaultKind.TheVariants.{F0, F1, F2, F3, F4, F5, F6, F7, F8, F9, F10, F11}
use Rattle.oss_base.specs.declared.fault.FaultKind.TheVariants.{F12, F13, F14, F15, F16, F17, F18, F19, F20, F21}
use Rattle.oss_base.specs.declared.fault.FaultKind.TheVariants.{F22, F23, F24, F25, F26, F27, F28, F29, F30}
use Rattle.oss_base.specs.declared.fault.Stop.{Stop}
use Rattle.oss_base.specs.declared.fault.Stop.TheVariants as stops

-- The number of a kind of fault, which is printed after the letter F.
abbrev pub fault_number : FaultKind → ℕ
fault_number F0 = 0
fault_number F1 = 1
fault_number F2 = 2
fault_number F3 = 3
fault_number F4 = 4
fault_number F5 = 5
fault_number F6 = 6
fault_number F7 = 7
fault_number F8 = 8
fault_number F9 = 9
fault_number F10 = 10
fault_number F11 = 11
fault_number F12 = 12
fault_number F13 = 13
fault_number F14 = 14
fault_number F15 = 15
fault_number F16 = 16
fault_number F17 = 17
fault_number F18 = 18
fault_number F19 = 19
fault_number F20 = 20
fault_number F21 = 21
fault_number F22 = 22
fault_number F23 = 23
fault_number F24 = 24
fault_number F25 = 25
fault_number F26 = 26
fault_number F27 = 27
fault_number F28 = 28
fault_number F29 = 29
fault_number F30 = 30

-- The words that are printed after the number, in ASCII.
abbrev pub fault_text : FaultKind → List ℕ
fault_text F0 = codes "not built yet"
fault_text F1 = codes "file too long"
fault_text F2 = codes "bad byte"
fault_text F3 = codes "syntax"
fault_text F4 = codes "numeral too large"
fault_text F5 = codes "nesting too deep"
fault_text F6 = codes "component named twice"
fault_text F7 = codes "no system component"
fault_text F8 = codes "two system components"
fault_text F9 = codes "name clash"
fault_text F10 = codes "unknown component"
fault_text F11 = codes "component contains itself"
fault_text F12 = codes "subcomponent named twice"
fault_text F13 = codes "unknown port"
fault_text F14 = codes "not a connection target"
fault_text F15 = codes "connected twice"
fault_text F16 = codes "type mismatch"
fault_text F17 = codes "empty range"
fault_text F18 = codes "enumerator named twice"
fault_text F19 = codes "unknown contract"
fault_text F20 = codes "contract refined twice"
fault_text F21 = codes "sub-contract listed twice"
fault_text F22 = codes "unsupported type"
fault_text F23 = codes "unsupported construct"
fault_text F24 = codes "unknown subcomponent"
fault_text F25 = codes "too many components"
fault_text F26 = codes "too many instances"
fault_text F27 = codes "too many sub-contracts"
fault_text F28 = codes "level too large"
fault_text F29 = codes "too many value bits"
fault_text F30 = codes "too many guards"

-- A fact of the fault that a call answers; nothing is said where it answers a value or wants memory.
abbrev pub IfFault : {T : Type 0} → Result T Stop → (Fault → Type 0) → Type 0
IfFault (Ok _) P = Unit {0}
IfFault (Err (stops.Fault fault)) P = P fault
IfFault (Err stops.NoMemory) P = Unit {0}
