-- No two kinds of fault have one number.
use Rattle.std.specs.Prelude.{◌≡◌, ℕ, ◌==◌, if◌then◌else◌, refl}
use Rattle.std.proofs.Common.{sym, ap, ◌∙◌}
use Rattle.oss_base.specs.Faults.{fault_number}
use Rattle.oss_base.specs.declared.fault.FaultKind.{FaultKind}
use Rattle.oss_base.specs.declared.fault.FaultKind.TheVariants.{F0, F1, F2, F3, F4, F5, F6, F7, F8, F9, F10, F11, F12, F13, F14, F15, F16, F17, F18, F19}
use Rattle.oss_base.specs.declared.fault.FaultKind.TheVariants.{F20, F21, F22, F23, F24, F25, F26, F27, F28, F29, F30}

-- the kind of a number
kind_of : ℕ → FaultKind
kind_of n =
    if n == 0 then F0 else if n == 1 then F1 else if n == 2 then F2 else if n == 3 then F3 else if n == 4 then F4 else if n == 5 then F5
    else if n == 6 then F6 else if n == 7 then F7 else if n == 8 then F8 else if n == 9 then F9 else
    if n == 10 then F10 else if n == 11 then F11 else if n == 12 then F12 else if n == 13 then F13 else if n == 14 then F14 else if n == 15 then F15
    else if n == 16 then F16 else if n == 17 then F17 else if n == 18 then F18 else if n == 19 then F19 else
    if n == 20 then F20 else if n == 21 then F21 else if n == 22 then F22 else if n == 23 then F23 else if n == 24 then F24 else if n == 25 then F25
    else if n == 26 then F26 else if n == 27 then F27 else if n == 28 then F28 else if n == 29 then F29 else F30

kind_of-number : (kind : FaultKind) → kind_of (fault_number kind) ≡ kind
unfolding kind_of
kind_of-number F0 = refl
kind_of-number F1 = refl
kind_of-number F2 = refl
kind_of-number F3 = refl
kind_of-number F4 = refl
kind_of-number F5 = refl
kind_of-number F6 = refl
kind_of-number F7 = refl
kind_of-number F8 = refl
kind_of-number F9 = refl
kind_of-number F10 = refl
kind_of-number F11 = refl
kind_of-number F12 = refl
kind_of-number F13 = refl
kind_of-number F14 = refl
kind_of-number F15 = refl
kind_of-number F16 = refl
kind_of-number F17 = refl
kind_of-number F18 = refl
kind_of-number F19 = refl
kind_of-number F20 = refl
kind_of-number F21 = refl
kind_of-number F22 = refl
kind_of-number F23 = refl
kind_of-number F24 = refl
kind_of-number F25 = refl
kind_of-number F26 = refl
kind_of-number F27 = refl
kind_of-number F28 = refl
kind_of-number F29 = refl
kind_of-number F30 = refl

-- no two kinds have one number
pub fault_number-injective : (a b : FaultKind) → fault_number a ≡ fault_number b → a ≡ b
fault_number-injective a b e = sym (kind_of-number a) ∙ ap kind_of e ∙ kind_of-number b
