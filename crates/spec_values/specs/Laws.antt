-- What small numbers are good for: no value of a term outgrows a machine's word (R. E. Moore, Interval analysis, 1966).
use Rattle.std.specs.Prelude.{ℕ}
use Rattle.typed_ltl.specs.Formulas.{Number, Ltl}
use Rattle.typed_ltl.specs.Traces.{Assignment, Trace}
use Rattle.typed_ltl.specs.Truth.{IsModerateNumber, IsModerateOn}
use Rattle.spec_values.specs.SmallNumbers.{HoldsNumerals, IsShort, HasShortTerms}

-- a short term has a moderate value where the ports hold numerals, and so has each part of it
abbrev pub ShortIsModerate : Type 0
ShortIsModerate = (now next : Assignment) → HoldsNumerals now → HoldsNumerals next → (t : Number) → IsShort t
    → IsModerateNumber now next t

-- the same of the terms of a formula on a trace
abbrev pub ShortIsModerateOn : Type 0
ShortIsModerateOn = (w : Trace) → ((i : ℕ) → HoldsNumerals (w i)) → (f : Ltl) → HasShortTerms f → IsModerateOn w f
