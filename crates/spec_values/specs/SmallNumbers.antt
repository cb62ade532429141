-- How large the numbers of a specification can be: the ends of its ranges and its numerals are those of a file, and a
-- term has few of them (bounds of terms by intervals: R. E. Moore, Interval analysis, 1966).
use Rattle.std.specs.Prelude.{◌≡◌, ℕ, ◌+◌, ◌*◌, ◌≤◌, Some, slice_get, unsigned_abs}
use Rattle.port_types.specs.declared.types.PortType.{PortType}
use Rattle.port_types.specs.declared.types.PortType.TheVariants as kind
use Rattle.port_types.specs.Types.{IsSignedNumeral}
use Rattle.oss_base.specs.Limits.{largest_numeral, most_bytes}
use Rattle.oss_base.specs.declared.ids.ComponentId.{ComponentId}
use Rattle.typed_ltl.specs.Formulas.{Number, Proposition, Ltl, meaning, number_of}
use Rattle.typed_ltl.specs.Formulas as form
use Rattle.typed_ltl.specs.Traces.{Assignment}
use Rattle.typed_ltl.specs.Truth.{as_number}
use Rattle.spec_model.specs.declared.contract.Contract.{Contract}
use Rattle.spec_model.specs.declared.port.OwnPort.{OwnPort}
use Rattle.spec_model.specs.declared.spec.Spec.{Spec}
use Rattle.spec_model.specs.declared.wire.Source.{Source}
use Rattle.spec_model.specs.declared.wire.Source.TheVariants as source
use Rattle.spec_model.specs.declared.wire.Target.{Target}
use Rattle.spec_model.specs.declared.wire.Wire.{Wire}
use Rattle.spec_model.specs.Architecture.{port_at, contracts_of, wires_of}

-- each port that is read as a number has a numeral, perhaps behind a minus
abbrev pub HoldsNumerals : Assignment → Type 0
HoldsNumerals values = (port : ℕ) → IsSignedNumeral (as_number (values port))

-- the most that the value of a term can be in absolute value, where the ports hold numerals
abbrev pub reach : Number → ℕ
reach (form.Literal z) = unsigned_abs z
reach (form.NumberAt p next) = largest_numeral
reach (form.Sum a b) = reach a + reach b
reach (form.Difference a b) = reach a + reach b
reach (form.Opposite a) = reach a

-- as far as a term of a file can reach: each byte is at most one numeral or port
abbrev pub most_reach : ℕ
most_reach = most_bytes * largest_numeral

abbrev pub IsShort : Number → Type 0
IsShort t = reach t ≤ most_reach

abbrev pub HasShortSides : Proposition → Type 0
HasShortSides (form.TruthAt p next) = Unit {0}
HasShortSides (form.Equals a b) = IsShort a × IsShort b
HasShortSides (form.AtMost a b) = IsShort a × IsShort b
HasShortSides (form.SameName a b) = Unit {0}

abbrev pub HasShortTerms : Ltl → Type 0
HasShortTerms form.True = Unit {0}
HasShortTerms form.False = Unit {0}
HasShortTerms (form.Atomic a) = HasShortSides a
HasShortTerms (form.Not f) = HasShortTerms f
HasShortTerms (form.And f g) = HasShortTerms f × HasShortTerms g
HasShortTerms (form.Or f g) = HasShortTerms f × HasShortTerms g
HasShortTerms (form.Implies f g) = HasShortTerms f × HasShortTerms g
HasShortTerms (form.Iff f g) = HasShortTerms f × HasShortTerms g
HasShortTerms (form.Then f) = HasShortTerms f
HasShortTerms (form.Until f g) = HasShortTerms f × HasShortTerms g
HasShortTerms (form.Releases f g) = HasShortTerms f × HasShortTerms g
HasShortTerms (form.Future f) = HasShortTerms f
HasShortTerms (form.Always f) = HasShortTerms f
HasShortTerms (form.Never f) = HasShortTerms f

abbrev pub SourceIsShort : Source → Type 0
SourceIsShort (source.Truth f) = HasShortTerms (meaning f)
SourceIsShort (source.Number t) = IsShort (number_of t)
SourceIsShort (source.Choice p) = Unit {0}

-- the ends of a range are numerals
abbrev pub HasNumeralEnds : PortType → Type 0
HasNumeralEnds kind.Bool = Unit {0}
HasNumeralEnds (kind.Range lo hi) = IsSignedNumeral lo × IsSignedNumeral hi
HasNumeralEnds (kind.Enum names) = Unit {0}

-- The ends of the ranges of a specification are numerals, and its terms are short.
pub record HasSmallNumbers (spec : Spec) : Type 0 where
  pub ports : (c : ComponentId) (t : Target) (port : OwnPort) → port_at spec c t ≡ Some port → HasNumeralEnds port.kind
  pub contracts : (c : ComponentId) (d : ℕ) (k : Contract) → slice_get (contracts_of spec c) d ≡ Some k
      → HasShortTerms (meaning k.assume) × HasShortTerms (meaning k.guarantee)
  pub wires : (c : ComponentId) (n : ℕ) (w : Wire) → slice_get (wires_of spec c) n ≡ Some w → SourceIsShort w.source
