-- The values of ports at a position of a trace: they are a valuation, and atoms that read these ports have the same
-- truth on them.
use Rattle.std.proofs.Common.{◌≡◌, ℕ, zero, suc, ◌<◌, ◌↔◌, true, false, List, [], ◌∷◌, length, get_or, refl, ap, arith}
use Rattle.std.specs.Prelude.{Contains}
use Rattle.port_types.specs.declared.types.PortType.{PortType}
use Rattle.port_types.specs.declared.types.PortType.TheVariants as kind
use Rattle.port_types.specs.declared.types.Value.{Value}
use Rattle.port_types.specs.Types.{values, IsOfType}
use Rattle.typed_ltl.specs.Formulas.{Number, Choice, Proposition}
use Rattle.typed_ltl.specs.Formulas as form
use Rattle.typed_ltl.specs.Traces.{Assignment, assignment}
use Rattle.typed_ltl.specs.Truth.{as_truth, as_number, as_name, number_value, choice_name, proposition_truth}
use Rattle.state_coding.specs.Reads.{ReadsNumbers, ReadsEnumeration, ReadsPorts}
use Rattle.state_coding.specs.States.{IsValuation}

abbrev pub ValuesByKind : Type 0
ValuesByKind = (t : PortType) (v : Value) → Contains (values t) v ↔ IsOfType t v

-- the values of the ports, in order
abbrev pub values_of : List PortType → Assignment → List Value
values_of [] a = []
values_of (t ∷ ports) a = a 0 ∷ values_of ports (λ p. a (suc p))

pub valuation_is : ValuesByKind → (ports : List PortType) (a : Assignment)
    → ((p : ℕ) → p < length ports → IsOfType (get_or ports p kind.Bool) (a p)) → IsValuation ports (values_of ports a)
valuation_is by_kind [] a typed = tt
valuation_is by_kind (t ∷ ports) a typed = (
  (by_kind t (a 0)).1 (typed 0 (omega arith)),
  valuation_is by_kind ports (λ p. a (suc p)) (λ p h. typed (suc p) (omega arith)),
)

-- two valuations give these ports the same values
abbrev pub AgreeOn : List PortType → Assignment → Assignment → Type 0
AgreeOn ports a b = (p : ℕ) → p < length ports → a p ≡ b p

pub values_agree : (ports : List PortType) (a : Assignment) → AgreeOn ports (assignment (values_of ports a)) a
values_agree [] a p h = absurd (omega arith)
values_agree (t ∷ ports) a zero h = refl
values_agree (t ∷ ports) a (suc p) h = values_agree ports (λ q. a (suc q)) p (omega arith)

number_same : (ports : List PortType) (a b c d : Assignment) (n : Number) → AgreeOn ports a b → AgreeOn ports c d
    → ReadsNumbers ports n → number_value a c n ≡ number_value b d n
number_same ports a b c d (form.Literal z) h k reads = refl
number_same ports a b c d (form.NumberAt p false) h k reads = ap as_number (h p reads.0)
number_same ports a b c d (form.NumberAt p true) h k reads = ap as_number (k p reads.0)
number_same ports a b c d (form.Sum m n) h k reads =
    cc (number_same ports a b c d m h k reads.0, number_same ports a b c d n h k reads.1)
number_same ports a b c d (form.Difference m n) h k reads =
    cc (number_same ports a b c d m h k reads.0, number_same ports a b c d n h k reads.1)
number_same ports a b c d (form.Opposite m) h k reads = cc (number_same ports a b c d m h k reads)

name_same : (ports : List PortType) (a b c d : Assignment) (n : Choice) → AgreeOn ports a b → AgreeOn ports c d
    → ReadsEnumeration ports n → choice_name a c n ≡ choice_name b d n
name_same ports a b c d (form.Named n) h k reads = refl
name_same ports a b c d (form.NameAt p false) h k reads = ap as_name (h p reads.0)
name_same ports a b c d (form.NameAt p true) h k reads = ap as_name (k p reads.0)

pub truth_same : (ports : List PortType) (a b c d : Assignment) (p : Proposition) → AgreeOn ports a b → AgreeOn ports c d
    → ReadsPorts ports p → proposition_truth a c p ≡ proposition_truth b d p
truth_same ports a b c d (form.TruthAt p false) h k reads = ap as_truth (h p reads.0)
truth_same ports a b c d (form.TruthAt p true) h k reads = ap as_truth (k p reads.0)
truth_same ports a b c d (form.Equals m n) h k reads =
    cc (number_same ports a b c d m h k reads.0, number_same ports a b c d n h k reads.1)
truth_same ports a b c d (form.AtMost m n) h k reads =
    cc (number_same ports a b c d m h k reads.0, number_same ports a b c d n h k reads.1)
truth_same ports a b c d (form.SameName m n) h k reads =
    cc (name_same ports a b c d m h k reads.0, name_same ports a b c d n h k reads.1)
