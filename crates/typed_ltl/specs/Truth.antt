-- Terms and atoms at a pair of valuations, and truth of formulas at a position of an infinite trace:
-- linear temporal logic over state predicates that may also read the next state (Pnueli, The Temporal
-- Logic of Programs, 1977; Manna and Pnueli, The Temporal Logic of Reactive and Concurrent Systems,
-- 1992, and Lamport, The Temporal Logic of Actions, 1994, for values in the next state).
use Rattle.std.specs.Prelude.{◌≡◌, ℕ, ◌+◌, ◌^◌, ◌<◌, ◌≤◌, Bool, true, false, List, [], ℤ, pos, ◌+ℤ◌, ◌-ℤ◌, neg_ℤ}
use Rattle.std.specs.Prelude.{int_le, unsigned_abs}
use Rattle.std.specs.Ordering.{int_eq}
use Rattle.std.specs.Str.{bytes_eq}
use Rattle.port_types.specs.declared.types.Value.{Value}
use Rattle.port_types.specs.declared.types.Value.TheVariants as value
use Rattle.typed_ltl.specs.Formulas.{Number, Choice, Proposition, Ltl}
use Rattle.typed_ltl.specs.Formulas as form
use Rattle.typed_ltl.specs.Traces.{Assignment, Trace}

-- A value read as a truth value, as a whole number, as a name. A value of another kind reads as false,
-- 0, the empty name.
abbrev pub as_truth : Value → Bool
as_truth (value.Bool b) = b
as_truth (value.Int z) = false
as_truth (value.Name n) = false

abbrev pub as_number : Value → ℤ
as_number (value.Bool b) = pos 0
as_number (value.Int z) = z
as_number (value.Name n) = pos 0

abbrev pub as_name : Value → List ℕ
as_name (value.Bool b) = []
as_name (value.Int z) = []
as_name (value.Name n) = n

-- The value of a port, in this valuation or in the next one.
abbrev pub read_value : Assignment → Assignment → ℕ → Bool → Value
read_value now next port false = now port
read_value now next port true = next port

-- The value of a term. Sums and differences are exact whole numbers.
abbrev pub number_value : Assignment → Assignment → Number → ℤ
number_value now next (form.Literal z) = z
number_value now next (form.NumberAt p b) = as_number (read_value now next p b)
number_value now next (form.Sum a b) = number_value now next a +ℤ number_value now next b
number_value now next (form.Difference a b) = number_value now next a -ℤ number_value now next b
number_value now next (form.Opposite a) = neg_ℤ (number_value now next a)

-- The name that a pick stands for.
abbrev pub choice_name : Assignment → Assignment → Choice → List ℕ
choice_name now next (form.Named n) = n
choice_name now next (form.NameAt p b) = as_name (read_value now next p b)

-- The truth value of an atom.
abbrev pub proposition_truth : Assignment → Assignment → Proposition → Bool
proposition_truth now next (form.TruthAt p b) = as_truth (read_value now next p b)
proposition_truth now next (form.Equals a b) = int_eq (number_value now next a) (number_value now next b)
proposition_truth now next (form.AtMost a b) = int_le (number_value now next a) (number_value now next b)
proposition_truth now next (form.SameName a b) = bytes_eq (choice_name now next a) (choice_name now next b)

-- P holds at every position from i on and before j.
abbrev pub Throughout : (ℕ → Type 0) → ℕ → ℕ → Type 0
Throughout P i j = (k : ℕ) → i ≤ k → k < j → P k

-- P or Q: it is not so that both fail. Every "or" and every "some" on traces is put through "not", so
-- that no truth has to be decided on an infinite trace.
abbrev pub Either : Type 0 → Type 0 → Type 0
Either P Q = (P → ⊥) → (Q → ⊥) → ⊥

-- At some position from i on P holds: it is not so that P fails at each of them.
abbrev pub Sometime : (ℕ → Type 0) → ℕ → Type 0
Sometime P i = ((j : ℕ) → i ≤ j → P j → ⊥) → ⊥

-- P until Q at i: some j at or after i has Q, and every position from i to j - 1 has P.
abbrev pub HoldsUntil : (ℕ → Type 0) → (ℕ → Type 0) → ℕ → Type 0
HoldsUntil P Q i = ((j : ℕ) → i ≤ j → Q j → Throughout P i j → ⊥) → ⊥

-- P releases Q at i: each j at or after i has Q, or some position from i to j - 1 has P. So it is never
-- so that Q fails at j and P fails at all positions from i to j - 1.
abbrev pub HoldsReleased : (ℕ → Type 0) → (ℕ → Type 0) → ℕ → Type 0
HoldsReleased P Q i = (j : ℕ) → i ≤ j → (Q j → ⊥) → Throughout (λ k. P k → ⊥) i j → ⊥

-- Truth of a formula at a position of a trace.
abbrev pub Holds : Trace → Ltl → ℕ → Type 0
Holds w form.True i = Unit {0}
Holds w form.False i = ⊥
Holds w (form.Atomic a) i = proposition_truth (w i) (w (i + 1)) a ≡ true
Holds w (form.Not f) i = Holds w f i → ⊥
Holds w (form.And f g) i = Holds w f i × Holds w g i
Holds w (form.Or f g) i = Either (Holds w f i) (Holds w g i)
Holds w (form.Implies f g) i = Holds w f i → Holds w g i
Holds w (form.Iff f g) i = (Holds w f i → Holds w g i) × (Holds w g i → Holds w f i)
Holds w (form.Then f) i = Holds w f (i + 1)
Holds w (form.Until f g) i = HoldsUntil (Holds w f) (Holds w g) i
Holds w (form.Releases f g) i = HoldsReleased (Holds w f) (Holds w g) i
Holds w (form.Future f) i = Sometime (Holds w f) i
Holds w (form.Always f) i = (j : ℕ) → i ≤ j → Holds w f j
Holds w (form.Never f) i = (j : ℕ) → i ≤ j → Holds w f j → ⊥

-- A number of at most 2^61 in absolute value.
abbrev pub IsModerate : ℤ → Type 0
IsModerate z = unsigned_abs z ≤ 2 ^ 61

-- A term and each part of it have such values.
abbrev pub IsModerateNumber : Assignment → Assignment → Number → Type 0
IsModerateNumber now next (form.Literal z) = IsModerate z
IsModerateNumber now next (form.NumberAt p b) = IsModerate (as_number (read_value now next p b))
IsModerateNumber now next (form.Sum a b) = IsModerateNumber now next a × IsModerateNumber now next b
    × IsModerate (number_value now next a +ℤ number_value now next b)
IsModerateNumber now next (form.Difference a b) = IsModerateNumber now next a × IsModerateNumber now next b
    × IsModerate (number_value now next a -ℤ number_value now next b)
IsModerateNumber now next (form.Opposite a) = IsModerateNumber now next a
    × IsModerate (neg_ℤ (number_value now next a))

abbrev pub IsModerateProposition : Assignment → Assignment → Proposition → Type 0
IsModerateProposition now next (form.TruthAt p b) = Unit {0}
IsModerateProposition now next (form.Equals a b) = IsModerateNumber now next a × IsModerateNumber now next b
IsModerateProposition now next (form.AtMost a b) = IsModerateNumber now next a × IsModerateNumber now next b
IsModerateProposition now next (form.SameName a b) = Unit {0}

-- At each position of the trace each term in the formula, and each part of a term, has such a value.
abbrev pub IsModerateOn : Trace → Ltl → Type 0
IsModerateOn w form.True = Unit {0}
IsModerateOn w form.False = Unit {0}
IsModerateOn w (form.Atomic a) = (i : ℕ) → IsModerateProposition (w i) (w (i + 1)) a
IsModerateOn w (form.Not f) = IsModerateOn w f
IsModerateOn w (form.And f g) = IsModerateOn w f × IsModerateOn w g
IsModerateOn w (form.Or f g) = IsModerateOn w f × IsModerateOn w g
IsModerateOn w (form.Implies f g) = IsModerateOn w f × IsModerateOn w g
IsModerateOn w (form.Iff f g) = IsModerateOn w f × IsModerateOn w g
IsModerateOn w (form.Then f) = IsModerateOn w f
IsModerateOn w (form.Until f g) = IsModerateOn w f × IsModerateOn w g
IsModerateOn w (form.Releases f g) = IsModerateOn w f × IsModerateOn w g
IsModerateOn w (form.Future f) = IsModerateOn w f
IsModerateOn w (form.Always f) = IsModerateOn w f
IsModerateOn w (form.Never f) = IsModerateOn w f
