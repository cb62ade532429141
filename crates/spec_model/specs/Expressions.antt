-- Expressions over the ports of one valuation, and which ports an expression reads.

use Rattle.std.specs.Prelude.{◌≡◌, ℕ, ◌<◌, Bool, false}
use Rattle.typed_ltl.specs.Formulas.{Number, Choice, Proposition, Ltl}
use Rattle.typed_ltl.specs.Formulas as form

-- A state expression reads one valuation alone: no port under `next`, and no temporal operator (the
-- state formulas of Manna and Pnueli, The Temporal Logic of Reactive and Concurrent Systems, 1992).
abbrev pub IsStateNumber : Number → Type 0
IsStateNumber (form.Literal z) = Unit {0}
IsStateNumber (form.NumberAt p next) = next ≡ false
IsStateNumber (form.Sum a b) = IsStateNumber a × IsStateNumber b
IsStateNumber (form.Difference a b) = IsStateNumber a × IsStateNumber b
IsStateNumber (form.Opposite a) = IsStateNumber a

abbrev pub IsStateChoice : Choice → Type 0
IsStateChoice (form.Named n) = Unit {0}
IsStateChoice (form.NameAt p next) = next ≡ false

abbrev pub IsStateTest : Proposition → Type 0
IsStateTest (form.TruthAt p next) = next ≡ false
IsStateTest (form.Equals a b) = IsStateNumber a × IsStateNumber b
IsStateTest (form.AtMost a b) = IsStateNumber a × IsStateNumber b
IsStateTest (form.SameName a b) = IsStateChoice a × IsStateChoice b

abbrev pub IsState : Ltl → Type 0
IsState form.True = Unit {0}
IsState form.False = Unit {0}
IsState (form.Atomic a) = IsStateTest a
IsState (form.Not f) = IsState f
IsState (form.And f g) = IsState f × IsState g
IsState (form.Or f g) = IsState f × IsState g
IsState (form.Implies f g) = IsState f × IsState g
IsState (form.Iff f g) = IsState f × IsState g
IsState (form.Then f) = ⊥
IsState (form.Until f g) = ⊥
IsState (form.Releases f g) = ⊥
IsState (form.Future f) = ⊥
IsState (form.Always f) = ⊥
IsState (form.Never f) = ⊥

-- Each port that the expression reads has a number below n.
abbrev pub NumberReadsBelow : ℕ → Number → Type 0
NumberReadsBelow n (form.Literal z) = Unit {0}
NumberReadsBelow n (form.NumberAt p next) = p < n
NumberReadsBelow n (form.Sum a b) = NumberReadsBelow n a × NumberReadsBelow n b
NumberReadsBelow n (form.Difference a b) = NumberReadsBelow n a × NumberReadsBelow n b
NumberReadsBelow n (form.Opposite a) = NumberReadsBelow n a

abbrev pub ChoiceReadsBelow : ℕ → Choice → Type 0
ChoiceReadsBelow n (form.Named name) = Unit {0}
ChoiceReadsBelow n (form.NameAt p next) = p < n

abbrev pub TestReadsBelow : ℕ → Proposition → Type 0
TestReadsBelow n (form.TruthAt p next) = p < n
TestReadsBelow n (form.Equals a b) = NumberReadsBelow n a × NumberReadsBelow n b
TestReadsBelow n (form.AtMost a b) = NumberReadsBelow n a × NumberReadsBelow n b
TestReadsBelow n (form.SameName a b) = ChoiceReadsBelow n a × ChoiceReadsBelow n b

abbrev pub ReadsBelow : ℕ → Ltl → Type 0
ReadsBelow n form.True = Unit {0}
ReadsBelow n form.False = Unit {0}
ReadsBelow n (form.Atomic a) = TestReadsBelow n a
ReadsBelow n (form.Not f) = ReadsBelow n f
ReadsBelow n (form.And f g) = ReadsBelow n f × ReadsBelow n g
ReadsBelow n (form.Or f g) = ReadsBelow n f × ReadsBelow n g
ReadsBelow n (form.Implies f g) = ReadsBelow n f × ReadsBelow n g
ReadsBelow n (form.Iff f g) = ReadsBelow n f × ReadsBelow n g
ReadsBelow n (form.Then f) = ReadsBelow n f
ReadsBelow n (form.Until f g) = ReadsBelow n f × ReadsBelow n g
ReadsBelow n (form.Releases f g) = ReadsBelow n f × ReadsBelow n g
ReadsBelow n (form.Future f) = ReadsBelow n f
ReadsBelow n (form.Always f) = ReadsBelow n f
ReadsBelow n (form.Never f) = ReadsBelow n f
