-- Substitution of connections (Cimatti and Tonetta, Contracts-refinement proof system for
-- component-based embedded systems, 2015: the connections of a refinement give each connected port a
-- term over the others).
use Rattle.std.specs.Prelude.{ℕ, Bool, true, false, cond, not, ◌&&◌, ◌||◌, Option, [], pos}
use Rattle.std.specs.Option.{option_map_or}
use Rattle.oss_base.specs.declared.ids.ComponentId.{ComponentId}
use Rattle.oss_base.specs.declared.ids.SubId.{SubId}
use Rattle.port_types.specs.declared.types.Value.{Value}
use Rattle.port_types.specs.declared.types.Value.TheVariants as value
use Rattle.typed_ltl.specs.Formulas.{Number, Choice, Proposition, Ltl, meaning, number_of, choice_of}
use Rattle.typed_ltl.specs.Formulas as form
use Rattle.typed_ltl.specs.Traces.{Assignment}
use Rattle.typed_ltl.specs.Truth.{number_value, choice_name, proposition_truth}
use Rattle.spec_model.specs.declared.spec.Spec.{Spec}
use Rattle.spec_model.specs.declared.wire.Wire.{Wire}
use Rattle.spec_model.specs.declared.wire.Target.{Target}
use Rattle.spec_model.specs.declared.wire.Source.{Source}
use Rattle.spec_model.specs.declared.wire.Source.TheVariants as source
use Rattle.spec_model.specs.Expressions.{IsState, IsStateNumber, IsStateChoice}
use Rattle.spec_model.specs.Architecture.{connection, free_place, target}

-- The truth value of a formula at a valuation and the next one. A temporal formula has none, and counts
-- as false.
abbrev pub step_truth : Assignment → Assignment → Ltl → Bool
step_truth now next form.True = true
step_truth now next form.False = false
step_truth now next (form.Atomic a) = proposition_truth now next a
step_truth now next (form.Not f) = not (step_truth now next f)
step_truth now next (form.And f g) = step_truth now next f && step_truth now next g
step_truth now next (form.Or f g) = step_truth now next f || step_truth now next g
step_truth now next (form.Implies f g) = not (step_truth now next f) || step_truth now next g
step_truth now next (form.Iff f g) = cond (step_truth now next f) (step_truth now next g) (not (step_truth now next g))
step_truth now next (form.Then f) = false
step_truth now next (form.Until f g) = false
step_truth now next (form.Releases f g) = false
step_truth now next (form.Future f) = false
step_truth now next (form.Always f) = false
step_truth now next (form.Never f) = false

-- the truth value of a state formula
abbrev pub state_truth : Assignment → Ltl → Bool
state_truth now f = step_truth now now f

-- What a port stands for in a level: itself, at its place in the free order, or the expression of its
-- connection, over the places of the free order.
pub data Reading : Type 0 where
  Free : ℕ → Reading
  OfTruth : Ltl → Reading
  OfNumber : Number → Reading
  OfChoice : Choice → Reading

abbrev pub source_reading : Source → Reading
source_reading (source.Truth f) = OfTruth (meaning f)
source_reading (source.Number t) = OfNumber (number_of t)
source_reading (source.Choice p) = OfChoice (choice_of p)

abbrev pub reading : Spec → ComponentId → Target → Reading
reading spec c t = option_map_or (λ (w : Wire). source_reading w.source) (connection spec c t) (Free (free_place spec c
    t))

-- the readings of the ports of the component itself, or of one of its subcomponents
abbrev pub readings : Spec → ComponentId → Option SubId → ℕ → Reading
readings spec c s k = reading spec c (target s k)

-- the value of what a port stands for
abbrev pub reading_value : Assignment → Reading → Value
reading_value free (Free k) = free k
reading_value free (OfTruth f) = value.Bool (state_truth free f)
reading_value free (OfNumber n) = value.Int (number_value free free n)
reading_value free (OfChoice n) = value.Name (choice_name free free n)

-- the value of a port, where the free ports have these values: for a connected one that of its
-- connection's expression
abbrev pub port_value : Spec → ComponentId → Assignment → Option SubId → ℕ → Value
port_value spec c free s k = reading_value free (readings spec c s k)

-- The same expression with each port read in the next valuation.
abbrev pub next_number : Number → Number
next_number (form.Literal z) = form.Literal z
next_number (form.NumberAt p next) = form.NumberAt p true
next_number (form.Sum a b) = form.Sum (next_number a) (next_number b)
next_number (form.Difference a b) = form.Difference (next_number a) (next_number b)
next_number (form.Opposite a) = form.Opposite (next_number a)

abbrev pub next_choice : Choice → Choice
next_choice (form.Named n) = form.Named n
next_choice (form.NameAt p next) = form.NameAt p true

abbrev pub next_test : Proposition → Proposition
next_test (form.TruthAt p next) = form.TruthAt p true
next_test (form.Equals a b) = form.Equals (next_number a) (next_number b)
next_test (form.AtMost a b) = form.AtMost (next_number a) (next_number b)
next_test (form.SameName a b) = form.SameName (next_choice a) (next_choice b)

abbrev pub next_formula : Ltl → Ltl
next_formula form.True = form.True
next_formula form.False = form.False
next_formula (form.Atomic a) = form.Atomic (next_test a)
next_formula (form.Not f) = form.Not (next_formula f)
next_formula (form.And f g) = form.And (next_formula f) (next_formula g)
next_formula (form.Or f g) = form.Or (next_formula f) (next_formula g)
next_formula (form.Implies f g) = form.Implies (next_formula f) (next_formula g)
next_formula (form.Iff f g) = form.Iff (next_formula f) (next_formula g)
next_formula (form.Then f) = form.Then (next_formula f)
next_formula (form.Until f g) = form.Until (next_formula f) (next_formula g)
next_formula (form.Releases f g) = form.Releases (next_formula f) (next_formula g)
next_formula (form.Future f) = form.Future (next_formula f)
next_formula (form.Always f) = form.Always (next_formula f)
next_formula (form.Never f) = form.Never (next_formula f)

-- What stands for a port where it is read as a truth value, as a number, as a name, in this valuation
-- or in the next one. A reading of another kind counts as false, 0, the empty name.
abbrev pub truth_for : Reading → Bool → Ltl
truth_for (Free k) next = form.Atomic (form.TruthAt k next)
truth_for (OfTruth f) false = f
truth_for (OfTruth f) true = next_formula f
truth_for (OfNumber n) next = form.False
truth_for (OfChoice n) next = form.False

abbrev pub number_for : Reading → Bool → Number
number_for (Free k) next = form.NumberAt k next
number_for (OfTruth f) next = form.Literal (pos 0)
number_for (OfNumber n) false = n
number_for (OfNumber n) true = next_number n
number_for (OfChoice n) next = form.Literal (pos 0)

abbrev pub choice_for : Reading → Bool → Choice
choice_for (Free k) next = form.NameAt k next
choice_for (OfTruth f) next = form.Named []
choice_for (OfNumber n) next = form.Named []
choice_for (OfChoice n) false = n
choice_for (OfChoice n) true = next_choice n

-- An expression with each port replaced by what it stands for. Nothing is simplified.
abbrev pub substituted_number : (ℕ → Reading) → Number → Number
substituted_number by (form.Literal z) = form.Literal z
substituted_number by (form.NumberAt p next) = number_for (by p) next
substituted_number by (form.Sum a b) = form.Sum (substituted_number by a) (substituted_number by b)
substituted_number by (form.Difference a b) = form.Difference (substituted_number by a) (substituted_number by b)
substituted_number by (form.Opposite a) = form.Opposite (substituted_number by a)

abbrev pub substituted_choice : (ℕ → Reading) → Choice → Choice
substituted_choice by (form.Named n) = form.Named n
substituted_choice by (form.NameAt p next) = choice_for (by p) next

abbrev pub substituted_test : (ℕ → Reading) → Proposition → Ltl
substituted_test by (form.TruthAt p next) = truth_for (by p) next
substituted_test by (form.Equals a b) = form.Atomic (form.Equals (substituted_number by a) (substituted_number by b))
substituted_test by (form.AtMost a b) = form.Atomic (form.AtMost (substituted_number by a) (substituted_number by b))
substituted_test by (form.SameName a b) = form.Atomic (form.SameName (substituted_choice by a) (substituted_choice by
    b))

abbrev pub substituted : (ℕ → Reading) → Ltl → Ltl
substituted by form.True = form.True
substituted by form.False = form.False
substituted by (form.Atomic a) = substituted_test by a
substituted by (form.Not f) = form.Not (substituted by f)
substituted by (form.And f g) = form.And (substituted by f) (substituted by g)
substituted by (form.Or f g) = form.Or (substituted by f) (substituted by g)
substituted by (form.Implies f g) = form.Implies (substituted by f) (substituted by g)
substituted by (form.Iff f g) = form.Iff (substituted by f) (substituted by g)
substituted by (form.Then f) = form.Then (substituted by f)
substituted by (form.Until f g) = form.Until (substituted by f) (substituted by g)
substituted by (form.Releases f g) = form.Releases (substituted by f) (substituted by g)
substituted by (form.Future f) = form.Future (substituted by f)
substituted by (form.Always f) = form.Always (substituted by f)
substituted by (form.Never f) = form.Never (substituted by f)

-- what a port stands for reads one valuation alone
abbrev pub IsStateReading : Reading → Type 0
IsStateReading (Free k) = Unit {0}
IsStateReading (OfTruth f) = IsState f
IsStateReading (OfNumber n) = IsStateNumber n
IsStateReading (OfChoice n) = IsStateChoice n
