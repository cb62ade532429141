use Rattle.std.proofs.Common.{◌≡◌, ℕ, ◌+◌, ◌<◌, ◌↔◌, Bool, true, false, Option, Some, None, length, refl, sym, ap, ◌∙◌}
use Rattle.std.proofs.lemmas.Bool.{false≢true}
use Rattle.std.specs.Option.{option_map_or}
use Rattle.oss_base.specs.declared.ids.ComponentId.{ComponentId}
use Rattle.port_types.specs.declared.types.Value.{Value}
use Rattle.typed_ltl.specs.Formulas.{Number, Choice, Proposition, Ltl}
use Rattle.typed_ltl.specs.Formulas as form
use Rattle.typed_ltl.specs.Traces.{Assignment, Trace}
use Rattle.typed_ltl.specs.Truth.{Holds, number_value, choice_name, proposition_truth, as_truth, as_number, as_name, read_value}
use Rattle.spec_model.specs.declared.spec.Spec.{Spec}
use Rattle.spec_model.specs.declared.wire.Wire.{Wire}
use Rattle.spec_model.specs.declared.wire.Target.{Target}
use Rattle.spec_model.specs.declared.wire.Source.{Source}
use Rattle.spec_model.specs.declared.wire.Source.TheVariants as source
use Rattle.spec_model.specs.Expressions.{ReadsBelow, TestReadsBelow, NumberReadsBelow, ChoiceReadsBelow}
use Rattle.spec_model.specs.Architecture.{IsWellFormed, IsStateSource, connection, free_place, ports_at, target}
use Rattle.connections.specs.Substitution.{Reading, reading, source_reading, reading_value, readings, substituted, substituted_test, substituted_number}
use Rattle.connections.specs.Substitution.{substituted_choice, truth_for, number_for, choice_for, IsStateReading}
use Rattle.connections.specs.Substitution as by
use Rattle.connections.specs.Laws.{SubstitutionKeepsTruth}
use Rattle.connections.proofs.Tells.{Tells, either_along, reaches_along, released_along, sometime_along}
use Rattle.connections.proofs.States.{state_number, state_choice, state_tells, number-next, choice-next, next_tells}

-- the value of a reading in this valuation or in the next one
abbrev pub value_at : Assignment → Assignment → Reading → Bool → Value
value_at now next r false = reading_value now r
value_at now next r true = reading_value next r

pub number_reading : (now next : Assignment) (r : Reading) (b : Bool) → IsStateReading r
    → as_number (value_at now next r b) ≡ number_value now next (number_for r b)
number_reading now next (by.Free k) false s = refl
number_reading now next (by.Free k) true s = refl
number_reading now next (by.OfTruth f) false s = refl
number_reading now next (by.OfTruth f) true s = refl
number_reading now next (by.OfNumber n) false s = sym (state_number now next n s)
number_reading now next (by.OfNumber n) true s = sym (number-next now next n)
number_reading now next (by.OfChoice n) false s = refl
number_reading now next (by.OfChoice n) true s = refl

pub name_reading : (now next : Assignment) (r : Reading) (b : Bool) → IsStateReading r
    → as_name (value_at now next r b) ≡ choice_name now next (choice_for r b)
name_reading now next (by.Free k) false s = refl
name_reading now next (by.Free k) true s = refl
name_reading now next (by.OfTruth f) false s = refl
name_reading now next (by.OfTruth f) true s = refl
name_reading now next (by.OfNumber n) false s = refl
name_reading now next (by.OfNumber n) true s = refl
name_reading now next (by.OfChoice n) false s = sym (state_choice now next n s)
name_reading now next (by.OfChoice n) true s = sym (choice-next now next n)

pub truth_reading : (free : Trace) (i : ℕ) (r : Reading) (b : Bool) → IsStateReading r
    → Tells (as_truth (value_at (free i) (free (i + 1)) r b)) (Holds free (truth_for r b) i)
truth_reading free i (by.Free k) false s = (λ h. h, λ h. h)
truth_reading free i (by.Free k) true s = (λ h. h, λ h. h)
truth_reading free i (by.OfTruth f) false s = state_tells free i f s
truth_reading free i (by.OfTruth f) true s = next_tells free i f s
truth_reading free i (by.OfNumber n) false s = (λ h. absurd h, λ e. false≢true e)
truth_reading free i (by.OfNumber n) true s = (λ h. absurd h, λ e. false≢true e)
truth_reading free i (by.OfChoice n) false s = (λ h. absurd h, λ e. false≢true e)
truth_reading free i (by.OfChoice n) true s = (λ h. absurd h, λ e. false≢true e)

-- a trace gives the ports below n the values of their readings, which read one valuation alone
pub record Follows (n : ℕ) (by : ℕ → Reading) (free w : Trace) : Type 0 where
  pub values : (i k : ℕ) → k < n → w i k ≡ reading_value (free i) (by k)
  pub states : (k : ℕ) → k < n → IsStateReading (by k)

pub read-follows : (n : ℕ) (by : ℕ → Reading) (free w : Trace) → Follows n by free w → (i p : ℕ) (b : Bool) → p < n
    → read_value (w i) (w (i + 1)) p b ≡ value_at (free i) (free (i + 1)) (by p) b
read-follows n by free w h i p true l = h.values (i + 1) p l
read-follows n by free w h i p false l = h.values i p l

pub number-follows : (n : ℕ) (by : ℕ → Reading) (free w : Trace) → Follows n by free w → (i : ℕ) (m : Number)
    → NumberReadsBelow n m
    → number_value (w i) (w (i + 1)) m ≡ number_value (free i) (free (i + 1)) (substituted_number by m)
number-follows n by free w h i (form.Literal z) l = refl
number-follows n by free w h i (form.NumberAt p b) l =
    ap as_number (read-follows n by free w h i p b l) ∙ number_reading (free i) (free (i + 1)) (by p) b (h.states p l)
number-follows n by free w h i (form.Sum a b) l = cc (number-follows n by free w h i a l.0, number-follows n by free w h i b l.1)
number-follows n by free w h i (form.Difference a b) l = cc (number-follows n by free w h i a l.0, number-follows n by free w h i b l.1)
number-follows n by free w h i (form.Opposite a) l = cc (number-follows n by free w h i a l)

pub choice-follows : (n : ℕ) (by : ℕ → Reading) (free w : Trace) → Follows n by free w → (i : ℕ) (m : Choice)
    → ChoiceReadsBelow n m
    → choice_name (w i) (w (i + 1)) m ≡ choice_name (free i) (free (i + 1)) (substituted_choice by m)
choice-follows n by free w h i (form.Named z) l = refl
choice-follows n by free w h i (form.NameAt p b) l =
    ap as_name (read-follows n by free w h i p b l) ∙ name_reading (free i) (free (i + 1)) (by p) b (h.states p l)

same_along : (b c : Bool) → b ≡ c → (b ≡ true) ↔ (c ≡ true)
same_along b c e = (λ h. sym e ∙ h, λ h. e ∙ h)

pub test_follows : (n : ℕ) (by : ℕ → Reading) (free w : Trace) → Follows n by free w → (i : ℕ) (t : Proposition)
    → TestReadsBelow n t
    → (proposition_truth (w i) (w (i + 1)) t ≡ true) ↔ Holds free (substituted_test by t) i
test_follows n by free w h i (form.TruthAt p b) l =
    let e = ap as_truth (read-follows n by free w h i p b l) in
    let t = truth_reading free i (by p) b (h.states p l) in
    (λ x. t.1 (sym e ∙ x), λ x. e ∙ t.0 x)
test_follows n by free w h i (form.Equals a b) l =
    same_along _ _ (cc (number-follows n by free w h i a l.0, number-follows n by free w h i b l.1))
test_follows n by free w h i (form.AtMost a b) l =
    same_along _ _ (cc (number-follows n by free w h i a l.0, number-follows n by free w h i b l.1))
test_follows n by free w h i (form.SameName a b) l =
    same_along _ _ (cc (choice-follows n by free w h i a l.0, choice-follows n by free w h i b l.1))

-- a formula and its substituted form have the same truth
pub truth_follows : (n : ℕ) (by : ℕ → Reading) (free w : Trace) → Follows n by free w → (f : Ltl) → ReadsBelow n f
    → (i : ℕ)
    → Holds w f i ↔ Holds free (substituted by f) i
truth_follows n by free w h form.True l i = (λ x. x, λ x. x)
truth_follows n by free w h form.False l i = (λ x. x, λ x. x)
truth_follows n by free w h (form.Atomic a) l i = test_follows n by free w h i a l
truth_follows n by free w h (form.Not f) l i =
    let s = truth_follows n by free w h f l i in
    (λ x y. x (s.1 y), λ x y. x (s.0 y))
truth_follows n by free w h (form.And f g) l i =
    let s = truth_follows n by free w h f l.0 i in
    let t = truth_follows n by free w h g l.1 i in
    (λ x. (s.0 x.0, t.0 x.1), λ x. (s.1 x.0, t.1 x.1))
truth_follows n by free w h (form.Or f g) l i =
    let s = truth_follows n by free w h f l.0 i in
    let t = truth_follows n by free w h g l.1 i in
    (either_along _ _ _ _ s.0 t.0, either_along _ _ _ _ s.1 t.1)
truth_follows n by free w h (form.Implies f g) l i =
    let s = truth_follows n by free w h f l.0 i in
    let t = truth_follows n by free w h g l.1 i in
    (λ x y. t.0 (x (s.1 y)), λ x y. t.1 (x (s.0 y)))
truth_follows n by free w h (form.Iff f g) l i =
    let s = truth_follows n by free w h f l.0 i in
    let t = truth_follows n by free w h g l.1 i in
    (λ x. (λ y. t.0 (x.0 (s.1 y)), λ y. s.0 (x.1 (t.1 y))), λ x. (λ y. t.1 (x.0 (s.0 y)), λ y. s.1 (x.1 (t.0 y))))
truth_follows n by free w h (form.Then f) l i = truth_follows n by free w h f l (i + 1)
truth_follows n by free w h (form.Until f g) l i =
    let s = truth_follows n by free w h f l.0 in
    let t = truth_follows n by free w h g l.1 in
    (reaches_along _ _ _ _ (λ j. (s j).0) (λ j. (t j).0) i, reaches_along _ _ _ _ (λ j. (s j).1) (λ j. (t j).1) i)
truth_follows n by free w h (form.Releases f g) l i =
    let s = truth_follows n by free w h f l.0 in
    let t = truth_follows n by free w h g l.1 in
    (released_along _ _ _ _ (λ j. (s j).0) (λ j. (t j).0) i, released_along _ _ _ _ (λ j. (s j).1) (λ j. (t j).1) i)
truth_follows n by free w h (form.Future f) l i =
    let s = truth_follows n by free w h f l in
    (sometime_along _ _ (λ j. (s j).0) i, sometime_along _ _ (λ j. (s j).1) i)
truth_follows n by free w h (form.Always f) l i =
    let s = truth_follows n by free w h f l in
    (λ x j le. (s j).0 (x j le), λ x j le. (s j).1 (x j le))
truth_follows n by free w h (form.Never f) l i =
    let s = truth_follows n by free w h f l in
    (λ x j le y. x j le ((s j).1 y), λ x j le y. x j le ((s j).0 y))

state_source_reading : (s : Source) → IsStateSource s → IsStateReading (source_reading s)
state_source_reading (source.Truth f) h = h
state_source_reading (source.Number t) h = h
state_source_reading (source.Choice p) h = h

state_option : (o : Option Wire) (place : ℕ) → ((w : Wire) → o ≡ Some w → IsStateSource w.source)
    → IsStateReading (option_map_or (λ (w : Wire). source_reading w.source) o (by.Free place))
state_option None place h = tt
state_option (Some w) place h = state_source_reading w.source (h w refl)

-- what a port stands for in a well formed architecture reads one valuation alone
pub state_reading : (spec : Spec) (c : ComponentId) (t : Target) → IsWellFormed spec → IsStateReading (reading spec c t)
state_reading spec c t well = state_option (connection spec c t) (free_place spec c t) (λ w e. well.wires c t w e)

pub substitution_keeps_truth : SubstitutionKeepsTruth
substitution_keeps_truth spec c s free w well held f i below =
    truth_follows (length (ports_at spec c s)) (readings spec c s) free w
    (record { values = held; states = λ k l. state_reading spec c (target s k) well })
    f below i
