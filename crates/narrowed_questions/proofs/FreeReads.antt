-- The formulas of a level read free ports alone.
use Rattle.std.proofs.Common.{◌≡◌, ℕ, ◌<◌, Bool, true, false, List, [], ◌∷◌, map, length, flat_map, Option, Some, None, slice_get, All}
use Rattle.std.proofs.Common.{refl}
use Rattle.std.specs.Option.{option_map_or}
use Rattle.std.proofs.lemmas.List.Elements.{All-append, All-nil}
use Rattle.std.proofs.lemmas.Option.{slice_get_within}
use Rattle.oss_base.specs.declared.ids.ComponentId.{ComponentId}
use Rattle.oss_base.specs.declared.ids.ContractId.{ContractId}
use Rattle.oss_base.specs.declared.ids.SubId.{SubId}
use Rattle.typed_ltl.specs.Formulas.{Number, Choice, Proposition, Ltl, meaning}
use Rattle.typed_ltl.specs.Formulas as form
use Rattle.spec_model.specs.declared.spec.Spec.{Spec}
use Rattle.spec_model.specs.declared.item.Item.{Item}
use Rattle.spec_model.specs.declared.contract.Contract.{Contract}
use Rattle.spec_model.specs.declared.wire.Wire.{Wire}
use Rattle.spec_model.specs.Expressions.{NumberReadsBelow, ChoiceReadsBelow, TestReadsBelow, ReadsBelow}
use Rattle.spec_model.specs.Architecture.{ports_of, ports_at, contracts_of, sub_component, target, connection, free_targets}
use Rattle.spec_model.specs.Architecture.{free_place, IsWellFormed}
use Rattle.connections.specs.Substitution.{Reading, source_reading, reading, readings, next_number, next_choice, next_test, next_formula}
use Rattle.connections.specs.Substitution.{truth_for, number_for, choice_for, substituted_number, substituted_choice, substituted_test, substituted}
use Rattle.connections.specs.Substitution as by
use Rattle.connections.specs.LevelFormulas.{contract_at, what_it_asks, what_it_gives, asked_over_free, given_over_free, part_over_free}
use Rattle.narrowed_questions.proofs.Locals.{at_free_place}
use Rattle.first_lasso.specs.FormulaPorts.{formula_ports}
use Rattle.levels.specs.Levels.{level_meaning, level_reads}
use Rattle.narrowed_questions.specs.NarrowedQuestions.{ReadingBelow, ReadsFreePorts}
use Rattle.narrowed_questions.proofs.StateForms.{ports_below}

-- ---- expressions read under next read the same ports

number_next : (n : ℕ) (m : Number) → NumberReadsBelow n m → NumberReadsBelow n (next_number m)
number_next n (form.Literal z) h = tt
number_next n (form.NumberAt p next) h = h
number_next n (form.Sum a b) h = (number_next n a h.0, number_next n b h.1)
number_next n (form.Difference a b) h = (number_next n a h.0, number_next n b h.1)
number_next n (form.Opposite a) h = number_next n a h

choice_next : (n : ℕ) (m : Choice) → ChoiceReadsBelow n m → ChoiceReadsBelow n (next_choice m)
choice_next n (form.Named name) h = tt
choice_next n (form.NameAt p next) h = h

test_next : (n : ℕ) (t : Proposition) → TestReadsBelow n t → TestReadsBelow n (next_test t)
test_next n (form.TruthAt p next) h = h
test_next n (form.Equals a b) h = (number_next n a h.0, number_next n b h.1)
test_next n (form.AtMost a b) h = (number_next n a h.0, number_next n b h.1)
test_next n (form.SameName a b) h = (choice_next n a h.0, choice_next n b h.1)

formula_next : (n : ℕ) (f : Ltl) → ReadsBelow n f → ReadsBelow n (next_formula f)
formula_next n form.True h = tt
formula_next n form.False h = tt
formula_next n (form.Atomic a) h = test_next n a h
formula_next n (form.Not f) h = formula_next n f h
formula_next n (form.And f g) h = (formula_next n f h.0, formula_next n g h.1)
formula_next n (form.Or f g) h = (formula_next n f h.0, formula_next n g h.1)
formula_next n (form.Implies f g) h = (formula_next n f h.0, formula_next n g h.1)
formula_next n (form.Iff f g) h = (formula_next n f h.0, formula_next n g h.1)
formula_next n (form.Then f) h = formula_next n f h
formula_next n (form.Until f g) h = (formula_next n f h.0, formula_next n g h.1)
formula_next n (form.Releases f g) h = (formula_next n f h.0, formula_next n g h.1)
formula_next n (form.Future f) h = formula_next n f h
formula_next n (form.Always f) h = formula_next n f h
formula_next n (form.Never f) h = formula_next n f h

truth_below : (n : ℕ) (r : Reading) (next : Bool) → ReadingBelow n r → ReadsBelow n (truth_for r next)
truth_below n (by.Free k) next h = h
truth_below n (by.OfTruth f) false h = h
truth_below n (by.OfTruth f) true h = formula_next n f h
truth_below n (by.OfNumber m) next h = tt
truth_below n (by.OfChoice m) next h = tt

number_for_below : (n : ℕ) (r : Reading) (next : Bool) → ReadingBelow n r → NumberReadsBelow n (number_for r next)
number_for_below n (by.Free k) next h = h
number_for_below n (by.OfTruth f) next h = tt
number_for_below n (by.OfNumber m) false h = h
number_for_below n (by.OfNumber m) true h = number_next n m h
number_for_below n (by.OfChoice m) next h = tt

choice_for_below : (n : ℕ) (r : Reading) (next : Bool) → ReadingBelow n r → ChoiceReadsBelow n (choice_for r next)
choice_for_below n (by.Free k) next h = h
choice_for_below n (by.OfTruth f) next h = tt
choice_for_below n (by.OfNumber m) next h = tt
choice_for_below n (by.OfChoice m) false h = h
choice_for_below n (by.OfChoice m) true h = choice_next n m h

-- ---- substitution

-- the ports below m stand for what reads ports below n
abbrev pub StandBelow : ℕ → ℕ → (ℕ → Reading) → Type 0
StandBelow n m told = (k : ℕ) → k < m → ReadingBelow n (told k)

number_stands : (n m : ℕ) (told : ℕ → Reading) → StandBelow n m told → (t : Number) → NumberReadsBelow m t
    → NumberReadsBelow n (substituted_number told t)
number_stands n m told s (form.Literal z) h = tt
number_stands n m told s (form.NumberAt p next) h = number_for_below n (told p) next (s p h)
number_stands n m told s (form.Sum a b) h = (number_stands n m told s a h.0, number_stands n m told s b h.1)
number_stands n m told s (form.Difference a b) h = (number_stands n m told s a h.0, number_stands n m told s b h.1)
number_stands n m told s (form.Opposite a) h = number_stands n m told s a h

choice_stands : (n m : ℕ) (told : ℕ → Reading) → StandBelow n m told → (t : Choice) → ChoiceReadsBelow m t
    → ChoiceReadsBelow n (substituted_choice told t)
choice_stands n m told s (form.Named name) h = tt
choice_stands n m told s (form.NameAt p next) h = choice_for_below n (told p) next (s p h)

test_stands : (n m : ℕ) (told : ℕ → Reading) → StandBelow n m told → (t : Proposition) → TestReadsBelow m t
    → ReadsBelow n (substituted_test told t)
test_stands n m told s (form.TruthAt p next) h = truth_below n (told p) next (s p h)
test_stands n m told s (form.Equals a b) h = (number_stands n m told s a h.0, number_stands n m told s b h.1)
test_stands n m told s (form.AtMost a b) h = (number_stands n m told s a h.0, number_stands n m told s b h.1)
test_stands n m told s (form.SameName a b) h = (choice_stands n m told s a h.0, choice_stands n m told s b h.1)

pub formula_stands : (n m : ℕ) (told : ℕ → Reading) → StandBelow n m told → (f : Ltl) → ReadsBelow m f → ReadsBelow n (substituted told f)
formula_stands n m told s form.True h = tt
formula_stands n m told s form.False h = tt
formula_stands n m told s (form.Atomic a) h = test_stands n m told s a h
formula_stands n m told s (form.Not f) h = formula_stands n m told s f h
formula_stands n m told s (form.And f g) h = (formula_stands n m told s f h.0, formula_stands n m told s g h.1)
formula_stands n m told s (form.Or f g) h = (formula_stands n m told s f h.0, formula_stands n m told s g h.1)
formula_stands n m told s (form.Implies f g) h = (formula_stands n m told s f h.0, formula_stands n m told s g h.1)
formula_stands n m told s (form.Iff f g) h = (formula_stands n m told s f h.0, formula_stands n m told s g h.1)
formula_stands n m told s (form.Then f) h = formula_stands n m told s f h
formula_stands n m told s (form.Until f g) h = (formula_stands n m told s f h.0, formula_stands n m told s g h.1)
formula_stands n m told s (form.Releases f g) h = (formula_stands n m told s f h.0, formula_stands n m told s g h.1)
formula_stands n m told s (form.Future f) h = formula_stands n m told s f h
formula_stands n m told s (form.Always f) h = formula_stands n m told s f h
formula_stands n m told s (form.Never f) h = formula_stands n m told s f h

-- ---- the ports of a component and of its subcomponents stand for what reads free ports

reading_below : (spec : Spec) (c : ComponentId) (s : Option SubId) (k : ℕ) → ReadsFreePorts spec
    → k < length (ports_at spec c s) → (o : Option Wire) → connection spec c (target s k) ≡ o
    → ReadingBelow (length (free_targets spec c))
    (option_map_or (λ (w : Wire). source_reading w.source) o (by.Free (free_place spec c (target s k))))
reading_below spec c s k reads lt None e =
    slice_get_within (free_targets spec c) (free_place spec c (target s k)) (target s k) (at_free_place spec c s k lt e)
reading_below spec c s k reads lt (Some w) e = reads.sources c (target s k) w e

pub readings_below : (spec : Spec) (c : ComponentId) (s : Option SubId) → ReadsFreePorts spec
    → StandBelow (length (free_targets spec c)) (length (ports_at spec c s)) (readings spec c s)
readings_below spec c s reads k lt = reading_below spec c s k reads lt (connection spec c (target s k)) refl

-- ---- contracts read ports of their component

option_reads : (o : Option Contract) (n : ℕ) (part : Contract → Ltl) → ((k : Contract) → o ≡ Some k → ReadsBelow n (part k))
    → ReadsBelow n (option_map_or part o form.True)
option_reads None n part h = tt
option_reads (Some k) n part h = h k refl

-- both formulas of a contract
pub record ContractReads (n : ℕ) (k : Option Contract) : Type 0 where
  pub asks : ReadsBelow n (what_it_asks k)
  pub gives : ReadsBelow n (what_it_gives k)

own_reads : (spec : Spec) → IsWellFormed spec → (c : ComponentId) (d : ContractId)
    → ContractReads (length (ports_of spec c)) (slice_get (contracts_of spec c) d.0)
own_reads spec well c d =
    let n : ℕ = length (ports_of spec c) in
    record {
      asks = option_reads (slice_get (contracts_of spec c) d.0) n (λ (k : Contract). meaning k.assume) (λ k e. (well.contracts c d k e).0);
      gives = option_reads (slice_get (contracts_of spec c) d.0) n (λ (k : Contract). meaning k.guarantee) (λ k e. (well.contracts c d k e).1);
    }

sub_reads : (spec : Spec) → IsWellFormed spec → (o : Option ComponentId) (d : ContractId)
    → ContractReads (length (option_map_or (ports_of spec) o [])) (slice_get (option_map_or (contracts_of spec) o []) d.0)
sub_reads spec well None d = record { asks = tt; gives = tt }
sub_reads spec well (Some b) d = own_reads spec well b d

pub contract_reads : (spec : Spec) → IsWellFormed spec → (c : ComponentId) (s : Option SubId) (d : ContractId)
    → ContractReads (length (ports_at spec c s)) (contract_at spec c s d)
contract_reads spec well c None d = own_reads spec well c d
contract_reads spec well c (Some s) d = sub_reads spec well (sub_component spec c s) d

-- ---- so the formulas of a level read free ports

abbrev pub BelowFree : Spec → ComponentId → ℕ → Type 0
BelowFree spec c p = p < length (free_targets spec c)

pub asked_reads : (spec : Spec) → ReadsFreePorts spec → (c : ComponentId) (s : Option SubId) (d : ContractId)
    → ReadsBelow (length (free_targets spec c)) (asked_over_free spec c s d)
asked_reads spec reads c s d =
    formula_stands (length (free_targets spec c)) (length (ports_at spec c s)) (readings spec c s) (readings_below spec c s reads)
    (what_it_asks (contract_at spec c s d)) (contract_reads spec reads.well_formed c s d).asks

pub given_reads : (spec : Spec) → ReadsFreePorts spec → (c : ComponentId) (s : Option SubId) (d : ContractId)
    → ReadsBelow (length (free_targets spec c)) (given_over_free spec c s d)
given_reads spec reads c s d =
    formula_stands (length (free_targets spec c)) (length (ports_at spec c s)) (readings spec c s) (readings_below spec c s reads)
    (what_it_gives (contract_at spec c s d)) (contract_reads spec reads.well_formed c s d).gives

asked_below : (spec : Spec) → ReadsFreePorts spec → (c : ComponentId) (s : Option SubId) (d : ContractId)
    → All (BelowFree spec c) (formula_ports (asked_over_free spec c s d))
asked_below spec reads c s d =
    ports_below (length (free_targets spec c)) (asked_over_free spec c s d) (asked_reads spec reads c s d)

given_below : (spec : Spec) → ReadsFreePorts spec → (c : ComponentId) (s : Option SubId) (d : ContractId)
    → All (BelowFree spec c) (formula_ports (given_over_free spec c s d))
given_below spec reads c s d =
    ports_below (length (free_targets spec c)) (given_over_free spec c s d) (given_reads spec reads c s d)

parts_below : (spec : Spec) → ReadsFreePorts spec → (c : ComponentId) (parts : List (SubId × ContractId))
    → All (BelowFree spec c)
    (flat_map formula_ports (flat_map (λ (part : SubId × Ltl × Ltl). part.1 ∷ part.2 ∷ []) (map (part_over_free spec c) parts)))
parts_below spec reads c [] = All-nil (BelowFree spec c)
parts_below spec reads c (part ∷ parts) =
    let a = asked_below spec reads c (Some part.0) part.1 in
    let b = given_below spec reads c (Some part.0) part.1 in
    All-append (BelowFree spec c) (formula_ports (asked_over_free spec c (Some part.0) part.1)) _ a
    (All-append (BelowFree spec c) (formula_ports (given_over_free spec c (Some part.0) part.1)) _ b (parts_below spec reads c parts))

pub level_reads_free : (spec : Spec) → ReadsFreePorts spec → (item : Item)
    → All (λ p. p < length (free_targets spec item.component)) (level_reads (level_meaning spec item))
level_reads_free spec reads item =
    let c = item.component in
    All-append (BelowFree spec item.component) (formula_ports (asked_over_free spec c None item.contract)) _ (asked_below spec reads c None item.contract)
    (All-append (BelowFree spec item.component) (formula_ports (given_over_free spec c None item.contract)) _ (given_below spec reads c None item.contract)
    (parts_below spec reads c item.parts))
