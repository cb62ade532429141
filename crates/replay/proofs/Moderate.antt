-- The terms of contracts and connections are moderate on the trace of a lasso of a specification with small numbers.
use Rattle.std.proofs.Common.{◌≡◌, ℕ, zero, suc, ◌≤◌, inl, inr, pos, Bool, true, false, cond, List, [], ◌∷◌, length, map, get_or, find, Option, Some, None}
use Rattle.std.proofs.Common.{slice_get, refl, sym, subst, arith}
use Rattle.std.specs.Prelude.{All}
use Rattle.std.proofs.lemmas.Bool.{cases_lt}
use Rattle.std.proofs.lemmas.Int.{ints}
use Rattle.std.proofs.lemmas.List.{get_or_past}
use Rattle.std.proofs.lemmas.List.Elements.{All-from_recursion}
use Rattle.std.proofs.lemmas.Option.{none-some, slice_get-get_or}
use Rattle.std.specs.List.{AllByRecursion, range_with_len}
use Rattle.std.specs.Option.{option_map_or}
use Rattle.port_types.specs.Types.{IsOfType, IsSignedNumeral}
use Rattle.port_types.specs.declared.types.PortType.{PortType}
use Rattle.port_types.specs.declared.types.PortType.TheVariants as kind
use Rattle.port_types.specs.declared.types.Value.{Value}
use Rattle.port_types.specs.declared.types.Value.TheVariants as value
use Rattle.oss_base.specs.declared.ids.ComponentId.{ComponentId}
use Rattle.oss_base.specs.declared.ids.SubId.{SubId}
use Rattle.typed_ltl.specs.Formulas.{meaning, number_of}
use Rattle.typed_ltl.specs.Traces.{Assignment, Trace, assignment, lasso_place}
use Rattle.typed_ltl.specs.Truth.{as_number}
use Rattle.spec_model.specs.Architecture.{contracts_of, sub_component, ports_at, wires_of, free_targets, port_at, target, same_target, connection, free_place}
use Rattle.spec_model.specs.declared.contract.Contract.{Contract}
use Rattle.spec_model.specs.declared.port.OwnPort.{OwnPort}
use Rattle.spec_model.specs.declared.spec.Spec.{Spec}
use Rattle.spec_model.specs.declared.wire.Source.{Source}
use Rattle.spec_model.specs.declared.wire.Source.TheVariants as source
use Rattle.spec_model.specs.declared.wire.Target.{Target}
use Rattle.spec_model.specs.declared.wire.Wire.{Wire}
use Rattle.spec_values.specs.FreeTypes.{HasFreeTypes, SourceHasType, SourcesKeepTypes}
use Rattle.spec_values.specs.Laws.{ShortIsModerate, ShortIsModerateOn}
use Rattle.spec_values.specs.SmallNumbers.{HoldsNumerals, HasShortTerms, SourceIsShort, HasNumeralEnds, HasSmallNumbers}
use Rattle.connections.specs.LevelFormulas.{contracts_at}
use Rattle.connections.specs.Substitution.{source_reading, reading_value, port_value}
use Rattle.connections.specs.Substitution as readings
use Rattle.replay.specs.FreePortNames.{free_names}
use Rattle.spec_model.specs.FreeTypes.{type_of_target, free_types}
use Rattle.replay.specs.Judgements.{seen_values, seen_trace, IsModerateSource, AreModerateWires, IsModerateContract}
use Rattle.replay.specs.Laws.{LassosAreModerate}
use Rattle.replay.proofs.LassoTypes.{IsTypedState, lasso_typed, free_typed}

-- a value read as a number is a numeral
abbrev pub IsNumeral : Value → Type 0
IsNumeral v = IsSignedNumeral (as_number v)

zero_is : IsSignedNumeral (pos 0)
zero_is = (omega (arith, ints), omega (arith, ints))

typed_numeral : (type : PortType) (v : Value) → HasNumeralEnds type → IsOfType type v → IsNumeral v
typed_numeral type (value.Bool b) ends h = zero_is
typed_numeral kind.Bool (value.Int z) ends h = absurd h
typed_numeral (kind.Range lo hi) (value.Int z) ends h =
    (omega (arith, ints, ends.0.0, h.0), omega (arith, ints, ends.1.1, h.1))
typed_numeral (kind.Enum names) (value.Int z) ends h = absurd h
typed_numeral type (value.Name n) ends h = zero_is

source_numeral : (free : Assignment) (type : PortType) (s : Source) → HasNumeralEnds type → SourceHasType type free s
    → IsNumeral (reading_value free (source_reading s))
source_numeral free type (source.Truth f) ends h = zero_is
source_numeral free type (source.Number t) ends h = typed_numeral type (reading_value free (source_reading (source.Number t))) ends h
source_numeral free type (source.Choice p) ends h = zero_is

-- lists

pub kept_ends : {X : Type 0} (f : X → PortType) → ((x : X) → HasNumeralEnds (f x)) → (xs : List X) (p : ℕ)
    → HasNumeralEnds (get_or (map f xs) p kind.Bool)
kept_ends f so [] zero = tt
kept_ends f so [] (suc p) = tt
kept_ends f so (x ∷ xs) zero = so x
kept_ends f so (x ∷ xs) (suc p) = kept_ends f so xs p

kept_numerals : {X : Type 0} (f : X → Value) → ((x : X) → IsNumeral (f x)) → (xs : List X) (p : ℕ)
    → IsNumeral (get_or (map f xs) p (value.Bool false))
kept_numerals f so [] zero = zero_is
kept_numerals f so [] (suc p) = zero_is
kept_numerals f so (x ∷ xs) zero = so x
kept_numerals f so (x ∷ xs) (suc p) = kept_numerals f so xs p

kept_states : {X : Type 0} (P : X → Type 0) (f : X → List Value) → ((x : X) → P x → HoldsNumerals (assignment (f x)))
    → (xs : List X) → AllByRecursion P xs → (place port : ℕ) → IsNumeral (assignment (get_or (map f xs) place []) port)
kept_states P f so [] each zero zero = zero_is
kept_states P f so [] each zero (suc p) = zero_is
kept_states P f so [] each (suc place) zero = zero_is
kept_states P f so [] each (suc place) (suc p) = zero_is
kept_states P f so (x ∷ xs) each zero p = so x each.0 p
kept_states P f so (x ∷ xs) each (suc place) p = kept_states P f so xs each.1 place p

each_shown : {X : Type 0} (P Q : X → Type 0) → ((x : X) → P x → Q x) → (xs : List X) → AllByRecursion P xs
    → AllByRecursion Q xs
each_shown P Q so [] each = tt
each_shown P Q so (x ∷ xs) each = (so x each.0, each_shown P Q so xs each.1)

all_there : {X : Type 0} (P : X → Type 0) (xs : List X) → ((k : ℕ) (x : X) → slice_get xs k ≡ Some x → P x) → All P xs
all_there P xs so k d l = so k (get_or xs k d) (slice_get-get_or xs k d l)

found_there : {X : Type 0} (test : X → Bool) (xs : List X) (x : X) → find test xs ≡ Some x
    → (k : ℕ) × (slice_get xs k ≡ Some x)
found_there test [] x e = absurd (none-some x e)
found_there {X = X} test (y ∷ xs) x e = by (test y) (found_there test xs x) e
  where
    by : (b : Bool) → (find test xs ≡ Some x → (k : ℕ) × (slice_get xs k ≡ Some x))
        → cond b (Some y) (find test xs) ≡ Some x
        → (k : ℕ) × (slice_get (y ∷ xs) k ≡ Some x)
    by true later h = (0, h)
    by false later h = let found = later h in (suc found.0, found.1)

module _ (spec : Spec) (small : HasSmallNumbers spec) where
  -- the free ports hold numerals

  pub kind_ends : (c : ComponentId) (t : Target) → HasNumeralEnds (type_of_target spec c t)
  kind_ends c t = by (port_at spec c t) (small.ports c t)
    where
      by : (o : Option OwnPort) → ((port : OwnPort) → o ≡ Some port → HasNumeralEnds port.kind)
          → HasNumeralEnds (option_map_or (λ (port : OwnPort). port.kind) o kind.Bool)
      by None so = tt
      by (Some port) so = so port refl

  free_numerals : (c : ComponentId) (values : List Value) → IsTypedState (free_names spec c) (free_types spec c) values
      → HoldsNumerals (assignment values)
  free_numerals c values typed p =
      elim (cases_lt p (length (free_names spec c))) [
        | inl l ↦ typed_numeral (get_or (free_types spec c) p kind.Bool) (assignment values p)
            (kept_ends (type_of_target spec c) (kind_ends c) (free_targets spec c) p) (typed.1 p l)
        | inr l ↦
            let past : length values ≤ p = omega (arith, typed.0, l) in
            subst IsNumeral (sym (get_or_past values p (value.Bool false) past)) zero_is
      ]

  -- all ports hold numerals

  module _ (types : SourcesKeepTypes spec) (c : ComponentId) (s : Option SubId) where
    port_numeral : (free : Assignment) → HasFreeTypes spec c free → HoldsNumerals free → (k : ℕ) → IsNumeral
        (port_value spec c free s k)
    port_numeral free typed numerals k = by (connection spec c (target s k)) refl
      where
        by : (o : Option Wire) → connection spec c (target s k) ≡ o
            → IsNumeral (reading_value free
            (option_map_or (λ (w : Wire). source_reading w.source) o (readings.Free (free_place spec c (target s k)))))
        by None e = numerals (free_place spec c (target s k))
        by (Some w) e =
            let there = found_there (λ (v : Wire). same_target v.target (target s k)) (wires_of spec c) w e in
            let fits = types c there.0 w there.1 in
            source_numeral free fits.0.kind w.source (small.ports c w.target fits.0 fits.1) (fits.2 free typed)

    seen_numerals : (values : List Value) → IsTypedState (free_names spec c) (free_types spec c) values
        → HoldsNumerals (assignment (seen_values spec c s values))
    seen_numerals values typed p =
        kept_numerals (port_value spec c (assignment values) s)
        (port_numeral (assignment values) (free_typed spec c values typed) (free_numerals c values typed)) (range_with_len 0 (length (ports_at spec c s))) p

  -- contracts

  contracts_short : (c : ComponentId) (s : Option SubId) (k : ℕ) (x : Contract) → slice_get (contracts_at spec c s) k
      ≡ Some x
      → HasShortTerms (meaning x.assume) × HasShortTerms (meaning x.guarantee)
  contracts_short c None k x at = small.contracts c k x at
  contracts_short c (Some s) k x at = by (sub_component spec c s) at
    where
      by : (o : Option ComponentId) → slice_get (option_map_or (contracts_of spec) o []) k ≡ Some x
          → HasShortTerms (meaning x.assume) × HasShortTerms (meaning x.guarantee)
      by None e = absurd (nothing k e)
        where
          nothing : (n : ℕ) → slice_get {X = Contract} [] n ≡ Some x → ⊥
          nothing zero h = none-some x h
          nothing (suc n) h = none-some x h
      by (Some b) e = small.contracts b k x e

module _ (moderate : ShortIsModerate) (moderate_on : ShortIsModerateOn) where
  source_moderate : (free : Assignment) → HoldsNumerals free → (s : Source) → SourceIsShort s → IsModerateSource free s
  source_moderate free numerals (source.Truth f) short = moderate_on (λ _. free) (λ _. numerals) (meaning f) short
  source_moderate free numerals (source.Number t) short = moderate free free numerals numerals (number_of t) short
  source_moderate free numerals (source.Choice p) short = tt

  contract_moderate : (w : Trace) → ((i : ℕ) → HoldsNumerals (w i)) → (k : Contract)
      → HasShortTerms (meaning k.assume) × HasShortTerms (meaning k.guarantee) → IsModerateContract w k
  contract_moderate w numerals k short =
      (moderate_on w numerals (meaning k.assume) short.0, moderate_on w numerals (meaning k.guarantee) short.1)

  pub lassos_are_moderate : LassosAreModerate
  lassos_are_moderate spec bytes named small types lasso =
      let c : ComponentId = named.component in
      let states : List (List Value) = named.lasso.states in
      let Typed : List Value → Type 0 = IsTypedState (free_names spec c) (free_types spec c) in
      let typed = lasso_typed spec bytes named lasso in
      record {
        wires = All-from_recursion (AreModerateWires (wires_of spec c)) states
            (each_shown Typed (AreModerateWires (wires_of spec c))
            (λ values fits. all_there (λ (w : Wire). IsModerateSource (assignment values) w.source) (wires_of spec c)
            (λ k w at. source_moderate (assignment values) (free_numerals spec small c values fits) w.source (small.wires c k w at))) states typed);
        contracts = λ s.
            let seen : Trace = seen_trace spec named s in
            let numerals : (i : ℕ) → HoldsNumerals (seen i) = (λ i. kept_states Typed (seen_values spec c s) (seen_numerals spec small types c s) states typed
            (lasso_place (length (map (seen_values spec c s) states)) named.lasso.loop_at i)) in
            all_there (IsModerateContract seen) (contracts_at spec c s) (λ k x at. contract_moderate seen numerals x (contracts_short spec small c s k x at));
      }
