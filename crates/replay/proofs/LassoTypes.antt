-- Each state of a lasso that a text means gives each free port a value of its type.
use Rattle.std.proofs.Common.{◌≡◌, ℕ, ◌+◌, ◌<◌, inl, inr, Bool, true, cond, nat_eq, List, [], ◌∷◌, length, get_or, Option, Some}
use Rattle.std.proofs.Common.{option_map, sym, ap, subst, ◌∙◌, arith}
use Rattle.std.proofs.lemmas.Bool.{cases_Bool, eqb-true}
use Rattle.std.proofs.lemmas.List.{length-map}
use Rattle.std.proofs.lemmas.List.Elements.{recursion_from_All}
use Rattle.std.proofs.lemmas.List.Sums.{sum_by-cons}
use Rattle.std.proofs.lemmas.Option.{slice_get-map, slice_get_within, get_or_from_slice_get}
use Rattle.std.specs.List.{AllByRecursion, count_by}
use Rattle.std.specs.Option.{option_map_or}
use Rattle.port_types.specs.Types.{IsOfType}
use Rattle.port_types.specs.declared.types.PortType.{PortType}
use Rattle.port_types.specs.declared.types.PortType.TheVariants as kind
use Rattle.port_types.specs.declared.types.Value.{Value}
use Rattle.oss_base.specs.declared.ids.ComponentId.{ComponentId}
use Rattle.typed_ltl.specs.Traces.{assignment}
use Rattle.spec_model.specs.Architecture.{free_targets}
use Rattle.spec_model.specs.declared.port.OwnPort.{OwnPort}
use Rattle.spec_model.specs.declared.spec.Spec.{Spec}
use Rattle.spec_values.specs.FreeTypes.{HasFreeTypes}
use Rattle.replay.specs.declared.named.NamedLasso.{NamedLasso}
use Rattle.replay.specs.FreePortNames.{port_text, free_names}
use Rattle.spec_model.specs.FreeTypes.{type_of_target, free_types}
use Rattle.replay.specs.TextLines.{NumberedLine, lines_that_count}
use Rattle.replay.specs.LassoFiles.{assigned_place, Assigns, value_at_place, AreAssignments, IsStateLine, AreStateLines, IsBlock, IsLasso}

-- a fact that each element which passes shows, where some does
module _ {X : Type 0} (p : X → Bool) (P : X → Type 0) {Q : Type 0} (so : (x : X) → p x ≡ true → P x → Q) where
  some_passes : (xs : List X) → AllByRecursion P xs → 0 < count_by p xs → Q
  some_passes [] each l = absurd (let none : 0 < 0 = l in omega (arith, none))
  some_passes (x ∷ xs) each l =
      elim (cases_Bool (p x)) [
        | inl passes ↦ so x passes each.0
        | inr fails ↦
            let count : count_by p (x ∷ xs) ≡ cond (p x) 1 0 + count_by p xs = sum_by-cons (λ y. cond (p y) 1 0) x xs in
            let more : 0 < 0 + count_by p xs =
            subst (λ (b : Bool). 0 < cond b 1 0 + count_by p xs) fails (subst (λ (n : ℕ). 0 < n) count l) in
            some_passes xs each.1 (omega (arith, more))
      ]

module _ (names : List (List ℕ)) (kinds : List PortType) where
  abbrev IsTypedAt : List Value → ℕ → Type 0
  IsTypedAt values place = IsOfType (get_or kinds place kind.Bool) (value_at_place values place)

  abbrev AssignsAt : List Value → List ℕ → Type 0
  AssignsAt values word =
      Assigns names kinds word (assigned_place names word) (value_at_place values (assigned_place names word))

  -- the state gives each of these ports a value of its type
  abbrev pub IsTypedState : List Value → Type 0
  IsTypedState values =
      (length values ≡ length names) × ((place : ℕ) → place < length names → IsTypedAt values place)

  assignments_typed : (words : List (List ℕ)) (values : List Value) → AreAssignments names kinds words values
      → IsTypedState values
  assignments_typed words values are = (
    are.one_each,
    λ place l. some_passes (λ word. nat_eq (assigned_place names word) place) (AssignsAt values)
        (λ word same assigns. subst (IsTypedAt values) (eqb-true (assigned_place names word) place same) assigns.typed)
        words (recursion_from_All (AssignsAt values) words are.each_assigns) (let once = are.each_port_once place l in omega (arith, once)),
  )

  line_typed : (words : List (List ℕ)) (values : List Value) → IsStateLine names kinds words values
      → IsTypedState values
  line_typed [] values h = absurd h
  line_typed (word ∷ words) values h = assignments_typed words values h.1

  states_typed : (states : List (List Value)) (lines : List NumberedLine) → AreStateLines names kinds states lines
      → AllByRecursion IsTypedState states
  states_typed [] lines h = tt
  states_typed (values ∷ states) [] h = absurd h
  states_typed (values ∷ states) (line ∷ rest) h = (line_typed line.words values h.0, states_typed states rest h.1)

block_typed : (spec : Spec) (lines : List NumberedLine) (named : NamedLasso) → IsBlock spec lines named
    → AllByRecursion (IsTypedState (free_names spec named.component) (free_types spec named.component)) named.lasso.states
block_typed spec [] named h = absurd h
block_typed spec (line ∷ rest) named h =
    states_typed (free_names spec named.component) (free_types spec named.component) named.lasso.states rest h.1

pub lasso_typed : (spec : Spec) (bytes : List ℕ) (named : NamedLasso) → IsLasso spec bytes named
    → AllByRecursion (IsTypedState (free_names spec named.component) (free_types spec named.component)) named.lasso.states
lasso_typed spec bytes named lasso = block_typed spec (lines_that_count bytes) named lasso.block

pub free_typed : (spec : Spec) (c : ComponentId) (values : List Value)
    → IsTypedState (free_names spec c) (free_types spec c) values → HasFreeTypes spec c (assignment values)
free_typed spec c values typed k t port here there =
    let within : k < length (free_names spec c) =
    subst (λ (n : ℕ). k < n) (sym (length-map (free_targets spec c) (port_text spec c))) (slice_get_within (free_targets spec c) k t here) in
    let kind_is : get_or (free_types spec c) k kind.Bool ≡ port.kind =
    get_or_from_slice_get (free_types spec c) k port.kind kind.Bool (slice_get-map (type_of_target spec c) (free_targets spec c) k
    ∙ (ap (option_map (type_of_target spec c)) here ∙ ap (λ (o : Option OwnPort). Some (option_map_or (λ (p : OwnPort). p.kind) o kind.Bool)) there)) in
    subst (λ (type : PortType). IsOfType type (assignment values k)) kind_is (typed.1 k within)
