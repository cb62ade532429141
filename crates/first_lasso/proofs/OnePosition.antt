-- A property that is decided at position 0 has a trace exactly where it has a lasso of one state.
use Rattle.std.proofs.Common.{◌≡◌, ℕ, ◌<◌, ◌≤◌, ◌↔◌, false, List, [], ◌∷◌, map, length, get_or, Option, Some, None}
use Rattle.std.proofs.Common.{refl, sym, subst, arith}
use Rattle.std.specs.List.{range_with_len}
use Rattle.std.proofs.lemmas.List.Elements.{All-nil, All-cons}
use Rattle.std.proofs.lemmas.List.FromFn.{length-map-range_with_len, get_or-map-range_with_len}
use Rattle.port_types.specs.declared.types.PortType.{PortType}
use Rattle.port_types.specs.declared.types.PortType.TheVariants as kind
use Rattle.port_types.specs.declared.types.Value.{Value}
use Rattle.port_types.specs.declared.types.Value.TheVariants as value
use Rattle.port_types.specs.Types.{IsOfType}
use Rattle.typed_ltl.specs.declared.lasso.Lasso.{Lasso}
use Rattle.typed_ltl.specs.Traces.{Trace, IsOver}
use Rattle.first_lasso.specs.Lassos.{IsStateOver, WordHas, lasso_word, HasTraceOver, IsStateProperty}
use Rattle.first_lasso.specs.FirstLassos.{IsWitness, IsFirstIfAny}
use Rattle.first_lasso.proofs.Words.{state_from, words_are_over}

-- the first state of a trace
abbrev pub first_state : List PortType → Trace → List Value
first_state ports w = map (w 0) (range_with_len 0 (length ports))

pub below_one : 0 < 1
below_one = omega arith

-- the lasso that stays in it
abbrev pub one_lasso : List PortType → Trace → Lasso
one_lasso ports w = record { states = first_state ports w ∷ []; loop_at = 0; in_range = below_one }

first_value_is : (ports : List PortType) (w : Trace) (p : ℕ) → p < length ports → get_or (first_state ports w) p (value.Bool false) ≡ w 0 p
first_value_is ports w p lt = get_or-map-range_with_len (w 0) 0 (length ports) p p (value.Bool false) lt (omega arith)

first_state_over : (ports : List PortType) (w : Trace) → IsOver ports w → IsStateOver ports (first_state ports w)
first_state_over ports w over =
    state_from ports (first_state ports w) (length-map-range_with_len (w 0) 0 (length ports)) (λ p lt.
    subst (λ (v : Value). IsOfType (get_or ports p kind.Bool) v) (sym (first_value_is ports w p lt)) (over 0 p lt))

pub one_witness : (ports : List PortType) (property : Trace → Type 0) → IsStateProperty (length ports) property
    → (w : Trace) → IsOver ports w → property w → IsWitness ports (WordHas property) (one_lasso ports w)
one_witness ports property state w over h = record {
  typed = All-cons (IsStateOver ports) (first_state ports w) [] (first_state_over ports w over) (All-nil (IsStateOver ports));
  holds = state w (lasso_word (one_lasso ports w)) (λ p lt. sym (first_value_is ports w p lt)) h;
}

pub one_position_is_enough : (ports : List PortType) (property : Trace → Type 0) → IsStateProperty (length ports) property
    → HasTraceOver ports property ↔ ((lasso : Lasso) × IsWitness ports (WordHas property) lasso × (length lasso.states ≡ 1))
one_position_is_enough ports property state = (
  λ h. (one_lasso ports h.0, one_witness ports property state h.0 h.1 h.2, refl),
  λ h. (lasso_word h.0, words_are_over ports h.0 h.1.typed, h.1.holds),
)

pub one_position_is_found : (ports : List PortType) (property : Trace → Type 0) (k : ℕ) (found : Option Lasso) → 1 ≤ k
    → IsStateProperty (length ports) property → HasTraceOver ports property
    → IsFirstIfAny ports (WordHas property) k found
    → (lasso : Lasso) × (found ≡ Some lasso) × (length lasso.states ≡ 1)
one_position_is_found ports property k None some state h none =
    let least : k < 1 = none (one_lasso ports h.0) (one_witness ports property state h.0 h.1 h.2) in
    absurd (omega (arith, some, least))
one_position_is_found ports property k (Some lasso) some state h first =
    let most : length lasso.states ≤ 1 = first.fewest (one_lasso ports h.0) (one_witness ports property state h.0 h.1 h.2) in
    (lasso, refl, omega (arith, most, lasso.in_range))

-- A property that the valuation at position 0 decides, and that reads the first n ports alone, is decided by their values there.
pub state_property : (n : ℕ) (property : Trace → Type 0)
    → ((w v : Trace) → ((p : ℕ) → w 0 p ≡ v 0 p) → property w → property v)
    → ((w v : Trace) → ((i p : ℕ) → p < n → w i p ≡ v i p) → property w → property v)
    → IsStateProperty n property
state_property n property state reads w v h t =
    let constant = λ (u : Trace) (i : ℕ). u 0 in
    state (constant v) v (λ p. refl) (reads (constant w) (constant v) (λ i p lt. h p lt) (state w (constant w) (λ p. refl) t))

pub not_state : (n : ℕ) (property : Trace → Type 0) → IsStateProperty n property → IsStateProperty n (λ w. property w → ⊥)
not_state n property state w v h t u = t (state v w (λ p lt. sym (h p lt)) u)

pub and_state : (n : ℕ) (property other : Trace → Type 0) → IsStateProperty n property → IsStateProperty n other
    → IsStateProperty n (λ w. property w × other w)
and_state n property other state more w v h t = (state w v h t.0, more w v h t.1)
