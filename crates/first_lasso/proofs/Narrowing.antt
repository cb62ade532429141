-- The used ports: their places, states and lassos narrowed to them and widened from them, and the words of these.
use Rattle.std.proofs.Common.{◌≡◌, ℕ, ◌<◌, ◌↔◌, true, false, cond, List, [], ◌∷◌, map, length, get_or, nat_eq}
use Rattle.std.proofs.Common.{All, AllPairs, Contains, refl, sym, ap, ◌∙◌, subst, inl, inr, arith, eq-eqb, ne_eqb, eqb-true}
use Rattle.std.specs.List.{list_any}
use Rattle.std.proofs.lemmas.Bool.{both_ways, cases_lt, cond-true, cond-false, cases_Bool}
use Rattle.std.proofs.lemmas.List.{length-map, get_or-map}
use Rattle.std.proofs.lemmas.List.Elements.{All-head, All-tail, All-map, All-weaker, All-contains, Contains-get_or}
use Rattle.std.proofs.lemmas.List.Folds.{list_any_at}
use Rattle.std.proofs.lemmas.List.FromFn.{length-map-range_with_len, get_or-map-range_with_len}
use Rattle.std.proofs.lemmas.List.Sums.{fails_before_first, passes_at_first, position_or_len_is}
use Rattle.std.proofs.lemmas.Map.Views.{Contains-from_any}
use Rattle.port_types.specs.declared.types.PortType.{PortType}
use Rattle.port_types.specs.declared.types.PortType.TheVariants as kind
use Rattle.port_types.specs.declared.types.Value.{Value}
use Rattle.port_types.specs.declared.types.Value.TheVariants as value
use Rattle.port_types.specs.Types.{values, IsOfType}
use Rattle.typed_ltl.specs.declared.lasso.Lasso.{Lasso}
use Rattle.typed_ltl.specs.Traces.{Trace, assignment, lasso_place, word}
use Rattle.first_lasso.specs.Lassos.{IsStateOver, IsLassoOver, lasso_word, WordHas}
use Rattle.first_lasso.specs.FormulaPorts.{seen_through}
use Rattle.first_lasso.specs.UsedPorts.{types_at, used_place, first_value, HasValue, widened_value, widened_state, IsWidened, IsNarrowed}
use Rattle.first_lasso.proofs.Words.{place_within, value_over, state_from}

-- ---- places of used ports

pub used_within : (used : List ℕ) (p : ℕ) → Contains used p → used_place used p < length used
used_within used p h =
    elim (cases_lt (used_place used p) (length used)) [
      | inl lt ↦ lt
      | inr past ↦
          let fails : nat_eq p (get_or used h.0 p) ≡ false = fails_before_first (nat_eq p) used h.0 p (omega (arith, h.1, past)) in
          absurd (both_ways (nat_eq p (get_or used h.0 p)) fails (eq-eqb p (get_or used h.0 p) (sym h.2)))
    ]

pub used_read : (used : List ℕ) (p d : ℕ) → Contains used p → get_or used (used_place used p) d ≡ p
used_read used p d h =
    sym (eqb-true p (get_or used (used_place used p) d) (passes_at_first (nat_eq p) used d (used_within used p h)))

pub is_listed : (used : List ℕ) (p : ℕ) → Contains used p → list_any (nat_eq p) used ≡ true
is_listed used p h = list_any_at (nat_eq p) used h.0 p h.1 (eq-eqb p (get_or used h.0 p) (sym h.2))

pub listed_is : (used : List ℕ) (p : ℕ) → list_any (nat_eq p) used ≡ true → Contains used p
listed_is used p e = Contains-from_any {eq = nat_eq} eqb-true p used e

pub used_place_at : (used : List ℕ) (k : ℕ) → AllPairs (λ p q. p < q) used → k < length used → used_place used (get_or used k 0) ≡ k
used_place_at used k rising lt =
    let p : ℕ = get_or used k 0 in
    position_or_len_is (nat_eq p) used k 0 (omega (arith, lt))
    (λ j below. ne_eqb p (get_or used j 0) (λ e. absurd (omega (arith, e, rising j k 0 below lt))))
    (λ within. eq-eqb p (get_or used k 0) refl)

-- ---- words of lassos whose states were changed one by one

-- the state of a lasso at a position of its word
abbrev pub state_at : Lasso → ℕ → List Value
state_at lasso i = get_or lasso.states (lasso_place (length lasso.states) lasso.loop_at i) []

pub mapped_word : (F : List Value → List Value) (lasso other : Lasso) → other.states ≡ map F lasso.states
    → other.loop_at ≡ lasso.loop_at
    → (i p : ℕ) → lasso_word other i p ≡ assignment (F (state_at lasso i)) p
mapped_word F lasso other e f i p =
    let n : ℕ = length lasso.states in
    let l : ℕ = lasso.loop_at in
    ap (λ (s : List (List Value)). word s other.loop_at i p) e
    ∙ (ap (λ (m : ℕ). word (map F lasso.states) m i p) f
    ∙ (ap (λ (m : ℕ). assignment (get_or (map F lasso.states) (lasso_place m l i) []) p) (length-map lasso.states F)
    ∙ ap (λ (s : List Value). assignment s p) (get_or-map F lasso.states (lasso_place n l i) [] [] (place_within n l i lasso.in_range))))

-- ---- narrowed to the used ports

abbrev pub narrowed_state : List ℕ → List Value → List Value
narrowed_state used state = map (assignment state) used

pub narrowed_loop : (used : List ℕ) (lasso : Lasso) → lasso.loop_at < length (map (narrowed_state used) lasso.states)
narrowed_loop used lasso = subst (λ (n : ℕ). lasso.loop_at < n) (sym (length-map lasso.states (narrowed_state used))) lasso.in_range

abbrev pub narrowed_lasso : List ℕ → Lasso → Lasso
narrowed_lasso used lasso =
    record { states = map (narrowed_state used) lasso.states; loop_at = lasso.loop_at; in_range = narrowed_loop used lasso }

pub narrowed_over : (ports : List PortType) (state : List Value) → IsStateOver ports state
    → (used : List ℕ) → All (λ p. p < length ports) used → IsStateOver (types_at ports used) (narrowed_state used state)
narrowed_over ports state h [] below = tt
narrowed_over ports state h (p ∷ used) below = (
  value_over ports state p h (All-head (λ q. q < length ports) p used below),
  narrowed_over ports state h used (All-tail (λ q. q < length ports) p used below),
)

pub narrowed_lasso_over : (ports : List PortType) (used : List ℕ) → All (λ p. p < length ports) used
    → (lasso : Lasso) → IsLassoOver ports lasso → IsLassoOver (types_at ports used) (narrowed_lasso used lasso)
narrowed_lasso_over ports used below lasso typed =
    All-map (IsStateOver (types_at ports used)) (narrowed_state used) lasso.states
    (All-weaker (IsStateOver ports) (λ s. IsStateOver (types_at ports used) (narrowed_state used s))
    (λ s h. narrowed_over ports s h used below) lasso.states typed)

pub narrowed_holds : (used : List ℕ) (wide narrow : Trace → Type 0) → IsNarrowed used wide narrow
    → (lasso : Lasso) → WordHas wide lasso → WordHas narrow (narrowed_lasso used lasso)
narrowed_holds used wide narrow n lasso h =
    let small : Lasso = narrowed_lasso used lasso in
    (n.same (lasso_word small)).1 (n.reads (lasso_word lasso) (seen_through (used_place used) (lasso_word small)) (λ i p c.
    sym (mapped_word (narrowed_state used) lasso small refl refl i (used_place used p)
    ∙ (get_or-map (assignment (state_at lasso i)) used (used_place used p) 0 (value.Bool false) (used_within used p c)
    ∙ ap (assignment (state_at lasso i)) (used_read used p 0 c)))) h)

-- ---- widened to all ports

pub widened_at : (ports : List PortType) (used : List ℕ) (state : List Value) (p : ℕ) → p < length ports
    → assignment (widened_state ports used state) p ≡ widened_value ports used state p
widened_at ports used state p lt =
    get_or-map-range_with_len (widened_value ports used state) 0 (length ports) p p (value.Bool false) lt (omega arith)

pub used_value : (ports : List PortType) (used : List ℕ) (state : List Value) (p : ℕ) → Contains used p
    → widened_value ports used state p ≡ assignment state (used_place used p)
used_value ports used state p c =
    cond-true (list_any (nat_eq p) used) (assignment state (used_place used p)) (first_value (get_or ports p kind.Bool)) (is_listed used p c)

pub other_value : (ports : List PortType) (used : List ℕ) (state : List Value) (p : ℕ) → list_any (nat_eq p) used ≡ false
    → widened_value ports used state p ≡ first_value (get_or ports p kind.Bool)
other_value ports used state p e =
    cond-false (list_any (nat_eq p) used) (assignment state (used_place used p)) (first_value (get_or ports p kind.Bool)) e

widened_agrees : (ports : List PortType) (used : List ℕ) (lasso big : Lasso) → All (λ p. p < length ports) used
    → IsWidened ports used lasso big
    → (i p : ℕ) → Contains used p → seen_through (used_place used) (lasso_word lasso) i p ≡ lasso_word big i p
widened_agrees ports used lasso big below h i p c =
    let lt : p < length ports = All-contains (λ q. q < length ports) used p below c in
    sym (mapped_word (widened_state ports used) lasso big h.states h.loop_at i p
    ∙ (widened_at ports used (state_at lasso i) p lt ∙ used_value ports used (state_at lasso i) p c))

-- A lasso of the used ports has the property exactly where the widened one has.
pub widened_holds : (ports : List PortType) (used : List ℕ) (wide narrow : Trace → Type 0) → IsNarrowed used wide narrow
    → All (λ p. p < length ports) used
    → (lasso big : Lasso) → IsWidened ports used lasso big → WordHas narrow lasso ↔ WordHas wide big
widened_holds ports used wide narrow n below lasso big h = (
  λ t. n.reads (seen_through (used_place used) (lasso_word lasso)) (lasso_word big) (widened_agrees ports used lasso big below h)
      ((n.same (lasso_word lasso)).0 t),
  λ t. (n.same (lasso_word lasso)).1 (n.reads (lasso_word big) (seen_through (used_place used) (lasso_word lasso))
      (λ i p c. sym (widened_agrees ports used lasso big below h i p c)) t),
)

-- ---- types of values

-- the values of types are those of their kind
abbrev pub ByKind : Type 0
ByKind = (t : PortType) (v : Value) → Contains (values t) v ↔ IsOfType t v

pub first_of_type : ByKind → (t : PortType) → HasValue t → IsOfType t (first_value t)
first_of_type by_kind t some = (by_kind t (first_value t)).0 (Contains-get_or (values t) 0 (value.Bool false) some)

pub type_at_place : (ports : List PortType) (used : List ℕ) (p : ℕ) → Contains used p
    → get_or (types_at ports used) (used_place used p) kind.Bool ≡ get_or ports p kind.Bool
type_at_place ports used p c =
    get_or-map (λ (q : ℕ). get_or ports q kind.Bool) used (used_place used p) 0 kind.Bool (used_within used p c)
    ∙ ap (λ (q : ℕ). get_or ports q kind.Bool) (used_read used p 0 c)

pub length_types : (ports : List PortType) (used : List ℕ) → length (types_at ports used) ≡ length used
length_types ports used = length-map used (λ (q : ℕ). get_or ports q kind.Bool)

-- where the used ports have values of their types, so has each port
pub widened_typed : (ports : List PortType) (used : List ℕ) (a : ℕ → Value) → ByKind → All HasValue ports
    → ((k : ℕ) → k < length (types_at ports used) → IsOfType (get_or (types_at ports used) k kind.Bool) (a k))
    → (p : ℕ) → p < length ports
    → IsOfType (get_or ports p kind.Bool) (cond (list_any (nat_eq p) used) (a (used_place used p)) (first_value (get_or ports p kind.Bool)))
widened_typed ports used a by_kind some typed p lt =
    let t : PortType = get_or ports p kind.Bool in
    let x : Value = a (used_place used p) in
    elim (cases_Bool (list_any (nat_eq p) used)) [
      | inl e ↦
          let c : Contains used p = listed_is used p e in
          let within : used_place used p < length (types_at ports used) = omega (arith, used_within used p c, length_types ports used) in
          subst (λ (v : Value). IsOfType (get_or ports p kind.Bool) v) (sym (cond-true (list_any (nat_eq p) used) x (first_value t) e))
          (subst (λ (u : PortType). IsOfType u (a (used_place used p))) (type_at_place ports used p c) (typed (used_place used p) within))
      | inr e ↦
          subst (λ (v : Value). IsOfType (get_or ports p kind.Bool) v) (sym (cond-false (list_any (nat_eq p) used) x (first_value t) e))
          (first_of_type by_kind (get_or ports p kind.Bool) (some p kind.Bool lt))
    ]

pub widened_over : (ports : List PortType) (used : List ℕ) → ByKind → All HasValue ports
    → (state : List Value) → IsStateOver (types_at ports used) state → IsStateOver ports (widened_state ports used state)
widened_over ports used by_kind some state h =
    state_from ports (widened_state ports used state) (length-map-range_with_len (widened_value ports used state) 0 (length ports)) (λ p lt.
    subst (λ (v : Value). IsOfType (get_or ports p kind.Bool) v) (sym (widened_at ports used state p lt))
    (widened_typed ports used (assignment state) by_kind some (λ k within. value_over (types_at ports used) state k h within) p lt))
