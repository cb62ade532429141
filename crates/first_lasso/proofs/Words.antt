-- Words of lassos over ports are traces over them.
use Rattle.std.proofs.Common.{◌≡◌, ℕ, zero, suc, ◌+◌, ◌-◌, ◌%◌, ◌<◌, false, List, [], ◌∷◌, length, get_or, sym, subst, inl, inr, arith, mod-lt}
use Rattle.std.proofs.lemmas.Bool.{cases_lt}
use Rattle.port_types.specs.declared.types.PortType.{PortType}
use Rattle.port_types.specs.declared.types.PortType.TheVariants as kind
use Rattle.port_types.specs.declared.types.Value.{Value}
use Rattle.port_types.specs.declared.types.Value.TheVariants as value
use Rattle.port_types.specs.Types.{IsOfType}
use Rattle.typed_ltl.specs.Traces.{lasso_place}
use Rattle.typed_ltl.proofs.Periodicity.{place_before, place_past}
use Rattle.first_lasso.specs.Lassos.{IsStateOver}
use Rattle.first_lasso.specs.Laws.{WordsAreOver}

pub place_within : (n l i : ℕ) → l < n → lasso_place n l i < n
place_within n l i lt =
    elim (cases_lt i n) [
      | inl h ↦ subst (λ (k : ℕ). k < n) (sym (place_before n l i h)) h
      | inr h ↦
          let some : 0 < n - l = omega arith in
          let below : (i - l) % (n - l) < n - l = mod-lt (i - l) some in
          let within : l + (i - l) % (n - l) < n = omega arith in
          subst (λ (k : ℕ). k < n) (sym (place_past n l i h)) within
    ]

-- a state has a value of its type at each place, and what has one is a state

pub value_over : (ports : List PortType) (state : List Value) (p : ℕ) → IsStateOver ports state → p < length ports
    → IsOfType (get_or ports p kind.Bool) (get_or state p (value.Bool false))
value_over [] state p h lt = absurd (omega (arith, lt))
value_over (t ∷ ports) [] p h lt = absurd h
value_over (t ∷ ports) (v ∷ state) zero h lt = h.0
value_over (t ∷ ports) (v ∷ state) (suc p) h lt = value_over ports state p h.1 (omega (arith, lt))

pub state_from : (ports : List PortType) (state : List Value) → length state ≡ length ports
    → ((p : ℕ) → p < length ports → IsOfType (get_or ports p kind.Bool) (get_or state p (value.Bool false)))
    → IsStateOver ports state
state_from [] [] e h = tt
state_from [] (v ∷ state) e h = absurd (omega (arith, e))
state_from (t ∷ ports) [] e h = absurd (omega (arith, e))
state_from (t ∷ ports) (v ∷ state) e h =
    (h 0 (omega arith), state_from ports state (omega (arith, e)) (λ p lt. h (suc p) (omega (arith, lt))))

pub length_state : (ports : List PortType) (state : List Value) → IsStateOver ports state → length state ≡ length ports
length_state [] [] h = omega arith
length_state [] (v ∷ state) h = absurd h
length_state (t ∷ ports) [] h = absurd h
length_state (t ∷ ports) (v ∷ state) h = omega (arith, length_state ports state h.1)

pub words_are_over : WordsAreOver
words_are_over ports lasso typed i p lt =
    let n : ℕ = length lasso.states in
    let k : ℕ = lasso_place n lasso.loop_at i in
    value_over ports (get_or lasso.states k []) p (typed k [] (place_within n lasso.loop_at i lasso.in_range)) lt
