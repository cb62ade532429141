-- The ranks of a widened state against those of another state of all ports: where the used ones don't stand after those
-- of the other, neither do all.
use Rattle.std.proofs.Common.{◌≡◌, ℕ, zero, suc, ◌<◌, ◌≤◌, false, List, [], ◌∷◌, map, length, get_or, nat_eq, flat_map}
use Rattle.std.proofs.Common.{pos, ℤ, ◌+ℤ◌, ◌-ℤ◌, All, Contains, bytes_eq, refl, sym, ap, ◌∙◌, subst, inl, inr, arith}
use Rattle.std.specs.List.{list_any, range_with_len}
use Rattle.std.proofs.lemmas.Bool.{cases_Bool}
use Rattle.std.proofs.lemmas.Grind.{same_number_lists}
use Rattle.std.proofs.lemmas.Int.{ints}
use Rattle.std.proofs.lemmas.List.{get_or-map}
use Rattle.std.proofs.lemmas.List.Elements.{All-head, All-tail, Contains-get_or}
use Rattle.std.proofs.lemmas.List.Sums.{position_or_len_is}
use Rattle.std.proofs.lemmas.Slice.Eq.{bytes_eq-Decides}
use Rattle.port_types.specs.declared.types.PortType.{PortType}
use Rattle.port_types.specs.declared.types.PortType.TheVariants as kind
use Rattle.port_types.specs.declared.types.Value.{Value}
use Rattle.port_types.specs.declared.types.Value.TheVariants as value
use Rattle.port_types.specs.Types.{range_size}
use Rattle.typed_ltl.specs.Traces.{assignment}
use Rattle.first_lasso.specs.Lassos.{IsStateOver}
use Rattle.first_lasso.specs.FirstLassos.{value_rank, state_ranks}
use Rattle.first_lasso.specs.UsedPorts.{AreUsed, types_at, used_place, first_value, widened_state}
use Rattle.first_lasso.proofs.Order.{NotAfter, AgreeBefore, after_front, front_of, rest_of, from_places, at_place}
use Rattle.first_lasso.proofs.Ranks.{length_ranks, natural_is}
use Rattle.first_lasso.proofs.Narrowing.{narrowed_state, narrowed_over, used_within, used_read, listed_is, used_place_at, widened_at, used_value}
use Rattle.first_lasso.proofs.Narrowing.{other_value, length_types}

-- ---- a first value has rank 0

first_number_rank : (lo hi : ℤ) (n : ℕ)
    → value_rank (kind.Range lo hi) (get_or (map (λ k. value.Int (lo +ℤ pos k)) (range_with_len 0 n)) 0 (value.Bool false)) ≡ 0
first_number_rank lo hi zero = refl
first_number_rank lo hi (suc n) = omega (arith, ints, natural_is ((lo +ℤ pos 0) -ℤ lo))

first_rank : (t : PortType) → value_rank t (first_value t) ≡ 0
first_rank kind.Bool = refl
first_rank (kind.Range lo hi) = first_number_rank lo hi (range_size lo hi)
first_rank (kind.Enum []) = refl
first_rank (kind.Enum (name ∷ names)) =
    position_or_len_is (bytes_eq name) (name ∷ names) 0 name (omega arith) (λ k lt. absurd (omega (arith, lt)))
    (λ within. (bytes_eq-Decides name name).1 refl)

-- ---- ranks at a place

pub rank_at : (ports : List PortType) (state : List Value) (p : ℕ) → IsStateOver ports state → p < length ports
    → get_or (state_ranks ports state) p 0 ≡ value_rank (get_or ports p kind.Bool) (assignment state p)
rank_at [] state p h lt = absurd (omega (arith, lt))
rank_at (t ∷ ports) [] p h lt = absurd h
rank_at (t ∷ ports) (v ∷ state) zero h lt = refl
rank_at (t ∷ ports) (v ∷ state) (suc p) h lt = rank_at ports state p h.1 (omega (arith, lt))

-- a state of the used ports, one of all ports, and the first one widened
pub record StatePair (ports : List PortType) (used : List ℕ) (small other : List Value) : Type 0 where
  pub used_ports : AreUsed ports used
  pub narrow : IsStateOver (types_at ports used) small
  pub wide : IsStateOver ports other
  pub filled : IsStateOver ports (widened_state ports used small)

module _ (ports : List PortType) (used : List ℕ) (small other : List Value) (h : StatePair ports used small other) where
  port_below : (k : ℕ) → k < length used → get_or used k 0 < length ports
  port_below k lt = h.used_ports.below k 0 lt

  type_is : (k : ℕ) → k < length used → get_or (types_at ports used) k kind.Bool ≡ get_or ports (get_or used k 0) kind.Bool
  type_is k lt = get_or-map (λ (q : ℕ). get_or ports q kind.Bool) used k 0 kind.Bool lt

  of_type : (k : ℕ) → k < length used → k < length (types_at ports used)
  of_type k lt = omega (arith, lt, length_types ports used)

  place_contains : (k : ℕ) → k < length used → Contains used (get_or used k 0)
  place_contains k lt = Contains-get_or used k 0 lt

  filled_rank : (k : ℕ) → k < length used
      → get_or (state_ranks ports (widened_state ports used small)) (get_or used k 0) 0
      ≡ get_or (state_ranks (types_at ports used) small) k 0
  filled_rank k lt =
      let p : ℕ = get_or used k 0 in
      let t : PortType = get_or ports p kind.Bool in
      rank_at ports (widened_state ports used small) p h.filled (port_below k lt)
      ∙ (ap (value_rank t) (widened_at ports used small p (port_below k lt)
      ∙ (used_value ports used small p (place_contains k lt) ∙ ap (assignment small) (used_place_at used k h.used_ports.rising lt)))
      ∙ (ap (λ (u : PortType). value_rank u (assignment small k)) (sym (type_is k lt))
      ∙ sym (rank_at (types_at ports used) small k h.narrow (of_type k lt))))

  other_rank : (k : ℕ) → k < length used
      → get_or (state_ranks ports other) (get_or used k 0) 0
      ≡ get_or (state_ranks (types_at ports used) (narrowed_state used other)) k 0
  other_rank k lt =
      let p : ℕ = get_or used k 0 in
      rank_at ports other p h.wide (port_below k lt)
      ∙ (ap (λ (u : PortType). value_rank u (assignment other p)) (sym (type_is k lt))
      ∙ (ap (value_rank (get_or (types_at ports used) k kind.Bool)) (sym (get_or-map (assignment other) used k 0 (value.Bool false) lt))
      ∙ sym (rank_at (types_at ports used) (narrowed_state used other) k (narrowed_over ports other h.wide used h.used_ports.below) (of_type k lt))))

  unused_rank : (p : ℕ) → p < length ports → list_any (nat_eq p) used ≡ false
      → get_or (state_ranks ports (widened_state ports used small)) p 0 ≡ 0
  unused_rank p lt e =
      rank_at ports (widened_state ports used small) p h.filled lt
      ∙ (ap (value_rank (get_or ports p kind.Bool)) (widened_at ports used small p lt ∙ other_value ports used small p e)
      ∙ first_rank (get_or ports p kind.Bool))

  small_length : length (state_ranks (types_at ports used) small) ≡ length used
  small_length = length_ranks (types_at ports used) small h.narrow ∙ length_types ports used

  other_length : length (state_ranks (types_at ports used) (narrowed_state used other)) ≡ length used
  other_length =
      length_ranks (types_at ports used) (narrowed_state used other) (narrowed_over ports other h.wide used h.used_ports.below)
      ∙ length_types ports used

  pub narrow_lengths : length (state_ranks (types_at ports used) small) ≡ length (state_ranks (types_at ports used) (narrowed_state used other))
  narrow_lengths = small_length ∙ sym other_length

  pub wide_lengths : length (state_ranks ports (widened_state ports used small)) ≡ length (state_ranks ports other)
  wide_lengths = length_ranks ports (widened_state ports used small) h.filled ∙ sym (length_ranks ports other h.wide)

  used_at_most : NotAfter (state_ranks (types_at ports used) small) (state_ranks (types_at ports used) (narrowed_state used other))
      → (k : ℕ) → k < length used
      → AgreeBefore (state_ranks ports (widened_state ports used small)) (state_ranks ports other) (get_or used k 0)
      → get_or (state_ranks ports (widened_state ports used small)) (get_or used k 0) 0 ≤ get_or (state_ranks ports other) (get_or used k 0) 0
  used_at_most least k lt agree =
      let most = at_place (state_ranks (types_at ports used) small) (state_ranks (types_at ports used) (narrowed_state used other)) k least
      (omega (arith, lt, small_length)) narrow_lengths (λ j below.
      let within : j < length used = omega (arith, lt, below) in
      sym (filled_rank j within) ∙ (agree (get_or used j 0) (h.used_ports.rising j k 0 below lt) ∙ other_rank j within)) in
      omega (arith, most, filled_rank k lt, other_rank k lt)

  pub state_not_after : NotAfter (state_ranks (types_at ports used) small) (state_ranks (types_at ports used) (narrowed_state used other))
      → NotAfter (state_ranks ports (widened_state ports used small)) (state_ranks ports other)
  state_not_after least =
      from_places (state_ranks ports (widened_state ports used small)) (state_ranks ports other) wide_lengths (λ p lt agree.
      let below : p < length ports = omega (arith, lt, length_ranks ports (widened_state ports used small) h.filled) in
      elim (cases_Bool (list_any (nat_eq p) used)) [
        | inl e ↦
            let c : Contains used p = listed_is used p e in
            let back : get_or used (used_place used p) 0 ≡ p = used_read used p 0 c in
            subst (λ (q : ℕ). get_or (state_ranks ports (widened_state ports used small)) q 0 ≤ get_or (state_ranks ports other) q 0) back
            (used_at_most least (used_place used p) (used_within used p c)
            (subst (λ (q : ℕ). AgreeBefore (state_ranks ports (widened_state ports used small)) (state_ranks ports other) q) (sym back) agree))
        | inr e ↦ omega (arith, unused_rank p below e)
      ])

  pub same_narrow : state_ranks ports (widened_state ports used small) ≡ state_ranks ports other
      → state_ranks (types_at ports used) small ≡ state_ranks (types_at ports used) (narrowed_state used other)
  same_narrow e =
      same_number_lists (state_ranks (types_at ports used) small) (state_ranks (types_at ports used) (narrowed_state used other)) narrow_lengths
      (λ k lt.
      let within : k < length used = omega (arith, lt, small_length) in
      sym (filled_rank k within) ∙ (ap (λ (ranks : List ℕ). get_or ranks (get_or used k 0) 0) e ∙ other_rank k within))

-- ---- lists of states

-- two lists of states, of the used ports and of all ports
pub record ListPair (ports : List PortType) (used : List ℕ) (smalls others : List (List Value)) : Type 0 where
  pub used_ports : AreUsed ports used
  pub narrow : All (IsStateOver (types_at ports used)) smalls
  pub wide : All (IsStateOver ports) others
  pub filled : (state : List Value) → IsStateOver (types_at ports used) state → IsStateOver ports (widened_state ports used state)
  pub as_many : length smalls ≡ length others

heads_of : (ports : List PortType) (used : List ℕ) (s o : List Value) (smalls others : List (List Value))
    → ListPair ports used (s ∷ smalls) (o ∷ others) → StatePair ports used s o
heads_of ports used s o smalls others h =
    let narrow = All-head (IsStateOver (types_at ports used)) s smalls h.narrow in
    record {
      used_ports = h.used_ports;
      narrow = narrow;
      wide = All-head (IsStateOver ports) o others h.wide;
      filled = h.filled s narrow;
    }

tails_of : (ports : List PortType) (used : List ℕ) (s o : List Value) (smalls others : List (List Value))
    → ListPair ports used (s ∷ smalls) (o ∷ others) → ListPair ports used smalls others
tails_of ports used s o smalls others h = record {
  used_ports = h.used_ports;
  narrow = All-tail (IsStateOver (types_at ports used)) s smalls h.narrow;
  wide = All-tail (IsStateOver ports) o others h.wide;
  filled = h.filled;
  as_many = omega (arith, h.as_many);
}

pub lists_not_after : (ports : List PortType) (used : List ℕ) (smalls others : List (List Value)) → ListPair ports used smalls others
    → NotAfter (flat_map (state_ranks (types_at ports used)) smalls)
    (flat_map (state_ranks (types_at ports used)) (map (narrowed_state used) others))
    → NotAfter (flat_map (state_ranks ports) (map (widened_state ports used) smalls)) (flat_map (state_ranks ports) others)
lists_not_after ports used [] others h least = tt
lists_not_after ports used (s ∷ smalls) [] h least = absurd (omega (arith, h.as_many))
lists_not_after ports used (s ∷ smalls) (o ∷ others) h least =
    let two = heads_of ports used s o smalls others h in
    let x = state_ranks (types_at ports used) s in
    let y = state_ranks (types_at ports used) (narrowed_state used o) in
    let more = flat_map (state_ranks (types_at ports used)) smalls in
    let rest = flat_map (state_ranks (types_at ports used)) (map (narrowed_state used) others) in
    let long : length x ≡ length y = narrow_lengths ports used s o two in
    after_front (state_ranks ports (widened_state ports used s)) (state_ranks ports o)
    (flat_map (state_ranks ports) (map (widened_state ports used) smalls)) (flat_map (state_ranks ports) others)
    (wide_lengths ports used s o two) (state_not_after ports used s o two (front_of x y more rest long least)) (λ e.
    lists_not_after ports used smalls others (tails_of ports used s o smalls others h)
    (rest_of x y more rest long least (same_narrow ports used s o two e)))
