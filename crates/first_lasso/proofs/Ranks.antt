-- Ranks of values: they are places, and tell values, states and lassos apart.
use Rattle.std.proofs.Common.{◌≡◌, ◌≢◌, ℕ, suc, ◌-◌, ◌<◌, ◌↔◌, true, false, List, [], ◌∷◌, length, get_or}
use Rattle.std.proofs.Common.{ℤ, pos, negsuc, ◌+ℤ◌, ◌-ℤ◌, ◌≤ℤ◌, Some, option_map, slice_get, flat_map, All, AllPairs, Contains, bytes_eq}
use Rattle.std.proofs.Common.{refl, sym, ap, ◌∙◌, subst, inl, inr, arith}
use borrow.Author.Differences.{up, down}
use Rattle.std.specs.List.{position_or_len}
use Rattle.std.proofs.lemmas.Bool.{both_ways, cases_lt, cases_order}
use Rattle.std.proofs.lemmas.Int.{ints}
use Rattle.std.proofs.lemmas.List.{length-append}
use Rattle.std.proofs.lemmas.List.Elements.{All-head, All-tail}
use Rattle.std.proofs.lemmas.List.FromFn.{length-map-range_with_len, get_or-map-range_with_len}
use Rattle.std.proofs.lemmas.List.Sums.{fails_before_first, passes_at_first}
use Rattle.std.proofs.lemmas.Option.{slice_get-get_or, slice_get-map, slice_get_within, get_or_from_slice_get, same_Some}
use Rattle.std.proofs.lemmas.Slice.Eq.{bytes_eq-Decides}
use Rattle.port_types.specs.declared.types.PortType.{PortType}
use Rattle.port_types.specs.declared.types.PortType.TheVariants as kind
use Rattle.port_types.specs.declared.types.Value.{Value}
use Rattle.port_types.specs.declared.types.Value.TheVariants as value
use Rattle.port_types.specs.Types.{natural_part, range_size, values, IsOfType, IsDeclarable}
use Rattle.first_lasso.specs.Lassos.{IsStateOver}
use Rattle.first_lasso.specs.FirstLassos.{value_rank, state_ranks}
use Rattle.first_lasso.specs.Laws.{RanksArePlaces, PlacesAreRanks}
use Rattle.first_lasso.proofs.Order.{same_fronts}

pub natural_is : (z : ℤ) → natural_part z ≡ up z - down z
natural_is (pos n) = omega arith
natural_is (negsuc n) = omega arith

-- ---- ranks are places

number_at_rank : (lo hi z : ℤ) → lo ≤ℤ z → z ≤ℤ hi
    → slice_get (values (kind.Range lo hi)) (natural_part (z -ℤ lo)) ≡ Some (value.Int z)
number_at_rank lo hi z low high =
    let k : ℕ = natural_part (z -ℤ lo) in
    let inside : natural_part (z -ℤ lo) < range_size lo hi = omega (arith, ints, natural_is ((hi +ℤ pos 1) -ℤ lo), natural_is (z -ℤ lo)) in
    let is : lo +ℤ pos (natural_part (z -ℤ lo)) ≡ z = omega (arith, ints, natural_is (z -ℤ lo)) in
    let here : k < length (values (kind.Range lo hi)) =
    subst (λ m. natural_part (z -ℤ lo) < m) (sym (length-map-range_with_len (λ j. value.Int (lo +ℤ pos j)) 0 (range_size lo hi))) inside in
    slice_get-get_or (values (kind.Range lo hi)) k (value.Int z) here
    ∙ ap Some (get_or-map-range_with_len (λ j. value.Int (lo +ℤ pos j)) 0 (range_size lo hi) k k (value.Int z) inside (omega arith) ∙ ap value.Int is)

first_place_within : (names : List (List ℕ)) (name : List ℕ) → Contains names name
    → position_or_len (bytes_eq name) names < length names
first_place_within names name h =
    elim (cases_lt (position_or_len (bytes_eq name) names) (length names)) [
      | inl lt ↦ lt
      | inr past ↦
          let fails : bytes_eq name (get_or names h.0 name) ≡ false =
          fails_before_first (bytes_eq name) names h.0 name (omega (arith, h.1, past)) in
          absurd (both_ways (bytes_eq name (get_or names h.0 name)) fails ((bytes_eq-Decides name (get_or names h.0 name)).1 (sym h.2)))
    ]

name_at_rank : (names : List (List ℕ)) (name : List ℕ) → Contains names name
    → slice_get (values (kind.Enum names)) (position_or_len (bytes_eq name) names) ≡ Some (value.Name name)
name_at_rank names name h =
    let r : ℕ = position_or_len (bytes_eq name) names in
    let inside : r < length names = first_place_within names name h in
    let passes : bytes_eq name (get_or names r name) ≡ true = passes_at_first (bytes_eq name) names name inside in
    slice_get-map value.Name names r
    ∙ ap (option_map value.Name) (slice_get-get_or names r name inside ∙ ap Some (sym ((bytes_eq-Decides name (get_or names r name)).0 passes)))

pub ranks_are_places : RanksArePlaces
ranks_are_places kind.Bool (value.Bool false) h = refl
ranks_are_places kind.Bool (value.Bool true) h = refl
ranks_are_places kind.Bool (value.Int z) h = absurd h
ranks_are_places kind.Bool (value.Name name) h = absurd h
ranks_are_places (kind.Range lo hi) (value.Bool b) h = absurd h
ranks_are_places (kind.Range lo hi) (value.Int z) h = number_at_rank lo hi z h.0 h.1
ranks_are_places (kind.Range lo hi) (value.Name name) h = absurd h
ranks_are_places (kind.Enum names) (value.Bool b) h = absurd h
ranks_are_places (kind.Enum names) (value.Int z) h = absurd h
ranks_are_places (kind.Enum names) (value.Name name) h = name_at_rank names name h

-- ---- and no other places, where no value stands twice

pub places_are_ranks : ((t : PortType) (v : Value) → Contains (values t) v ↔ IsOfType t v)
    → ((t : PortType) → IsDeclarable t → AllPairs (λ a b. a ≢ b) (values t)) → PlacesAreRanks
places_are_ranks by_kind once t v k fine e =
    let r : ℕ = value_rank t v in
    let within : k < length (values t) = slice_get_within (values t) k v e in
    let is : get_or (values t) k v ≡ v = get_or_from_slice_get (values t) k v v e in
    let place : slice_get (values t) (value_rank t v) ≡ Some v = ranks_are_places t v ((by_kind t v).0 (k, within, is)) in
    let first : r < length (values t) = slice_get_within (values t) r v place in
    let same : get_or (values t) r v ≡ v = get_or_from_slice_get (values t) r v v place in
    elim (cases_order r k) [
      | inl here ↦ here
      | inr o ↦ elim o [
        | inl lt ↦ absurd (once t fine r k v lt within (same ∙ sym is))
        | inr gt ↦ absurd (once t fine k r v gt first (is ∙ sym same))
      ]
    ]

-- ---- ranks tell apart

pub one_value : (t : PortType) (v u : Value) → IsOfType t v → IsOfType t u → value_rank t v ≡ value_rank t u → v ≡ u
one_value t v u h k e =
    same_Some v u (sym (ranks_are_places t v h) ∙ (ap (slice_get (values t)) e ∙ ranks_are_places t u k))

pub length_ranks : (ports : List PortType) (state : List Value) → IsStateOver ports state
    → length (state_ranks ports state) ≡ length ports
length_ranks [] [] h = refl
length_ranks [] (v ∷ state) h = absurd h
length_ranks (t ∷ ports) [] h = absurd h
length_ranks (t ∷ ports) (v ∷ state) h = ap suc (length_ranks ports state h.1)

same_values : (v u : Value) (xs ys : List Value) → v ≡ u → xs ≡ ys → v ∷ xs ≡ u ∷ ys
same_values v u xs ys e f = cc

same_states : (s o : List Value) (xs ys : List (List Value)) → s ≡ o → xs ≡ ys → s ∷ xs ≡ o ∷ ys
same_states s o xs ys e f = cc

heads_of : (x y : ℕ) (xs ys : List ℕ) → x ∷ xs ≡ y ∷ ys → (x ≡ y) × (xs ≡ ys)
heads_of x y xs ys e = let a : x ≡ y = cc in let b : xs ≡ ys = cc in (a, b)

pub one_state : (ports : List PortType) (s o : List Value) → IsStateOver ports s → IsStateOver ports o
    → state_ranks ports s ≡ state_ranks ports o → s ≡ o
one_state [] [] [] h k e = refl
one_state [] [] (u ∷ o) h k e = absurd k
one_state [] (v ∷ s) o h k e = absurd h
one_state (t ∷ ports) [] o h k e = absurd h
one_state (t ∷ ports) (v ∷ s) [] h k e = absurd k
one_state (t ∷ ports) (v ∷ s) (u ∷ o) h k e =
    let parts = heads_of (value_rank t v) (value_rank t u) (state_ranks ports s) (state_ranks ports o) e in
    same_values v u s o (one_value t v u h.0 k.0 parts.0) (one_state ports s o h.1 k.1 parts.1)

pub one_list : (ports : List PortType) (ss os : List (List Value)) → All (IsStateOver ports) ss → All (IsStateOver ports) os
    → length ss ≡ length os → flat_map (state_ranks ports) ss ≡ flat_map (state_ranks ports) os
    → ss ≡ os
one_list ports [] [] h k n e = refl
one_list ports [] (o ∷ os) h k n e = absurd (omega (arith, n))
one_list ports (s ∷ ss) [] h k n e = absurd (omega (arith, n))
one_list ports (s ∷ ss) (o ∷ os) h k n e =
    let a = All-head (IsStateOver ports) s ss h in
    let b = All-head (IsStateOver ports) o os k in
    let parts = same_fronts (state_ranks ports s) (state_ranks ports o) (flat_map (state_ranks ports) ss) (flat_map (state_ranks ports) os)
    (length_ranks ports s a ∙ sym (length_ranks ports o b)) e in
    same_states s o ss os (one_state ports s o a b parts.0)
    (one_list ports ss os (All-tail (IsStateOver ports) s ss h) (All-tail (IsStateOver ports) o os k) (omega (arith, n)) parts.1)

-- lists of as many states have as many ranks
pub as_many_ranks : (ports : List PortType) (ss os : List (List Value)) → All (IsStateOver ports) ss → All (IsStateOver ports) os
    → length ss ≡ length os
    → length (flat_map (state_ranks ports) ss) ≡ length (flat_map (state_ranks ports) os)
as_many_ranks ports [] [] h k n = refl
as_many_ranks ports [] (o ∷ os) h k n = absurd (omega (arith, n))
as_many_ranks ports (s ∷ ss) [] h k n = absurd (omega (arith, n))
as_many_ranks ports (s ∷ ss) (o ∷ os) h k n =
    let a = length_ranks ports s (All-head (IsStateOver ports) s ss h) in
    let b = length_ranks ports o (All-head (IsStateOver ports) o os k) in
    let rest = as_many_ranks ports ss os (All-tail (IsStateOver ports) s ss h) (All-tail (IsStateOver ports) o os k) (omega (arith, n)) in
    let left = length-append (state_ranks ports s) (flat_map (state_ranks ports) ss) in
    let right = length-append (state_ranks ports o) (flat_map (state_ranks ports) os) in
    omega (arith, a, b, rest, left, right)
