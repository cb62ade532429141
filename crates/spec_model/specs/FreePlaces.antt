-- Serves proofs only: the places of ports among all ports of a component, what a table keeps of them, and
-- the place of a port in the free order, which it finds by them.

use Rattle.std.specs.Prelude.{◌≡◌, ℕ, ◌+◌, ◌-◌, ◌≤◌, Bool, false, not, cond, nat_eq, nat_lt, List, [], ◌∷◌, Option}
use Rattle.std.specs.Prelude.{Some, None, slice_get, sum, filter}
use Rattle.std.specs.List.{list_any, prefix_len}
use Rattle.oss_base.specs.declared.ids.SubId.{SubId}
use Rattle.spec_model.specs.declared.wire.Target.{Target}
use Rattle.spec_model.specs.FreeRows.{ports_among}

-- where the ports of each subcomponent begin, from place n on
abbrev pub starts_from : ℕ → List ℕ → List ℕ
starts_from n [] = []
starts_from n (count ∷ counts) = n ∷ starts_from (n + count) counts

-- the place of a port in a row of so many ports that begins there
abbrev pub place_in_row : Option ℕ → Option ℕ → ℕ → Option ℕ
place_in_row None count port = None
place_in_row (Some start) None port = None
place_in_row (Some start) (Some count) port = cond (nat_lt port count) (Some (start + port)) None

-- the place of a port among all ports of a component, where it is one
abbrev pub whole_place_by : ℕ → List ℕ → Option SubId → ℕ → Option ℕ
whole_place_by own counts None port = cond (nat_lt port own) (Some port) None
whole_place_by own counts (Some sub) port = place_in_row (slice_get (starts_from own counts) sub.0)
    (slice_get counts sub.0) port

abbrev pub whole_place : ℕ → List ℕ → Target → Option ℕ
whole_place own counts t = whole_place_by own counts t.sub t.port.0

-- the place is none of the driven ones
abbrev pub is_undriven_at : List ℕ → Option ℕ → Bool
is_undriven_at driven None = false
is_undriven_at driven (Some place) = not (list_any (nat_eq place) driven)

-- the free ports by the places of the driven ones
abbrev pub free_by_places : ℕ → List ℕ → List ℕ → List Target
free_by_places own counts driven = filter (λ t. is_undriven_at driven (whole_place own counts t))
    (ports_among own counts)

-- how many of them are before a place, where they rise
abbrev pub count_before : List ℕ → ℕ → ℕ
count_before driven place = prefix_len (λ d. nat_lt d place) driven

-- the place in the free order, by the place among all ports
abbrev pub place_among_free : List ℕ → Option ℕ → Option ℕ
place_among_free driven None = None
place_among_free driven (Some place) = cond (list_any (nat_eq place) driven) None (Some
    (place - count_before driven place))

-- numbers that rise, each at least n
abbrev pub Rises : ℕ → List ℕ → Type 0
Rises n [] = Unit {0}
Rises n (d ∷ ds) = (n ≤ d) × Rises (d + 1) ds
