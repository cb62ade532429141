-- Laws of the shortlex order.
use Rattle.std.proofs.Common.{◌≡◌, ℕ, ◌<◌, ◌≤◌, ◌⊎◌, inl, inr, Bool, false, List, length, get_or, refl, sym, ap, ◌∙◌, arith}
use Rattle.std.specs.declared.cmp.Ordering.{Ordering}
use Rattle.std.specs.declared.cmp.Ordering.TheVariants.{Less, Equal, Greater}
use Rattle.std.specs.Ordering.{is_lt, nat_cmp, ordering_then, ordering_reverse}
use Rattle.std.specs.Cmp.{IsTotalOrder, IsStrictWeakOrder, on_total, then_total, nat_cmp_total}
use Rattle.std.specs.Cmp.Lexicographic.{slice_cmp, nat_list_cmp_total}
use Rattle.std.specs.FinMap.{slice_cmp-IsAntisymmetric, nat_cmp-IsAntisymmetric}
use Rattle.std.proofs.lemmas.Bool.{cases_lt, le-ltb, ne_eqb}
use Rattle.std.proofs.lemmas.List.Sorted.{ranks_by, sorted_far}
use Rattle.std.specs.Prelude.{◌==◌, if◌then◌else◌}
use Rattle.minimal_sets.specs.Orders.{shortlex}
use Rattle.fault_tree.specs.Keeping.{IsSortedUp}

pub shortlex_total : IsTotalOrder shortlex
shortlex_total = then_total (on_total length nat_cmp_total) nat_list_cmp_total

pub shortlex_weak : IsStrictWeakOrder (λ s t. is_lt (shortlex s t))
shortlex_weak = ranks_by shortlex_total (λ s. s)

then_equal : (a b : Ordering) → ordering_then a b ≡ Equal → b ≡ Equal
then_equal Less b e = cc
then_equal Equal b e = e
then_equal Greater b e = cc

-- lists that tie are the same
pub shortlex_same : (s t : List ℕ) → shortlex s t ≡ Equal → s ≡ t
shortlex_same s t e =
    slice_cmp-IsAntisymmetric nat_cmp-IsAntisymmetric s t (then_equal (nat_cmp (length s) (length t)) (slice_cmp nat_cmp s t) e)

-- a list that is not longer in the order is not longer
longer_after : (s t : List ℕ) → length t < length s → shortlex s t ≡ Greater
longer_after s t longer =
    ap (λ (a : Bool). ordering_then (if a then Less else (if length s == length t then Equal else Greater)) (slice_cmp nat_cmp s t))
    (le-ltb (length s) (length t) (omega (arith, longer)))
    ∙ ap (λ (a : Bool). ordering_then (if a then Equal else Greater) (slice_cmp nat_cmp s t))
    (ne_eqb (length s) (length t) (λ e. omega (arith, e, longer)))

less_not_greater : (r : Ordering) → r ≡ Less → r ≡ Greater → ⊥
less_not_greater r e g = cc

both_ways_lt : (r : Ordering) → r ≡ Less → is_lt r ≡ false → ⊥
both_ways_lt Less e f = cc
both_ways_lt Equal e f = cc
both_ways_lt Greater e f = cc

-- three cases of an order
pub data Cases (s t : List ℕ) : Type 0 where
  before : shortlex s t ≡ Less → Cases s t
  same : s ≡ t → Cases s t
  after : shortlex t s ≡ Less → Cases s t

turned : (r q : Ordering) → r ≡ ordering_reverse q → r ≡ Greater → q ≡ Less
turned r Less e g = refl
turned r Equal e g = cc
turned r Greater e g = cc

cases_of : (s t : List ℕ) (r : Ordering) → shortlex s t ≡ r → Cases s t
cases_of s t Less e = before e
cases_of s t Equal e = same (shortlex_same s t e)
cases_of s t Greater e = after (turned (shortlex s t) (shortlex t s) (shortlex_total.antisymm s t) e)

pub order_of : (s t : List ℕ) → Cases s t
order_of s t = cases_of s t (shortlex s t) refl

reverse_less : (q : Ordering) → Less ≡ ordering_reverse q → q ≡ Less → ⊥
reverse_less Less e l = cc
reverse_less Equal e l = cc
reverse_less Greater e l = cc

-- no list is less than itself, and none is less and greater
pub not_both : (s t : List ℕ) → shortlex s t ≡ Less → shortlex t s ≡ Less → ⊥
not_both s t first second = reverse_less (shortlex t s) (sym first ∙ shortlex_total.antisymm s t) second

pub not_itself : (s : List ℕ) → shortlex s s ≡ Less → ⊥
not_itself s h = not_both s s h h

-- a list that stands before another is not longer
pub before_short : (s t : List ℕ) → shortlex s t ≡ Less → length s ≤ length t
before_short s t less =
    elim (cases_lt (length t) (length s)) [
      | inl longer ↦ absurd (less_not_greater (shortlex s t) less (longer_after s t longer))
      | inr upto ↦ upto
    ]

-- in a sorted list an earlier set stands before a later one, or is the same
pub sorted_up : (sets : List (List ℕ)) → IsSortedUp sets → (i j : ℕ) (d : List ℕ) → i ≤ j → j < length sets
    → (shortlex (get_or sets i d) (get_or sets j d) ≡ Less) ⊎ (get_or sets i d ≡ get_or sets j d)
sorted_up sets up i j d from last =
    elim (order_of (get_or sets i d) (get_or sets j d)) [
      | before less ↦ inl less
      | same e ↦ inr e
      | after less ↦ absurd (both_ways_lt (shortlex (get_or sets j d) (get_or sets i d)) less
          (sorted_far (λ s t. is_lt (shortlex s t)) shortlex_weak sets up i j d from last))
    ]
