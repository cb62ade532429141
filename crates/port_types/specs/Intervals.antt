-- Intervals of whole numbers and their exact sums and differences, as in
-- R. E. Moore, Interval analysis (1966).
use Rattle.std.specs.Prelude.{◌≡◌, ℕ, ◌^◌, ℤ, pos, neg_ℤ, ◌+ℤ◌, ◌-ℤ◌, ◌≤ℤ◌}
use Rattle.port_types.specs.declared.interval.Interval.{Interval}

-- the number is in the interval
abbrev pub IsIn : ℤ → Interval → Type 0
IsIn z i = (i.lo ≤ℤ z) × (z ≤ℤ i.hi)

-- some number is in the interval
abbrev pub IsInhabited : Interval → Type 0
IsInhabited i = i.lo ≤ℤ i.hi

-- the ends are at most 2^61 in absolute value
abbrev pub HasShortEnds : Interval → Type 0
HasShortEnds i =
    (neg_ℤ (pos (2 ^ 61)) ≤ℤ i.lo) × (i.lo ≤ℤ pos (2 ^ 61)) × (neg_ℤ (pos (2 ^ 61)) ≤ℤ i.hi) × (i.hi ≤ℤ pos (2 ^ 61))

-- The interval holds the sums of a number of the first and one of the second, and nothing else where
-- neither is empty.
pub record AreSums (i j sums : Interval) : Type 0 where
  pub each : (x y : ℤ) → IsIn x i → IsIn y j → IsIn (x +ℤ y) sums
  pub only : IsInhabited i → IsInhabited j → (z : ℤ) → IsIn z sums
      → (x : ℤ) × (y : ℤ) × IsIn x i × IsIn y j × (x +ℤ y ≡ z)

-- the same of the differences
pub record AreDifferences (i j differences : Interval) : Type 0 where
  pub each : (x y : ℤ) → IsIn x i → IsIn y j → IsIn (x -ℤ y) differences
  pub only : IsInhabited i → IsInhabited j → (z : ℤ) → IsIn z differences
      → (x : ℤ) × (y : ℤ) × IsIn x i × IsIn y j × (x -ℤ y ≡ z)
