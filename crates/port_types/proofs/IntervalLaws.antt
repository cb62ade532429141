-- Exact sums and differences of intervals.
use Rattle.std.proofs.Common.{◌≡◌, ℕ, arith, refl}
use Rattle.std.specs.Prelude.{ℤ, pos, ◌+ℤ◌, ◌-ℤ◌, ◌≤ℤ◌, ◌<ℤ◌}
use Rattle.std.proofs.lemmas.Int.{ints, by_lt_z}
use Rattle.port_types.specs.declared.interval.Interval.{Interval}
use Rattle.port_types.specs.Intervals.{IsIn, IsInhabited, AreSums, AreDifferences}

-- intervals with the same ends are the same
pub same_interval : (a b c d : ℤ) → a ≡ c → b ≡ d
    → ◌≡◌ {A = Interval} (record { lo = a; hi = b }) (record { lo = c; hi = d })
same_interval a b c d e f = cc

-- a sum of numbers between a and b and between c and d
parts_of_sum : (a b c d z : ℤ) → a ≤ℤ b → c ≤ℤ d → (a +ℤ c) ≤ℤ z → z ≤ℤ (b +ℤ d)
    → (x : ℤ) × (y : ℤ) × ((a ≤ℤ x) × (x ≤ℤ b)) × ((c ≤ℤ y) × (y ≤ℤ d)) × (x +ℤ y ≡ z)
parts_of_sum a b c d z ab cd low high =
    by_lt_z z (a +ℤ d)
    (λ left. (a, z -ℤ a, (omega (arith, ints), ab), (omega (arith, ints), omega (arith, ints)), omega (arith, ints)))
    (λ right. (z -ℤ d, d, (omega (arith, ints), omega (arith, ints)), (cd, omega (arith, ints)), omega (arith, ints)))

pub sums_exact : (i j : Interval) → AreSums i j (record { lo = i.lo +ℤ j.lo; hi = i.hi +ℤ j.hi })
sums_exact i j = record {
  each = λ x y p q. (omega (arith, ints), omega (arith, ints));
  only = λ some other z p. parts_of_sum i.lo i.hi j.lo j.hi z some other p.0 p.1;
}

pub differences_exact : (i j : Interval) → AreDifferences i j (record { lo = i.lo -ℤ j.hi; hi = i.hi -ℤ j.lo })
differences_exact i j = record {
  each = λ x y p q. (omega (arith, ints), omega (arith, ints));
  only = λ some other z p.
      by_lt_z z (i.lo -ℤ j.lo)
      (λ left. (i.lo, i.lo -ℤ z, (omega (arith, ints), some), (omega (arith, ints), omega (arith, ints)), omega (arith, ints)))
      (λ right. (z +ℤ j.lo, j.lo, (omega (arith, ints), omega (arith, ints)), (omega (arith, ints), other), omega (arith, ints)));
}
