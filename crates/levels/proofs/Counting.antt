-- Bits of types and numbers of guards.

use Rattle.std.proofs.Common.{◌≡◌, ℕ, zero, suc, ◌*◌, ◌/◌, ◌^◌, ◌≤◌, ◌<◌, ◌+◌, min, nat_lt, true, false, map, length, refl, sym, ap, ◌∙◌, arith}
use Rattle.std.proofs.lemmas.Bool.{lt-ltb, le-ltb}
use Rattle.std.proofs.Math.Nat.{pow-suc}
use Rattle.std.specs.Int.Count.{count_leading_zeros}
use Rattle.std.specs.Prelude.{ℤ, pos, ◌+ℤ◌, slice_index_or}
use Rattle.std.specs.List.{range_with_len}
use Rattle.std.proofs.Math.IntN.{+ℤ_idr}
use Rattle.std.proofs.lemmas.List.FromFn.{length-map-range_with_len, get_or-map-range_with_len}
use Rattle.port_types.specs.declared.types.PortType.{PortType}
use Rattle.port_types.specs.declared.types.PortType.TheVariants as kind
use Rattle.port_types.specs.declared.types.Value.TheVariants as value
use Rattle.port_types.specs.Types.{values, range_size}
use Rattle.first_lasso.specs.UsedPorts.{first_value}

half_above : (n k : ℕ) → 2 ^ suc k ≤ n → 2 ^ k ≤ n / 2
half_above n k l = let e : 2 ^ suc k ≡ 2 ^ k * 2 = pow-suc 2 k in omega (arith, e, l)

power_some : (k : ℕ) → 1 ≤ 2 ^ k
power_some zero = omega arith
power_some (suc k) = let e : 2 ^ suc k ≡ 2 ^ k * 2 = pow-suc 2 k in let p = power_some k in omega (arith, e, p)

-- a number with more than k digits has no leading zeros among k
pub no_leading : (k n : ℕ) → 2 ^ k ≤ n → count_leading_zeros k n ≡ 0
unfolding count_leading_zeros
no_leading zero n l = refl
no_leading (suc k) zero l = let p = power_some (suc k) in absurd (omega (arith, l, p))
no_leading (suc k) (suc n) l = no_leading k (suc n / 2) (half_above (suc n) k l)

-- how many values a range has
pub count_of_range : (t : PortType) (lo hi : ℤ) → t ≡ kind.Range lo hi → length (values t) ≡ range_size lo hi
count_of_range t lo hi e =
    ap (λ (u : PortType). length (values u)) e ∙ length-map-range_with_len (λ k. value.Int (lo +ℤ pos k)) 0 (range_size lo hi)

-- the first value of a range that has one, and of one that has none
pub first_of_range : (t : PortType) (lo hi : ℤ) → t ≡ kind.Range lo hi → 0 < range_size lo hi → value.Int lo ≡ first_value t
first_of_range t lo hi e l =
    let first = get_or-map-range_with_len (λ k. value.Int (lo +ℤ pos k)) 0 (range_size lo hi) 0 0 (value.Bool false) l (omega arith) in
    sym (ap first_value e ∙ (first ∙ ap value.Int (+ℤ_idr lo)))

pub first_of_none : (t : PortType) (lo hi : ℤ) → t ≡ kind.Range lo hi → range_size lo hi ≡ 0 → value.Bool false ≡ first_value t
first_of_none t lo hi e n =
    sym (ap first_value e ∙ ap (λ m. slice_index_or (map (λ k. value.Int (lo +ℤ pos k)) (range_with_len 0 m)) 0 (value.Bool false)) n)

-- counted up to one more than there may be

pub capped_on : (s t before after : ℕ) → before ≡ min s 257 → after ≡ min (before + t) 257 → after ≡ min (s + t) 257
capped_on s t before after e f = omega arith

pub many_bits : (s b : ℕ) → b ≡ min s 257 → b ≡ 257 → nat_lt 256 s ≡ true
many_bits s b e f = lt-ltb 256 s (omega arith)

pub few_bits : (s b : ℕ) → b ≡ min s 257 → (b ≡ 257 → ⊥) → nat_lt 256 s ≡ false
few_bits s b e f = le-ltb 256 s (omega arith)
