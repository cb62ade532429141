-- Blocks of consecutive numbers that agree in all bits from a place on.
use Rattle.std.proofs.Common.{◌≡◌, ℕ, Bool, true, false, ◌+◌, ◌-◌, ◌*◌, ◌/◌, ◌%◌, ◌^◌, ◌<◌, ◌≤◌, sym, ap, ◌∙◌, arith, inl, inr}
use Rattle.std.specs.Prelude.{◌==◌}
use Rattle.std.specs.Int.{bit_at}
use Rattle.std.proofs.Math.Nat.{div-eq_of_lt-le, div-mul-le_self}
use Rattle.std.proofs.lemmas.Nat.{shr-shr}
use Rattle.std.proofs.lemmas.Bool.{cases_lt, eqb-false, eqb-true}
use Rattle.port_types.specs.Sets.{has_place, IsSubset}
use Rattle.port_types.specs.declared.sets.Set24.{Set24}

-- the end of the block of 2 ^ p numbers that has x
abbrev pub block_end : ℕ → ℕ → ℕ
block_end x p = (x / 2 ^ p + 1) * 2 ^ p

same_block : (x y p : ℕ) → x ≤ y → y < block_end x p → y / 2 ^ p ≡ x / 2 ^ p
same_block x y p from until = div-eq_of_lt-le (2 ^ p) (omega (arith, div-mul-le_self x (2 ^ p))) until

block_bits : (x y p q : ℕ) → x ≤ y → y < block_end x p → p ≤ q → bit_at y q ≡ bit_at x q
block_bits x y p q from until high =
    let e : p + (q - p) ≡ q = omega arith in
    ap (λ (m : ℕ). m % 2) (
    ap (λ (r : ℕ). y / 2 ^ r) (sym e) ∙ sym (shr-shr y p (q - p)) ∙ ap (λ (m : ℕ). m / 2 ^ (q - p)) (same_block x y p from until)
    ∙ shr-shr x p (q - p) ∙ ap (λ (r : ℕ). x / 2 ^ r) e
    )

-- a subset without places below p is one of each set of the block
pub supersets_in_block : (set subset : Set24) (p : ℕ) → IsSubset subset set
    → ((q : ℕ) → q < p → has_place subset q ≡ false)
    → (s : Set24) → set.bits ≤ s.bits → s.bits < block_end set.bits p → IsSubset subset s
supersets_in_block set subset p within none s from until = λ q has.
    elim (cases_lt q p) [
      | inl low ↦ absurd (eqb-false _ _ (none q low) has)
      | inr high ↦ block_bits set.bits s.bits p q from until high ∙ within q has
    ]

-- a superset with all places below p is one of each set of the block
pub subsets_in_block : (set superset : Set24) (p : ℕ) → IsSubset set superset
    → ((q : ℕ) → q < p → has_place superset q ≡ true)
    → (s : Set24) → set.bits ≤ s.bits → s.bits < block_end set.bits p → IsSubset s superset
subsets_in_block set superset p within all s from until = λ q has.
    elim (cases_lt q p) [
      | inl low ↦ eqb-true _ _ (all q low)
      | inr high ↦ within q (sym (block_bits set.bits s.bits p q from until high) ∙ has)
    ]
