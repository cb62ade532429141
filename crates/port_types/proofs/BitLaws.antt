-- Bits of the numbers that stand for sets.
use Rattle.std.proofs.Common.{◌≡◌, ◌≢◌, ◌<◌, ◌≤◌, ◌+◌, ◌-◌, ◌*◌, ◌%◌, ◌^◌, ◌⊎◌, inl, inr, ◌↔◌, ◌++◌, ◌∷◌, [], ℕ, zero, suc, List, Bool, true, false}
use Rattle.std.proofs.Common.{length, min, max, bit_and, bit_or, refl, sym, ◌∙◌, subst, ap, arith, length-append}
use Rattle.std.specs.Prelude.{filter, ◌==◌, if◌then◌else◌}
use Rattle.std.specs.Coded.{le_prop}
use Rattle.std.specs.Int.{bit_at, bit_not, w32}
use Rattle.std.specs.List.{range_with_len}
use Rattle.std.proofs.Math.Nat.{pow-le-pow_right}
use Rattle.std.proofs.lemmas.Bool.{cases_lt, eq-eqb}
use Rattle.std.proofs.lemmas.Nat.{one_shl, or_lt, pow_below}
use Rattle.std.proofs.lemmas.Nat.Bits.{bit_at_ones, bit_at_ones_above, bit_at_or, bit_at_and, bit_at_set_same, bit_at_set_other, bit_at_clear_same}
use Rattle.std.proofs.lemmas.Nat.Bits.{bit_at_clear_other, bit_at_above, bit_at-lt, same_from_bits, same_from_bits_below}
use Rattle.std.proofs.lemmas.List.{append-nil}
use Rattle.std.proofs.lemmas.List.Elements.{filter-append}
use Rattle.port_types.specs.declared.sets.Set24.{Set24}

-- the numbers below n as bits
pub below_fits : (n : ℕ) → n ≤ 24 → 1 * 2 ^ n % 4294967296 - 1 < 16777216
below_fits n h = omega (arith, one_shl n 32 (omega arith), pow-le-pow_right {n = 2} (omega arith) {i = n} {j = 24} h)

pub below_has : (n p : ℕ) → n ≤ 24 → (bit_at (1 * 2 ^ n % 4294967296 - 1) p ≡ 1) ↔ (p < n)
below_has n p h =
    let e : 1 * 2 ^ n % 4294967296 ≡ 2 ^ n = one_shl n 32 (omega arith) in (
      λ one. elim (cases_lt p n) [ inl below ↦ below | inr past ↦ absurd (omega (arith, ap (λ m. bit_at (m - 1) p) e, one, bit_at_ones_above n p past)) ],
      λ below. ap (λ m. bit_at (m - 1) p) e ∙ bit_at_ones n p below,
    )

-- one bit more
pub with_fits : (bits k : ℕ) → bits < 16777216 → k < 24 → bit_or bits (1 * 2 ^ k % 4294967296) < 16777216
with_fits bits k within small =
    subst (λ m. bit_or bits m < 16777216) (sym (one_shl k 32 (omega arith))) (or_lt 24 bits (2 ^ k) within (pow_below k 24 small))

same_or_not : (p k : ℕ) → (p ≡ k) ⊎ (p ≢ k)
same_or_not p k =
    elim (cases_lt p k) [
      | inl below ↦ inr (λ e. omega (arith, e))
      | inr past ↦ elim (cases_lt k p) [ inl above ↦ inr (λ e. omega (arith, e)) | inr upto ↦ inl (omega arith) ]
    ]

pub with_has : (bits k p : ℕ) → k < 24 → (bit_at (bit_or bits (1 * 2 ^ k % 4294967296)) p ≡ 1)
    ↔ ((p ≡ k) ⊎ (bit_at bits p ≡ 1))
with_has bits k p h =
    let short : k < 32 = omega arith in (
      λ one. elim (same_or_not p k) [ inl same ↦ inl same | inr other ↦ inr (sym (bit_at_set_other w32 bits k short p other) ∙ one) ],
      λ either. elim either [
        | inl same ↦ subst (λ m. bit_at (bit_or bits (1 * 2 ^ k % 4294967296)) m ≡ 1) (sym same) (bit_at_set_same w32 bits k short)
        | inr had ↦ elim (same_or_not p k) [
          | inl same ↦ subst (λ m. bit_at (bit_or bits (1 * 2 ^ k % 4294967296)) m ≡ 1) (sym same) (bit_at_set_same w32 bits k short)
          | inr other ↦ bit_at_set_other w32 bits k short p other ∙ had
        ]
      ],
    )

-- one bit less
cleared : (bits k p : ℕ) → k < 24 → p < 32 → (bit_at (bit_and bits (4294967295 - 1 * 2 ^ k % 4294967296)) p ≡ 1)
    ↔ ((p ≡ k → ⊥) × (bit_at bits p ≡ 1))
cleared bits k p h low =
    let short : k < 32 = omega arith in (
      λ one. elim (same_or_not p k) [
        | inl same ↦ absurd (omega (
          arith,
          subst (λ m. bit_at (bit_and bits (4294967295 - 1 * 2 ^ k % 4294967296)) m
              ≡ 0) (sym same) (bit_at_clear_same w32 bits k short),
          one,
        ))
        | inr other ↦ (other, sym (bit_at_clear_other w32 bits k short p low other) ∙ one)
      ],
      λ both. bit_at_clear_other w32 bits k short p low both.0 ∙ both.1,
    )

pub without_has : (bits k p : ℕ) → bits < 16777216 → k < 24
    → (bit_at (bit_and bits (4294967295 - 1 * 2 ^ k % 4294967296)) p ≡ 1) ↔ ((p ≡ k → ⊥) × (bit_at bits p ≡ 1))
without_has bits k p within h =
    elim (cases_lt p 32) [
      | inl low ↦ cleared bits k p h low
      | inr high ↦
          let none : bit_at bits p ≡ 0 = bit_at_above bits 24 p within (omega arith) in (
            λ one. absurd (omega (arith, bit_at_and bits (4294967295 - 1 * 2 ^ k % 4294967296) p, none, one)),
            λ both. absurd (omega (arith, none, both.1)),
          )
    ]

-- the bits of both
pub either_has : (a b p : ℕ) → (bit_at (bit_or a b) p ≡ 1) ↔ ((bit_at a p ≡ 1) ⊎ (bit_at b p ≡ 1))
either_has a b p =
    let e : bit_at (bit_or a b) p ≡ max (bit_at a p) (bit_at b p) = bit_at_or a b p in
    let below : bit_at a p < 2 = bit_at-lt a p in
    let under : bit_at b p < 2 = bit_at-lt b p in (
      λ one. elim (cases_lt (bit_at a p) 1) [ inl none ↦ inr (omega (arith, e, one, none, under)) | inr some ↦ inl (omega (arith, below, some)) ],
      λ either. elim either [ inl left ↦ omega (arith, e, left, under) | inr right ↦ omega (arith, e, right, below) ],
    )

-- a & b ≡ a says that each bit of a is one of b
pub covered_has : (a b p : ℕ) → bit_and a b ≡ a → bit_at a p ≡ 1 → bit_at b p ≡ 1
covered_has a b p e one =
    let m : bit_at (bit_and a b) p ≡ min (bit_at a p) (bit_at b p) = bit_at_and a b p in
    let under : bit_at b p < 2 = bit_at-lt b p in
    omega (arith, m, ap (λ n. bit_at n p) e, one, under)

pub covered_from : (a b : ℕ) → ((p : ℕ) → bit_at a p ≡ 1 → bit_at b p ≡ 1) → bit_and a b ≡ a
covered_from a b h =
    same_from_bits (bit_and a b) a (λ p.
    let m : bit_at (bit_and a b) p ≡ min (bit_at a p) (bit_at b p) = bit_at_and a b p in
    let below : bit_at a p < 2 = bit_at-lt a p in
    elim (cases_lt (bit_at a p) 1) [
      | inl none ↦ omega (arith, m, none)
      | inr some ↦ let one : bit_at a p ≡ 1 = omega (arith, below, some) in omega (arith, m, one, h p one)
    ])

-- two numbers of 24 bits with the same bits that are 1
pub same_ones : (a b : ℕ) → a < 16777216 → b < 16777216 → ((p : ℕ) → (bit_at a p ≡ 1) ↔ (bit_at b p ≡ 1)) → a ≡ b
same_ones a b within short h =
    same_from_bits_below 24 a b within short (λ p low.
    let below : bit_at a p < 2 = bit_at-lt a p in
    let under : bit_at b p < 2 = bit_at-lt b p in
    elim (cases_lt (bit_at a p) 1) [
      | inl none ↦ elim (cases_lt (bit_at b p) 1)
          [ inl nil ↦ omega (arith, none, nil) | inr some ↦ absurd (omega (arith, none, (h p).1 (omega (arith, under, some)))) ]
      | inr some ↦ omega (arith, below, some, (h p).0 (omega (arith, below, some)))
    ])

set_of : (bits : ℕ) → bits < 16777216 → Set24
set_of bits within = record { bits = bits; in_range = within }

same_fits : (n : ℕ) → IsProp (n < 16777216)
same_fits n = le_prop

set_path : (a b : ℕ) (within : a < 16777216) (short : b < 16777216) → a ≡ b → set_of a within ≡ set_of b short
set_path a b within short e =
    subst (λ (n : ℕ). (fits : n < 16777216) → set_of a within ≡ set_of n fits) e (λ fits. ap (set_of a) (same_fits a within fits)) short

pub same_sets : (s t : Set24) → ((p : ℕ) → (bit_at s.bits p ≡ 1) ↔ (bit_at t.bits p ≡ 1)) → s ≡ t
unfolding set_of
same_sets s t h = set_path s.bits t.bits s.in_range t.in_range (same_ones s.bits t.bits s.in_range t.in_range h)

-- the numbers from a on that pass, one number more
range_suc : (a n : ℕ) → range_with_len a (suc n) ≡ range_with_len a n ++ (a + n) ∷ []
range_suc a zero = ap (λ (m : ℕ). m ∷ []) (omega arith)
range_suc a (suc n) = ap (λ (l : List ℕ). a ∷ l) (range_suc (a + 1) n ∙ ap (λ (m : ℕ). range_with_len (a + 1) n ++ m ∷ []) (omega arith))

range_more : (n : ℕ) → range_with_len 0 (n + 1) ≡ range_with_len 0 n ++ n ∷ []
range_more n =
    let next : n + 1 ≡ suc n = omega arith in
    ap (range_with_len 0) next ∙ range_suc 0 n ∙ ap (λ (m : ℕ). range_with_len 0 n ++ m ∷ []) (omega arith)

pub passing_more : (p : ℕ → Bool) (n : ℕ) → p n ≡ true → filter p (range_with_len 0 (n + 1))
    ≡ filter p (range_with_len 0 n) ++ n ∷ []
passing_more p n passes =
    ap (filter p) (range_more n) ∙ filter-append p (range_with_len 0 n) (n ∷ [])
    ∙ ap (λ (b : Bool). filter p (range_with_len 0 n) ++ (if b then n ∷ [] else [])) passes

pub failing_more : (p : ℕ → Bool) (n : ℕ) → p n ≡ false → filter p (range_with_len 0 (n + 1))
    ≡ filter p (range_with_len 0 n)
failing_more p n fails =
    ap (filter p) (range_more n) ∙ filter-append p (range_with_len 0 n) (n ∷ [])
    ∙ ap (λ (b : Bool). filter p (range_with_len 0 n) ++ (if b then n ∷ [] else [])) fails ∙ append-nil _

pub passing_count : (p : ℕ → Bool) (n : ℕ) → p n ≡ true → length (filter p (range_with_len 0 (n + 1)))
    ≡ length (filter p (range_with_len 0 n)) + 1
passing_count p n passes = ap length (passing_more p n passes) ∙ length-append (filter p (range_with_len 0 n)) (n ∷ []) ∙ omega arith
