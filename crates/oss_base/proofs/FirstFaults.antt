-- The laws of the first fault: it is unique, it exists where some phase has a fault, and in a phase whose faults are a list it is
-- the first of that list.
use Rattle.std.specs.Prelude.{◌≡◌, ℕ, ◌+◌, ◌<◌, ◌≤◌, ◌⊎◌, ◌↔◌, ◌==◌, ◌&&◌, ◌||◌, nat_lt, Bool, false, List, Contains}
use Rattle.std.proofs.Common.{zero, suc, inl, inr, sym, subst, arith}
use Rattle.std.proofs.lemmas.Bool.{cases_lt}
use Rattle.std.proofs.lemmas.Bool.Decides.{nat_tests}
use Rattle.std.proofs.lemmas.List.Elements.{All-contains}
use Rattle.oss_base.specs.Faults.{fault_number}
use Rattle.oss_base.specs.FirstFaults.{IsFirst, IsClear}
use Rattle.oss_base.specs.Sites.{goes_before, IsFirstSite}
use Rattle.oss_base.specs.declared.sites.FaultSite.{FaultSite}
use Rattle.oss_base.specs.declared.fault.FaultKind.{FaultKind}
use Rattle.oss_base.proofs.FaultNumbers.{fault_number-injective}

same_phase : (p q : ℕ) → (p < q → ⊥) → (q < p → ⊥) → p ≡ q
same_phase p q not_less not_more =
    elim (cases_lt p q) [
      | inl less ↦ absurd (not_less less)
      | inr upto ↦ elim
          (cases_lt q p) [ inl more ↦ absurd (not_more more) | inr past ↦ omega arith ]
    ]

same_offsets : (a b m n : ℕ) → (a < b) ⊎ ((a ≡ b) × (m ≤ n)) → (b < a) ⊎ ((b ≡ a) × (n ≤ m)) → a ≡ b
same_offsets a b m n h i = elim h [ inl less ↦ elim i [ inl more ↦ absurd (omega arith) | inr tie ↦ sym tie.0 ] | inr tie ↦ tie.0 ]

same_numbers : (a b m n : ℕ) → (a < b) ⊎ ((a ≡ b) × (m ≤ n)) → (b < a) ⊎ ((b ≡ a) × (n ≤ m)) → m ≡ n
same_numbers a b m n h i =
    elim h [
      | inl less ↦ elim i [ inl more ↦ absurd (omega arith) | inr tie ↦ absurd (omega (arith, tie.0)) ]
      | inr tie ↦ elim i [ inl more ↦ absurd (omega (arith, tie.0)) | inr other ↦ omega (arith, tie.1, other.1) ]
    ]

not_before : (a b m n : ℕ) → nat_lt a b || (a == b && nat_lt m n) ≡ false → (b < a) ⊎ ((b ≡ a) × (n ≤ m))
not_before a b m n h = elim (cases_lt b a) [ inl less ↦ inl less | inr upto ↦ inr (grind (arith, nat_tests), grind (arith, nat_tests)) ]

-- where no fault is the first, there is none: by the number, then the offset, then the phase
clear_here : (At : ℕ → FaultKind → ℕ → Type 0) → ((k : FaultKind) (a : ℕ) → IsFirst At k a → ⊥)
    → (p b : ℕ) (k : FaultKind)
    → ((q : ℕ) (l : FaultKind) (a : ℕ) → q < p → At q l a → ⊥)
    → ((a : ℕ) (l : FaultKind) → a < b → At p l a → ⊥)
    → ((l : FaultKind) → fault_number l < fault_number k → At p l b → ⊥) → At p k b → ⊥
clear_here At none p b k phases offsets numbers stands = none k b (record {
  phase = p;
  stands = stands;
  earlier = phases;
  least = λ l a other.
      elim (cases_lt b a) [
        | inl past ↦ inl past
        | inr upto ↦ elim (cases_lt a b) [
          | inl under ↦ absurd (offsets a l under other)
          | inr from ↦ elim (cases_lt (fault_number l) (fault_number k)) [
            | inl lesser ↦ absurd (numbers l lesser (subst (λ c. At p l c) (omega arith) other))
            | inr most ↦ inr (omega arith, most)
          ]
        ]
      ];
})

clear_numbers : (At : ℕ → FaultKind → ℕ → Type 0) → ((k : FaultKind) (a : ℕ) → IsFirst At k a → ⊥) → (p b : ℕ)
    → ((q : ℕ) (l : FaultKind) (a : ℕ) → q < p → At q l a → ⊥)
    → ((a : ℕ) (l : FaultKind) → a < b → At p l a → ⊥) → (n : ℕ) (k : FaultKind) → fault_number k < n → At p k b → ⊥
clear_numbers At none p b phases offsets zero k below = absurd (omega arith)
clear_numbers At none p b phases offsets (suc n) k below =
    clear_here At none p b k phases offsets (λ l less. clear_numbers At none p b phases offsets n l (omega arith))

clear_offsets : (At : ℕ → FaultKind → ℕ → Type 0) → ((k : FaultKind) (a : ℕ) → IsFirst At k a → ⊥) → (p : ℕ)
    → ((q : ℕ) (l : FaultKind) (a : ℕ) → q < p → At q l a → ⊥) → (n b : ℕ) (k : FaultKind) → b < n → At p k b → ⊥
clear_offsets At none p phases zero b k below = absurd (omega arith)
clear_offsets At none p phases (suc n) b k below =
    clear_numbers At none p b phases (λ a l less. clear_offsets At none p phases n a l (omega arith)) (fault_number k + 1) k (omega arith)

clear_phases : (At : ℕ → FaultKind → ℕ → Type 0) → ((k : FaultKind) (a : ℕ) → IsFirst At k a → ⊥)
    → (n p b : ℕ) (k : FaultKind) → p < n → At p k b → ⊥
clear_phases At none zero p b k below = absurd (omega arith)
clear_phases At none (suc n) p b k below =
    clear_offsets At none p (λ q l a less. clear_phases At none n q a l (omega arith)) (b + 1) b k (omega arith)

-- A text has at most one first fault.
pub IsFirst-unique : (At : ℕ → FaultKind → ℕ → Type 0) (k l : FaultKind) (a b : ℕ)
    → IsFirst At k a → IsFirst At l b → (k ≡ l) × (a ≡ b)
IsFirst-unique At k l a b h i =
    let phases : h.phase ≡ i.phase = same_phase h.phase i.phase (λ less. i.earlier h.phase k a less h.stands)
    (λ less. h.earlier i.phase l b less i.stands) in
    let after = h.least l b (subst (λ p. At p l b) (sym phases) i.stands) in
    let ahead = i.least k a (subst (λ p. At p k a) phases h.stands) in (
      fault_number-injective k l (same_numbers a b (fault_number k) (fault_number l) after ahead),
      same_offsets a b (fault_number k)
          (fault_number l) after ahead,
    )

-- None exists exactly where every phase is clear.
pub IsClear-from_none : (At : ℕ → FaultKind → ℕ → Type 0) → ((k : FaultKind) (a : ℕ) → IsFirst At k a → ⊥) → IsClear At
IsClear-from_none At none = λ p k b stands. clear_phases At none (p + 1) p b k (omega arith) stands

pub none_from_IsClear : (At : ℕ → FaultKind → ℕ → Type 0) → IsClear At → (k : FaultKind) (a : ℕ) → IsFirst At k a → ⊥
none_from_IsClear At clear k a h = clear h.phase k a h.stands

-- In a phase whose faults are a list of sites, after phases without faults, the first fault is the first site
-- of the list; where the list is empty, the phase has none.
pub IsFirst-from_sites : (At : ℕ → FaultKind → ℕ → Type 0) (phase : ℕ) (sites : List FaultSite) (site : FaultSite)
    → ((p : ℕ) (k : FaultKind) (b : ℕ) → p < phase → At p k b → ⊥)
    → ((k : FaultKind) (b : ℕ) → At phase k b ↔ Contains sites (record { kind = k; offset = b }))
    → IsFirstSite sites site → IsFirst At site.kind site.offset
IsFirst-from_sites At phase sites site clear listed h = record {
  phase = phase;
  stands = (listed site.kind site.offset).1 h.member;
  earlier = clear;
  least = λ k b stands. not_before b site.offset (fault_number k) (fault_number site.kind)
      (All-contains (λ other. goes_before other site ≡ false) sites (record { kind = k; offset = b }) h.least ((listed k b).0 stands));
}
