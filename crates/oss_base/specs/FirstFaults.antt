-- The first fault of a text over all phases, once for all of them. Its laws speak of every relation between a phase, a
-- kind and an offset, which no clause of a function can; so they are lemmas of this crate (`proofs/FirstFaults.antt`),
-- which other crates cite.
use Rattle.std.specs.Prelude.{◌≡◌, ℕ, ◌<◌, ◌≤◌, ◌⊎◌}
use Rattle.oss_base.specs.Faults.{fault_number}
use Rattle.oss_base.specs.declared.fault.FaultKind.{FaultKind}

-- Given where the faults of each phase stand, a fault of this kind at this offset is the first: it is one of
-- the least phase that has any, then of the least offset, then of the least number.
pub record IsFirst (At : ℕ → FaultKind → ℕ → Type 0) (kind : FaultKind) (offset : ℕ) : Type 0 where
  pub phase : ℕ
  pub stands : At phase kind offset
  pub earlier : (p : ℕ) (k : FaultKind) (b : ℕ) → p < phase → At p k b → ⊥
  pub least :
      (k : FaultKind) (b : ℕ) → At phase k b
      → (offset < b) ⊎ ((offset ≡ b) × (fault_number kind ≤ fault_number k))

-- No phase has a fault.
abbrev pub IsClear : (ℕ → FaultKind → ℕ → Type 0) → Type 0
IsClear At = (p : ℕ) (k : FaultKind) (b : ℕ) → At p k b → ⊥
