-- What a search for minimal members knows so far. This file serves proofs only: no public contract cites it.
use Rattle.std.specs.Prelude.{◌≡◌, ◌≢◌, ℕ, zero, suc, ◌+◌, ◌*◌, ◌<◌, ◌≤◌, ◌⊎◌, List, length, All, AllPairs}
use Rattle.std.specs.Prelude.{Contains, if◌then◌else◌}
use Rattle.port_types.specs.Sets.{has_place, HasPlace, places, IsSubset}
use Rattle.port_types.specs.declared.sets.Set24.{Set24}
use Rattle.minimal_sets.specs.Families.{LiesBelow, IsMinimalMember, IsMaximalOutside}

-- some listed set is a subset
pub record HasSubsetIn (sets : List Set24) (set : Set24) : Type 0 where
  pub known : Set24
  pub listed : Contains sets known
  pub subset : IsSubset known set

-- a superset has a listed subset too
pub superset_has : (sets : List Set24) (s t : Set24) → IsSubset s t → HasSubsetIn sets s → HasSubsetIn sets t
superset_has sets s t within has =
    record { known = has.known; listed = has.listed; subset = λ p in'. within p (has.subset p in') }

-- some listed set is a superset
pub record HasSupersetIn (sets : List Set24) (set : Set24) : Type 0 where
  pub known : Set24
  pub listed : Contains sets known
  pub superset : IsSubset set known

-- Whether a set belongs to the family is known: some member is a subset, or some set outside is a superset.
abbrev pub IsSettled : List Set24 → List Set24 → Set24 → Type 0
IsSettled members outside set = HasSubsetIn members set ⊎ HasSupersetIn outside set

-- neither is so
pub record IsUnsettled (members outside : List Set24) (set : Set24) : Type 0 where
  pub no_subset : All (λ m. IsSubset m set → ⊥) members
  pub no_superset : All (λ m. IsSubset set m → ⊥) outside

-- The sets with the numbers from one up to another are settled.
abbrev pub AreSettled : List Set24 → List Set24 → ℕ → ℕ → Type 0
AreSettled members outside from until =
    (s : Set24) → from ≤ s.bits → s.bits < until → IsSettled members outside s

-- Minimal members and maximal sets outside, each once, after which the sets below a number are settled.
pub record IsSearch (n : ℕ) (F : Set24 → Type 0) (next : ℕ) (members outside : List Set24) : Type 0 where
  pub minimal : All (IsMinimalMember n F) members
  pub maximal : All (IsMaximalOutside n F) outside
  pub members_once : AllPairs (λ s t. s ≢ t) members
  pub outside_once : AllPairs (λ s t. s ≢ t) outside
  pub settled : AreSettled members outside 0 next

-- A member on the way to a minimal one: a subset of this set, each of whose subsets that belong has all its places
-- below a number.
pub record IsShrunk (F : Set24 → Type 0) (set now : Set24) (tried : ℕ) : Type 0 where
  pub subset : IsSubset now set
  pub belongs : F now
  pub kept : (p : ℕ) → p < tried → HasPlace now p → (t : Set24) → IsSubset t now → F t → HasPlace t p

-- The same of a set outside on the way to a maximal one.
pub record IsGrown (n : ℕ) (F : Set24 → Type 0) (set now : Set24) (tried : ℕ) : Type 0 where
  pub superset : IsSubset set now
  pub below : LiesBelow n now
  pub outside : F now → ⊥
  pub lacked :
      (p : ℕ) → p < tried → (t : Set24) → LiesBelow n t → IsSubset now t → (F t → ⊥) → HasPlace t p
      → HasPlace now p

-- The count of steps rose by at most n + 1 for each set more.
abbrev pub Grows : ℕ → ℕ → ℕ → ℕ → ℕ → Type 0
Grows n before now sets more = now + (n + 1) * sets ≤ before + (n + 1) * more

-- The number of members as a number in base 2, before a digit for each of the first places, 1 where it is no member.
abbrev pub rank_from : Set24 → ℕ → ℕ
rank_from set zero = length (places set)
rank_from set (suc k) = rank_from set k * 2 + (if has_place set k then 0 else 1)
