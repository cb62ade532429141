-- Families of sets that are closed upwards, their minimal members, and the maximal sets outside of them: the minimal
-- true points and the maximal false points of a monotone Boolean function, as in J. C. Bioch and T. Ibaraki,
-- Complexity of identification and dualization of positive Boolean functions (1995).
use Rattle.std.specs.Prelude.{◌≡◌, ◌≢◌, ℕ, ◌+◌, ◌*◌, ◌<◌, ◌≤◌, ◌↔◌, List, length, All, AllPairs, Contains}
use Rattle.port_types.specs.Sets.{HasPlace, IsSubset}
use Rattle.port_types.specs.declared.sets.Set24.{Set24}

-- with a set, each of its supersets belongs to the family
abbrev pub IsUpwardClosed : (Set24 → Type 0) → Type 0
IsUpwardClosed F = (s t : Set24) → IsSubset s t → F s → F t

-- the same sets belong
abbrev pub IsSameFamily : (Set24 → Type 0) → (Set24 → Type 0) → Type 0
IsSameFamily F G = (s : Set24) → F s ↔ G s

-- a set of numbers below n
abbrev pub LiesBelow : ℕ → Set24 → Type 0
LiesBelow n set = (place : ℕ) → HasPlace set place → place < n

-- A set of numbers below n that belongs to the family, and no proper subset of which does.
pub record IsMinimalMember (n : ℕ) (F : Set24 → Type 0) (set : Set24) : Type 0 where
  pub below : LiesBelow n set
  pub belongs : F set
  pub least : (t : Set24) → IsSubset t set → F t → t ≡ set

-- A set of numbers below n outside of the family, and no proper superset of numbers below n is outside.
pub record IsMaximalOutside (n : ℕ) (F : Set24 → Type 0) (set : Set24) : Type 0 where
  pub below : LiesBelow n set
  pub outside : F set → ⊥
  pub greatest : (t : Set24) → LiesBelow n t → IsSubset set t → (F t → ⊥) → t ≡ set

-- The list has exactly the sets of which P holds, each once.
pub record ListsExactly (P : Set24 → Type 0) (sets : List Set24) : Type 0 where
  pub each : All P sets
  pub every : (s : Set24) → P s → Contains sets s
  pub once : AllPairs (λ s t. s ≢ t) sets

-- The count of steps rose by at most n + 1 for each of these sets and for each maximal set outside of the family.
pub record TakesFewSteps (n : ℕ) (F : Set24 → Type 0) (before now : ℕ) (sets : List Set24) : Type 0 where
  pub maximal : List Set24
  pub exactly : ListsExactly (IsMaximalOutside n F) maximal
  pub within : now ≤ before + (n + 1) * (length sets + length maximal)
