-- How the minimal ones are kept of sets in order. This file serves proofs only: no public contract cites it.
use Rattle.std.specs.Prelude.{◌≡◌, ℕ, ◌<◌, ◌≤◌, ◌==◌, nat_lt, Bool, true, false, List, [], ◌∷◌, length, AllPairs}
use Rattle.std.specs.Prelude.{Contains, if◌then◌else◌}
use Rattle.std.specs.declared.cmp.Ordering.TheVariants.{Less}
use Rattle.std.specs.Ordering.{is_lt}
use Rattle.std.specs.List.Sorted.{IsSortedBy}
use Rattle.minimal_sets.specs.Orders.{shortlex}
use Rattle.fault_tree.specs.Leaves.{IsSublist}

-- one pass over two rising lists: each number of the first stands in the second
abbrev pub sublist_test : List ℕ → List ℕ → Bool
sublist_test [] outer = true
sublist_test (x ∷ xs) [] = false
sublist_test (x ∷ xs) (y ∷ ys) =
    if nat_lt x y then false else (if x == y then sublist_test xs ys else sublist_test (x ∷ xs) ys)

-- no set stands before one that is less
abbrev pub IsSortedUp : List (List ℕ) → Type 0
IsSortedUp = IsSortedBy (λ s t. is_lt (shortlex s t))

-- shorter sets stand first
abbrev pub IsShortFirst : List (List ℕ) → Type 0
IsShortFirst = AllPairs (λ s t. length s ≤ length t)

-- some listed set is smaller, and a subset
pub record HasSmallerSubset (kept : List (List ℕ)) (s : List ℕ) : Type 0 where
  pub known : List ℕ
  pub listed : Contains kept known
  pub smaller : length known < length s
  pub subset : sublist_test known s ≡ true

-- What is kept of the sets so far: some of them, in order, none of which is a subset of another, and a subset of each
-- set so far.
pub record AreKeptOf (sets kept : List (List ℕ)) : Type 0 where
  pub from : (k : List ℕ) → Contains kept k → Contains sets k
  pub covers : (t : List ℕ) → Contains sets t → (k : List ℕ) × Contains kept k × IsSublist k t
  pub order : AllPairs (λ s t. shortlex s t ≡ Less) kept
  pub apart : (k l : List ℕ) → Contains kept k → Contains kept l → IsSublist k l → k ≡ l
