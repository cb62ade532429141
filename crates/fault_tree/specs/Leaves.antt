-- Sets of leaves as rising lists of numbers, and the minimal ones among them: the minimal cut sets of a fault tree, as
-- in W. E. Vesely and others, Fault tree handbook, NUREG-0492, chapter VII (1981).
use Rattle.std.specs.Prelude.{◌≡◌, ℕ, ◌<◌, List, All, AllPairs, Contains}
use Rattle.std.specs.declared.cmp.Ordering.TheVariants.{Less}
use Rattle.minimal_sets.specs.Orders.{shortlex}

-- the numbers rise
abbrev pub IsRising : List ℕ → Type 0
IsRising = AllPairs (λ x y. x < y)

-- each number of the first set is one of the second
abbrev pub IsSublist : List ℕ → List ℕ → Type 0
IsSublist inner outer = (x : ℕ) → Contains inner x → Contains outer x

-- one of the sets of which P holds, and no other of them is a subset
pub record IsMinimalOf (P : List ℕ → Type 0) (s : List ℕ) : Type 0 where
  pub holds : P s
  pub least : (t : List ℕ) → P t → IsSublist t s → t ≡ s

-- Exactly the minimal ones of the sets of which P holds, each once, in shortlex order.
pub record AreMinimalOf (P : List ℕ → Type 0) (sets : List (List ℕ)) : Type 0 where
  pub each : All (IsMinimalOf P) sets
  pub every : (s : List ℕ) → IsMinimalOf P s → Contains sets s
  pub order : AllPairs (λ s t. shortlex s t ≡ Less) sets
