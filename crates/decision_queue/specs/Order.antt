-- An order of variables.

use Rattle.std.specs.Prelude.{◌<◌, ◌↔◌, ℕ, List, length, nat_eq, Contains}
use Rattle.std.specs.List.{IsDistinct}

-- a permutation of the variables: each number below their number stands in the list, once, and nothing else does
pub record IsOrder (order : List ℕ) : Type 0 where
  pub members : (var : ℕ) → Contains order var ↔ (var < length order)
  pub once : IsDistinct nat_eq order
