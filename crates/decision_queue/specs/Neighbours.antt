-- Serves proofs only: how the neighbours of the variables make up an order.

use Rattle.std.specs.Prelude.{◌≡◌, ◌<◌, ◌↔◌, ℕ, List, length, reverse, Option, None, Some, Contains}
use Rattle.std.specs.Prelude.{slice_index_or, slice_set}
use Rattle.decision_queue.specs.declared.neighbours.Neighbours.{Neighbours}
use Rattle.clause_links.specs.Records.{GoesThrough, walk}

-- the neighbours of no variable
abbrev pub no_neighbours : Neighbours
no_neighbours = record { before = None; after = None }

abbrev pub neighbours_at : List Neighbours → ℕ → Neighbours
neighbours_at links var = slice_index_or links var no_neighbours

abbrev pub after_at : List Neighbours → ℕ → Option ℕ
after_at links var = (neighbours_at links var).after

abbrev pub before_at : List Neighbours → ℕ → Option ℕ
before_at links var = (neighbours_at links var).before

-- the neighbours with another one of a variable
abbrev pub with_after : List Neighbours → ℕ → Option ℕ → List Neighbours
with_after links var after = slice_set links var (record { before = before_at links var; after = after })

abbrev pub with_before : List Neighbours → ℕ → Option ℕ → List Neighbours
with_before links var before = slice_set links var (record { before = before; after = after_at links var })

-- the links lead from one variable to another, or to the end, and back
abbrev pub joined_pair : List Neighbours → ℕ → Option ℕ → List Neighbours
joined_pair links before None = with_after links before None
joined_pair links before (Some after) = with_before (with_after links before (Some after)) after (Some before)

-- a variable stands before the first one
abbrev pub with_first : List Neighbours → ℕ → ℕ → List Neighbours
with_first links var first =
    slice_set (with_before links first (Some var)) var (record { before = None; after = Some first })

-- the last variable, where what stood behind `before` was taken out
abbrev pub last_without : Option ℕ → ℕ → Option ℕ → Option ℕ
last_without last before None = Some before
last_without last before (Some after) = last

-- a variable stands behind the last one, or is the first
abbrev pub with_last : List Neighbours → Option ℕ → ℕ → List Neighbours
with_last links None var = links
with_last links (Some last) var = with_after links last (Some var)

abbrev pub first_with : Option ℕ → ℕ → Option ℕ
first_with None var = Some var
first_with (Some first) var = Some first

-- the order from the first variable on
abbrev pub order_of : List Neighbours → Option ℕ → List ℕ
order_of links first = walk (after_at links) (length links) first

-- the links go through a list from both ends, and the list has each variable, once
pub record IsLinkedOrder (links : List Neighbours) (first last : Option ℕ) (xs : List ℕ) : Type 0 where
  pub onward : GoesThrough (after_at links) first xs
  pub backward : GoesThrough (before_at links) last (reverse xs)
  pub members : (var : ℕ) → Contains xs var ↔ (var < length links)
  pub counted : length xs ≡ length links
