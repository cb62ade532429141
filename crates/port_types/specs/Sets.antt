-- Sets of small numbers as strings of bits, as in D. E. Knuth, The art of computer programming, volume 4A,
-- section 7.1.3 (2011): place p is a member exactly where bit p is 1.
use Rattle.std.specs.Prelude.{◌≡◌, ℕ, ◌==◌, Bool, List, filter}
use Rattle.std.specs.Int.{bit_at}
use Rattle.std.specs.List.{range_with_len}
use Rattle.port_types.specs.Limits.{most_parts}
use Rattle.port_types.specs.declared.sets.Set24.{Set24}

-- whether a place is a member
abbrev pub has_place : Set24 → ℕ → Bool
has_place set place = bit_at set.bits place == 1

-- a place is a member
abbrev pub HasPlace : Set24 → ℕ → Type 0
HasPlace set place = bit_at set.bits place ≡ 1

-- the members, rising
abbrev pub places : Set24 → List ℕ
places set = filter (has_place set) (range_with_len 0 most_parts)

-- each member of the first set is one of the second
abbrev pub IsSubset : Set24 → Set24 → Type 0
IsSubset inner outer = (place : ℕ) → HasPlace inner place → HasPlace outer place
