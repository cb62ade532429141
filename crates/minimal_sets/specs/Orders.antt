-- The order of lists of numbers in which shorter ones stand first, and those of one length stand as in a dictionary:
-- the shortlex order, as in M. Sipser, Introduction to the theory of computation, chapter 0 (2013).
use Rattle.std.specs.Prelude.{◌≡◌, ℕ, List, length, AllPairs}
use Rattle.std.specs.declared.cmp.Ordering.{Ordering}
use Rattle.std.specs.declared.cmp.Ordering.TheVariants.{Less}
use Rattle.std.specs.Ordering.{nat_cmp, ordering_then}
use Rattle.std.specs.Cmp.Lexicographic.{slice_cmp}
use Rattle.port_types.specs.Sets.{places}
use Rattle.port_types.specs.declared.sets.Set24.{Set24}

abbrev pub shortlex : List ℕ → List ℕ → Ordering
shortlex xs ys = ordering_then (nat_cmp (length xs) (length ys)) (slice_cmp nat_cmp xs ys)

-- Sets by the lists of their members: each stands before all that follow it.
abbrev pub AreInShortlexOrder : List Set24 → Type 0
AreInShortlexOrder = AllPairs (λ s t. shortlex (places s) (places t) ≡ Less)
