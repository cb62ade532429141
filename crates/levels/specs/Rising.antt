-- Serves proofs only: a test of rising numbers, each at least n.
use Rattle.std.specs.Prelude.{ℕ, ◌+◌, Bool, true, ◌&&◌, nat_lt, List, [], ◌∷◌}

abbrev pub is_rising : ℕ → List ℕ → Bool
is_rising n [] = true
is_rising n (d ∷ ds) = nat_lt n (d + 1) && is_rising (d + 1) ds
