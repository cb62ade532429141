-- Why a search ends: each push and each return lowers a weight of the trail.
use Rattle.std.proofs.Common.{◌≡◌, ◌<◌, ◌≤◌, ℕ, zero, suc, Bool, true, false, List, [], ◌∷◌, ◌++◌, length, take, get_or, refl, arith}
use Rattle.sat_core.specs.Search.{full_weight, weight}

pub weight-pos : (n : ℕ) (bs : List Bool) → length bs ≤ n → 0 < weight n bs
weight-pos zero [] h = omega arith
weight-pos (suc n) [] h = omega arith
weight-pos zero (b ∷ bs) h = absurd (omega arith)
weight-pos (suc n) (true ∷ bs) h = omega (arith, weight-pos n bs (omega arith))
weight-pos (suc n) (false ∷ bs) h = weight-pos n bs (omega arith)

pub weight-nil : (n : ℕ) → weight n [] ≡ full_weight n
weight-nil zero = refl
weight-nil (suc n) = refl

pub weight-push : (n : ℕ) (bs : List Bool) (b : Bool) → length bs < n → weight n (bs ++ b ∷ []) < weight n bs
weight-push zero bs b h = absurd (omega arith)
weight-push (suc n) [] true h = omega (arith, weight-nil n)
weight-push (suc n) [] false h = omega (arith, weight-nil n)
weight-push (suc n) (true ∷ bs) b h = omega (arith, weight-push n bs b (omega arith))
weight-push (suc n) (false ∷ bs) b h = weight-push n bs b (omega arith)

pub weight-return : (n : ℕ) (bs : List Bool) (keep : ℕ) → length bs ≤ n → keep < length bs
    → get_or bs keep false ≡ true → weight n (take keep bs ++ false ∷ []) < weight n bs
weight-return zero [] keep h k t = absurd (omega arith)
weight-return (suc n) [] keep h k t = absurd (omega arith)
weight-return zero (b ∷ bs) keep h k t = absurd (omega arith)
weight-return (suc n) (true ∷ bs) zero h k t = omega (arith, weight-nil n, weight-pos n bs (omega arith))
weight-return (suc n) (false ∷ bs) zero h k t = absurd (cc)
weight-return (suc n) (true ∷ bs) (suc keep) h k t = omega (arith, weight-return n bs keep (omega arith) (omega arith) t)
weight-return (suc n) (false ∷ bs) (suc keep) h k t = weight-return n bs keep (omega arith) (omega arith) t
