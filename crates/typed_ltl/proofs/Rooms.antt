use Rattle.std.proofs.Common.{ℕ, ◌+◌, ◌≤◌, max, arith}
use Rattle.typed_ltl.specs.Formulas as form
use Rattle.typed_ltl.specs.Formulas.{Ltl}
use Rattle.typed_ltl.specs.Cells.{cell_count}

one_grows : (n m a b : ℕ) → n ≤ m → a ≤ b → n + a ≤ m + b
one_grows n m a b le h = omega arith

two_grow : (n m a b c d : ℕ) → n ≤ m → a ≤ b → c ≤ d → n + max a c ≤ m + max b d
two_grow n m a b c d le h k = omega arith

-- more positions take no less room
pub cell_count_grows : (f : Ltl) (n m : ℕ) → n ≤ m → cell_count n f ≤ cell_count m f
cell_count_grows form.True n m le = le
cell_count_grows form.False n m le = le
cell_count_grows (form.Atomic a) n m le = le
cell_count_grows (form.Not f) n m le = one_grows n m (cell_count n f) (cell_count m f) le (cell_count_grows f n m le)
cell_count_grows (form.And f g) n m le = two_grow n m (cell_count n f) (cell_count m f) (cell_count n g) (cell_count m g) le
    (cell_count_grows f n m le) (cell_count_grows g n m le)
cell_count_grows (form.Or f g) n m le = two_grow n m (cell_count n f) (cell_count m f) (cell_count n g) (cell_count m g) le
    (cell_count_grows f n m le) (cell_count_grows g n m le)
cell_count_grows (form.Implies f g) n m le = two_grow n m (cell_count n f) (cell_count m f) (cell_count n g) (cell_count m g) le
    (cell_count_grows f n m le) (cell_count_grows g n m le)
cell_count_grows (form.Iff f g) n m le = two_grow n m (cell_count n f) (cell_count m f) (cell_count n g) (cell_count m g) le
    (cell_count_grows f n m le) (cell_count_grows g n m le)
cell_count_grows (form.Then f) n m le = one_grows n m (cell_count n f) (cell_count m f) le (cell_count_grows f n m le)
cell_count_grows (form.Until f g) n m le = two_grow n m (cell_count n f) (cell_count m f) (cell_count n g) (cell_count m g) le
    (cell_count_grows f n m le) (cell_count_grows g n m le)
cell_count_grows (form.Releases f g) n m le = two_grow n m (cell_count n f) (cell_count m f) (cell_count n g) (cell_count m g) le
    (cell_count_grows f n m le) (cell_count_grows g n m le)
cell_count_grows (form.Future f) n m le = one_grows n m (cell_count n f) (cell_count m f) le (cell_count_grows f n m le)
cell_count_grows (form.Always f) n m le = one_grows n m (cell_count n f) (cell_count m f) le (cell_count_grows f n m le)
cell_count_grows (form.Never f) n m le = one_grows n m (cell_count n f) (cell_count m f) le (cell_count_grows f n m le)

-- a formula takes a row at least
pub cell_count_covers : (f : Ltl) (n : ℕ) → n ≤ cell_count n f
cell_count_covers form.True n = omega arith
cell_count_covers form.False n = omega arith
cell_count_covers (form.Atomic a) n = omega arith
cell_count_covers (form.Not f) n = omega arith
cell_count_covers (form.And f g) n = omega arith
cell_count_covers (form.Or f g) n = omega arith
cell_count_covers (form.Implies f g) n = omega arith
cell_count_covers (form.Iff f g) n = omega arith
cell_count_covers (form.Then f) n = omega arith
cell_count_covers (form.Until f g) n = omega arith
cell_count_covers (form.Releases f g) n = omega arith
cell_count_covers (form.Future f) n = omega arith
cell_count_covers (form.Always f) n = omega arith
cell_count_covers (form.Never f) n = omega arith
