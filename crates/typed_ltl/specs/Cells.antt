-- The room that `holds_on` takes: a bench with so many cells serves the formula on lassos of n states.
use Rattle.std.specs.Prelude.{ℕ, ◌+◌, max}
use Rattle.typed_ltl.specs.Formulas.{Ltl}
use Rattle.typed_ltl.specs.Formulas as form

-- one cell a state for the formula itself, and beside them what its parts take, one part after the other
abbrev pub cell_count : ℕ → Ltl → ℕ
cell_count n form.True = n
cell_count n form.False = n
cell_count n (form.Atomic a) = n
cell_count n (form.Not f) = n + cell_count n f
cell_count n (form.And f g) = n + max (cell_count n f) (cell_count n g)
cell_count n (form.Or f g) = n + max (cell_count n f) (cell_count n g)
cell_count n (form.Implies f g) = n + max (cell_count n f) (cell_count n g)
cell_count n (form.Iff f g) = n + max (cell_count n f) (cell_count n g)
cell_count n (form.Then f) = n + cell_count n f
cell_count n (form.Until f g) = n + max (cell_count n f) (cell_count n g)
cell_count n (form.Releases f g) = n + max (cell_count n f) (cell_count n g)
cell_count n (form.Future f) = n + cell_count n f
cell_count n (form.Always f) = n + cell_count n f
cell_count n (form.Never f) = n + cell_count n f
