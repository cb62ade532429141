-- Serves proofs only. The rows of `specs/Rows.antt` by the forms that the code tells apart.
use Rattle.std.specs.Prelude.{ℕ, Bool, List}
use Rattle.typed_ltl.specs.declared.rows.Unary.{Unary}
use Rattle.typed_ltl.specs.declared.rows.Unary.TheVariants as one
use Rattle.typed_ltl.specs.declared.rows.Binary.{Binary}
use Rattle.typed_ltl.specs.declared.rows.Binary.TheVariants as two
use Rattle.typed_ltl.specs.Rows.{not_row, and_row, iff_row, then_row, until_row, future_row}

-- the row of a formula with one part, from that part's row
abbrev pub unary_row : Unary → ℕ → List Bool → List Bool
unary_row one.Not l fs = not_row fs
unary_row one.Then l fs = then_row l fs
unary_row one.Future l fs = future_row l fs
unary_row one.Always l fs = not_row (future_row l (not_row fs))
unary_row one.Never l fs = not_row (future_row l fs)

-- the row of a formula with two parts, from their rows
abbrev pub binary_row : Binary → ℕ → List Bool → List Bool → List Bool
binary_row two.And l fs gs = and_row fs gs
binary_row two.Or l fs gs = not_row (and_row (not_row fs) (not_row gs))
binary_row two.Implies l fs gs = not_row (and_row fs (not_row gs))
binary_row two.Iff l fs gs = iff_row fs gs
binary_row two.Until l fs gs = until_row l fs gs
binary_row two.Releases l fs gs = not_row (until_row l (not_row fs) (not_row gs))
