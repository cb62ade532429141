-- The members of a set of literals that marks tell, as a list. This file serves proofs only.

use Rattle.std.specs.Prelude.{ℕ, zero, suc, true, false, List, [], ◌∷◌, ◌++◌, length, if◌then◌else◌}
use Rattle.cnf.specs.declared.lit.Lit.{Lit}
use Rattle.clause_log.specs.declared.lit_set.Signs.{Signs}
use Rattle.clause_log.specs.Marks.{mark_of}

abbrev pub if_marked : List Signs → Lit → List Lit
if_marked marks lit = if mark_of marks lit then lit ∷ [] else []

-- the literals in the set of the variables below a number
abbrev pub members_below : List Signs → ℕ → List Lit
members_below marks zero = []
members_below marks (suc var) =
    if_marked marks (record { var = var; positive = true })
    ++ if_marked marks (record { var = var; positive = false })
    ++ members_below marks var

-- the literals in the set
abbrev pub marked_lits : List Signs → List Lit
marked_lits marks = members_below marks (length marks)
