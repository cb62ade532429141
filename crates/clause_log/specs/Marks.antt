-- A set of literals as two marks for each variable. This file serves proofs only: no public contract cites it.

use Rattle.std.specs.Prelude.{◌≡◌, ◌≢◌, ℕ, ◌+◌, Contains, Bool, true, false, List, slice_index_or, if◌then◌else◌}
use Rattle.cnf.specs.declared.lit.Lit.{Lit}
use Rattle.clause_log.specs.declared.lit_set.Signs.{Signs}

-- the mark of a sign
abbrev pub sign_mark : Signs → Bool → Bool
sign_mark signs true = signs.positive
sign_mark signs false = signs.negative

-- the marks with that of one sign changed
abbrev pub with_mark : Signs → Bool → Bool → Signs
with_mark signs true mark = record { positive = mark; negative = signs.negative }
with_mark signs false mark = record { positive = signs.positive; negative = mark }

abbrev pub no_marks : Signs
no_marks = record { positive = false; negative = false }

-- whether a literal is in the set
abbrev pub mark_of : List Signs → Lit → Bool
mark_of marks lit = sign_mark (slice_index_or marks lit.var no_marks) lit.positive

-- 1 for true and 0 for false
abbrev pub mark_count : Bool → ℕ
mark_count b = if b then 1 else 0

-- how many of the two marks are set
abbrev pub signs_count : Signs → ℕ
signs_count signs = mark_count signs.positive + mark_count signs.negative

-- one literal got a mark, and all others have theirs
pub record SetsMark (old : List Signs) (lit : Lit) (mark : Bool) (new : List Signs) : Type 0 where
  pub here : mark_of new lit ≡ mark
  pub others : (other : Lit) → other ≢ lit → mark_of new other ≡ mark_of old other

-- all of the literals got a mark, and all others have theirs
pub record SetsMarks (old : List Signs) (lits : List Lit) (mark : Bool) (new : List Signs) : Type 0 where
  pub here : (lit : Lit) → Contains lits lit → mark_of new lit ≡ mark
  pub others : (lit : Lit) → (Contains lits lit → ⊥) → mark_of new lit ≡ mark_of old lit
