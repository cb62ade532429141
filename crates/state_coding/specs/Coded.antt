-- Serves proofs only: what private functions say of the clauses that they added.

use Rattle.std.specs.Prelude.{◌≡◌, ℕ, ◌+◌, List, ◌++◌, length}
use Rattle.cnf.specs.declared.lit.Lit.{Lit}
use Rattle.state_coding.specs.Numbers.{OffsetRow, TermCoding, widen, common_places, row_sum, row_sum_vars}
use Rattle.state_coding.specs.Numbers.{row_sum_clauses}
use Rattle.state_coding.specs.States.{var_row}
use Rattle.state_coding.specs.Atoms.{AtomCoding, each_all_clauses}

-- two rows brought to the places at which they meet
pub record AtCommonPlaces (a b wide_a wide_b : List Lit) : Type 0 where
  pub left : wide_a ≡ widen (common_places a b) a
  pub right : wide_b ≡ widen (common_places a b) b

-- two rows were added
pub record AreAdded (n m : ℕ) (older newer : List (List Lit)) (a b sum : List Lit) : Type 0 where
  pub rows : sum ≡ row_sum n a b
  pub vars : m ≡ n + row_sum_vars a b
  pub clauses : newer ≡ older ++ row_sum_clauses n a b

-- a term was coded so: clauses before and after, variables after, and the answer
pub record IsTermCoded (older : List (List Lit)) (n : ℕ) (newer : List (List Lit))
    (answer : OffsetRow) (coding : TermCoding) : Type 0 where
  pub vars : n ≡ coding.vars
  pub clauses : newer ≡ older ++ coding.clauses
  pub sum : answer ≡ coding.sum

-- an atom was coded so: clauses before and after, variables after, and the literal answered
pub record IsCoded (older : List (List Lit)) (n : ℕ) (newer : List (List Lit))
    (lit : Lit) (coding : AtomCoding) : Type 0 where
  pub vars : n ≡ coding.vars
  pub clauses : newer ≡ older ++ coding.clauses
  pub answer : lit ≡ coding.lit

-- a literal was added for each list of literals, which says that all of the list hold
pub record CommonAdded (n m : ℕ) (older newer : List (List Lit)) (answer : List Lit)
    (all : List (List Lit)) : Type 0 where
  pub vars : m ≡ n + length all
  pub lits : answer ≡ var_row n (length all)
  pub clauses : newer ≡ older ++ each_all_clauses n all
