-- The set of literals that an analysis has met, and which of them it still has. This file serves proofs only.

use Rattle.std.specs.Prelude.{◌≡◌, ◌⊎◌, ◌↔◌, ltb, filter, ℕ, Bool, false, List, length, map, Contains, Option, Some, None}
use Rattle.std.specs.Prelude.{slice_index_or}
use Rattle.cnf.specs.declared.lit.Lit.{Lit}
use Rattle.cnf.specs.Clauses.{opposite}
use Rattle.sat_core.specs.declared.trail.Step.{Step}
use Rattle.sat_core.specs.Search.{MadeTrue, IsTrail}

-- a literal is in the set
abbrev pub Met : List Step → Lit → Type 0
Met set lit = MadeTrue set (length set) lit

-- the literals in the set
abbrev pub met_lits : List Step → List Lit
met_lits set = map (λ step. step.lit) set

-- a place of the trail comes before another
abbrev pub is_before : Option ℕ → ℕ → Bool
is_before None at = false
is_before (Some place) at = ltb place at

-- a literal's variable has its place before this one
abbrev pub stands_before : List (Option ℕ) → ℕ → Lit → Bool
stands_before places at lit = is_before (slice_index_or places lit.var None) at

-- the literals that were met and became false before a place of the trail
abbrev pub reached : List (Option ℕ) → ℕ → List Step → List Lit
reached places at set = filter (stands_before places at) (met_lits set)

-- a set of literals that are all false, no two of one variable
pub record IsMetSet (steps : List Step) (places : List (Option ℕ)) (set : List Step) (set_places : List (Option ℕ))
    : Type 0 where
  pub trail : IsTrail set set_places
  pub vars : length set_places ≡ length places
  pub false_ : (lit : Lit) → Met set lit → MadeTrue steps (length steps) (opposite lit)

-- the literal is false, or its opposite is in the set
abbrev pub CanMeet : List Step → List Step → Lit → Type 0
CanMeet steps set lit = Met set (opposite lit) ⊎ MadeTrue steps (length steps) (opposite lit)

-- the set has grown by those literals of the clause that are false
abbrev pub HasMet : List Step → List Step → List Lit → List Step → Type 0
HasMet steps old clause new =
    (lit : Lit) → Met new lit ↔ (Met old lit ⊎ (Contains clause lit × MadeTrue steps (length steps) (opposite lit)))
