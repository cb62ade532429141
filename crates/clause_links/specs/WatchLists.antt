-- Clauses that watch two of their literals, and for each literal the list of the clauses that watch it.
--
-- Two watched literals are those of M. W. Moskewicz, C. F. Madigan, Y. Zhao, L. Zhang and S. Malik, Chaff: engineering
-- an efficient SAT solver, Design Automation Conference (2001).

use Rattle.std.specs.Prelude.{◌≡◌, ◌≢◌, ◌<◌, ◌-◌, ◌++◌, ◌⊎◌, ◌↔◌, ℕ, List, [], ◌∷◌, length, nat_eq, Option, Some}
use Rattle.std.specs.Prelude.{All, Contains, slice_get, slice_index_or, if◌then◌else◌}
use Rattle.std.specs.List.{IsDistinct}
use Rattle.cnf.specs.declared.lit.Lit.{Lit}

-- clauses over `vars` variables, by number; the two literals that each clause watches, by the clause's number; and
-- the clauses that watch the positive and the negative literal of each variable, by the variable's number
pub record WatchLists : Type 0 where
  pub vars : ℕ
  pub clauses : List (List Lit)
  pub pairs : List (Lit × Lit)
  pub positive : List (List ℕ)
  pub negative : List (List ℕ)

-- the literals of a clause
abbrev pub clause_lits : WatchLists → ℕ → List Lit
clause_lits lists clause = slice_index_or lists.clauses clause []

-- a clause watches two literals, in either order
abbrev pub WatchesBoth : WatchLists → ℕ → Lit → Lit → Type 0
WatchesBoth lists clause a b =
    (slice_get lists.pairs clause ≡ Some (a, b)) ⊎ (slice_get lists.pairs clause ≡ Some (b, a))

-- a clause watches a literal
abbrev pub Watches : WatchLists → ℕ → Lit → Type 0
Watches lists clause lit = (other : Lit) × WatchesBoth lists clause lit other

-- the list of a literal
abbrev pub watchers : WatchLists → Lit → List ℕ
watchers lists lit = slice_index_or (if lit.positive then lists.positive else lists.negative) lit.var []

-- each literal's list holds exactly the clauses that watch the literal, each once; and each clause watches two
-- different literals, both its own
pub record AreExact (lists : WatchLists) : Type 0 where
  pub members : (lit : Lit) (clause : ℕ) → Contains (watchers lists lit) clause ↔ Watches lists clause lit
  pub once : (lit : Lit) → IsDistinct nat_eq (watchers lists lit)
  pub paired : length lists.pairs ≡ length lists.clauses
  pub own : (clause : ℕ) (a b : Lit) → WatchesBoth lists clause a b → (a ≢ b) × Contains (clause_lits lists clause) a
  pub known : All (All (λ lit. lit.var < lists.vars)) lists.clauses

-- the last member of a list, if it has one
abbrev pub last_member : List ℕ → Option ℕ
last_member xs = slice_get xs (length xs - 1)

-- the number before a member, where it stands in the list, is `before`; none where it stands first
abbrev pub Precedes : List ℕ → Option ℕ → ℕ → Type 0
Precedes xs before member =
    (front : List ℕ) × (back : List ℕ) × (xs ≡ front ++ member ∷ back) × (before ≡ last_member front)

-- a clause now watches `to` in place of `from`, and beside the same other literal; all other pairs stay
pub record IsRewatched (old new : WatchLists) (clause : ℕ) (from to : Lit) : Type 0 where
  pub other : (lit : Lit) → WatchesBoth old clause from lit → WatchesBoth new clause to lit
  pub others : (c : ℕ) → c ≢ clause → slice_get new.pairs c ≡ slice_get old.pairs c

-- a new clause stands at the head of the lists of the two literals that it watches; all other lists stay, and so do the
-- older pairs
pub record IsWatchedFirst (old new : WatchLists) (clause : ℕ) (a b : Lit) : Type 0 where
  pub pairs : new.pairs ≡ old.pairs ++ (a, b) ∷ []
  pub first : watchers new a ≡ clause ∷ watchers old a
  pub second : watchers new b ≡ clause ∷ watchers old b
  pub others : (lit : Lit) → lit ≢ a → lit ≢ b → watchers new lit ≡ watchers old lit
