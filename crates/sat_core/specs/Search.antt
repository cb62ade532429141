-- The state of a search: which literals were made true and why, and which clauses were derived.
--
-- A trail whose forced literals each have a reason, and clauses learnt from it by resolution, are
-- those of J. P. Marques-Silva and K. A. Sakallah, GRASP: a search algorithm for propositional
-- satisfiability, IEEE Transactions on Computers 48 (1999).

use Rattle.std.specs.Prelude.{◌≡◌, ◌≢◌, ◌<◌, ◌+◌, ◌⊎◌, ◌↔◌, ℕ, Bool, true, false, List, [], ◌∷◌, length, map}
use Rattle.std.specs.Prelude.{Contains, slice_index_or, Option, Some, None, zero, suc}
use Rattle.cnf.specs.declared.lit.Lit.{Lit}
use Rattle.cnf.specs.Clauses.{opposite}
use Rattle.clause_log.specs.Derivations.{SameLits, Resolves}
use Rattle.sat_core.specs.declared.clause_ref.ClauseRef.{ClauseRef}
use Rattle.sat_core.specs.declared.clause_ref.ClauseRef.TheVariants.{Added, Learnt, Assumed}
use Rattle.sat_core.specs.declared.clause_ref.Database.{Database}
use Rattle.sat_core.specs.declared.trail.Step.{Step}
use Rattle.sat_core.specs.declared.chain.Resolution.{Resolution}

-- the clauses that a search may name: those added, those learnt, and a unit clause per assumption
pub record ClauseLists : Type 0 where
  pub added : List (List Lit)
  pub learnt : List (List Lit)
  pub units : List (List Lit)

-- the unit clause of a literal
abbrev pub unit_clause : Lit → List Lit
unit_clause lit = lit ∷ []

abbrev pub clause_lists : List (List Lit) → List (List Lit) → List Lit → ClauseLists
clause_lists added learnt assumed = record { added = added; learnt = learnt; units = map unit_clause assumed }

abbrev pub lists_of : Database → ClauseLists
lists_of database = clause_lists database.added.now database.learnt.now database.assumed.now

-- the list that a reason points into, and the place in it
abbrev pub list_of : ClauseLists → ClauseRef → List (List Lit)
list_of k (Added place) = k.added
list_of k (Learnt place) = k.learnt
list_of k (Assumed place) = k.units

abbrev pub index_of : ClauseRef → ℕ
index_of (Added place) = place
index_of (Learnt place) = place
index_of (Assumed place) = place

-- a reason names a clause
abbrev pub HasClause : ClauseLists → ClauseRef → Type 0
HasClause k reason = index_of reason < length (list_of k reason)

-- the clause that a reason names
abbrev pub clause_of : ClauseLists → ClauseRef → List Lit
clause_of k reason = slice_index_or (list_of k reason) (index_of reason) []

-- the resolutions lead from the literals so far to those of the clause
abbrev pub ResolvesTo : ClauseLists → List Lit → List Resolution → List Lit → Type 0
ResolvesTo k so_far [] clause = SameLits so_far clause
ResolvesTo k so_far (resolution ∷ resolutions) clause =
    HasClause k resolution.reason
    × ((pivot : Lit) × (after : List Lit)
    × (pivot.var ≡ resolution.var)
    × Resolves so_far (clause_of k resolution.reason) pivot after
    × ResolvesTo k after resolutions clause)

-- a clause is derived: from a first clause by resolutions
pub record IsDerivation (k : ClauseLists) (first : ClauseRef) (resolutions : List Resolution)
    (clause : List Lit) : Type 0 where
  pub named : HasClause k first
  pub reached : ResolvesTo k (clause_of k first) resolutions clause

-- a step that stands at no place
abbrev pub no_step : Step
no_step = record { lit = record { var = 0; positive = false }; reason = None }

abbrev pub step_at : List Step → ℕ → Step
step_at steps place = slice_index_or steps place no_step

abbrev pub lit_at : List Step → ℕ → Lit
lit_at steps place = (step_at steps place).lit

-- a step opens a level where no clause that was added or learnt forces it
abbrev pub opens_level : Option ClauseRef → Bool
opens_level None = true
opens_level (Some (Added place)) = false
opens_level (Some (Learnt place)) = false
opens_level (Some (Assumed place)) = true

-- a literal was made true before the place
abbrev pub MadeTrue : List Step → ℕ → Lit → Type 0
MadeTrue steps place lit = (p : ℕ) × (p < place) × (lit_at steps p ≡ lit)

-- each literal of the clause was made false before the place
abbrev pub AllFalse : List Step → ℕ → List Lit → Type 0
AllFalse steps place clause = (lit : Lit) → Contains clause lit → MadeTrue steps place (opposite lit)

-- the clause has the literal, and each other of its literals was made false before the place
pub record Forces (steps : List Step) (place : ℕ) (clause : List Lit) (lit : Lit) : Type 0 where
  pub has : Contains clause lit
  pub others : (other : Lit) → Contains clause other → (other ≡ lit) ⊎ MadeTrue steps place (opposite other)

-- each assumption was made true before the place
abbrev pub AssumptionsTrue : ClauseLists → List Step → ℕ → Type 0
AssumptionsTrue k steps place =
    (n : ℕ) → n < length k.units → (lit : Lit) → slice_index_or k.units n [] ≡ unit_clause lit
    → MadeTrue steps place lit

-- why the literal at a place is true: a clause forces it, or it was decided where each assumption was
-- true
abbrev pub Justifies : ClauseLists → List Step → ℕ → Lit → Option ClauseRef → Type 0
Justifies k steps place lit None = AssumptionsTrue k steps place
Justifies k steps place lit (Some reason) = HasClause k reason × Forces steps place (clause_of k reason) lit

abbrev pub Justified : ClauseLists → List Step → Type 0
Justified k steps =
    (place : ℕ) → place < length steps → Justifies k steps place (lit_at steps place) (step_at steps place).reason

-- how many variables have no place
abbrev pub unassigned_count : List (Option ℕ) → ℕ
unassigned_count [] = 0
unassigned_count (None ∷ places) = suc (unassigned_count places)
unassigned_count (Some place ∷ places) = unassigned_count places

-- the places are those of the variables of the steps: no variable stands at two steps
pub record IsTrail (steps : List Step) (places : List (Option ℕ)) : Type 0 where
  pub stands : (var place : ℕ) → slice_index_or places var None ≡ Some place
      → (place < length steps) × ((lit_at steps place).var ≡ var)
  pub placed : (place : ℕ) → place < length steps → slice_index_or places ((lit_at steps place).var) None ≡ Some place
  pub counted : length steps + unassigned_count places ≡ length places

-- the value of a variable by its place: the sign of the literal that stands there
abbrev pub value_of : List Step → Option ℕ → Option Bool
value_of steps None = None
value_of steps (Some place) = Some (lit_at steps place).positive

-- a variable has no value
abbrev pub IsUnassigned : List Step → ℕ → Type 0
IsUnassigned steps var = (p : ℕ) → p < length steps → (lit_at steps p).var ≡ var → ⊥

-- what the value of a literal says: it was made true, its opposite was, or neither
abbrev pub ValueIs : List Step → List (Option ℕ) → Lit → Option Bool → Type 0
ValueIs steps places lit None = slice_index_or places (lit.var) None ≡ None
ValueIs steps places lit (Some true) = MadeTrue steps (length steps) lit
ValueIs steps places lit (Some false) = MadeTrue steps (length steps) (opposite lit)

-- more than all that the open places of a trail over n variables can weigh
abbrev pub full_weight : ℕ → ℕ
full_weight zero = 1
full_weight (suc n) = suc (full_weight n + full_weight n)

-- the weight of a trail over n variables, by which of its steps open a level: it falls with each push,
-- and with each return to a step that opened a level, where a forced step then stands
abbrev pub weight : ℕ → List Bool → ℕ
weight zero [] = 1
weight (suc n) [] = suc (full_weight n + full_weight n)
weight zero (opens ∷ steps) = 0
weight (suc n) (true ∷ steps) = full_weight n + weight n steps
weight (suc n) (false ∷ steps) = weight n steps

-- which steps of a trail open a level
abbrev pub level_marks : List Step → List Bool
level_marks steps = map (λ step. opens_level step.reason) steps

-- the weight of a trail by its places
abbrev pub trail_weight : List Step → List (Option ℕ) → ℕ
trail_weight steps places = weight (length places) (level_marks steps)

-- every literal of every clause of the list is of one of the first n variables
abbrev pub AllWithin : ℕ → List (List Lit) → Type 0
AllWithin n clauses = (place : ℕ) → place < length clauses → (lit : Lit)
    → Contains (slice_index_or clauses place []) lit → lit.var < n

-- the literals are those of the first list without one
abbrev pub IsWithout : List Lit → Lit → List Lit → Type 0
IsWithout lits lit rest = (m : Lit) → Contains rest m ↔ (Contains lits m × (m ≢ lit))
