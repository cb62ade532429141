-- Numbers for the clauses that derivations name, as a log numbers them: the clauses of the list first,
-- those added and then the units, and then the chains.
use Rattle.std.specs.Prelude.{◌≡◌, ◌<◌, ◌≤◌, ◌+◌, ◌^◌, ◌++◌, ℕ, Bool, true, List, [], length, map, slice_index_or}
use Rattle.std.specs.Prelude.{slice_set}
use Rattle.cnf.specs.declared.lit.Lit.{Lit}
use Rattle.clause_log.specs.declared.chain.Chain.{Chain}
use Rattle.clause_log.specs.declared.chain.Pivot.{Pivot}
use Rattle.clause_log.specs.Derivations.{clauses_before, EachFollows}
use Rattle.sat_core.specs.declared.clause_ref.ClauseRef.{ClauseRef}
use Rattle.sat_core.specs.declared.clause_ref.ClauseRef.TheVariants.{Added, Learnt, Assumed}
use Rattle.sat_core.specs.declared.chain.Resolution.{Resolution}
use Rattle.sat_core.specs.declared.chain.Derivation.{Derivation}
use Rattle.sat_core.specs.Search.{unit_clause}

-- the number of the clause that a reason names, by the numbers of the clauses learnt
abbrev pub log_number : ℕ → List ℕ → ClauseRef → ℕ
log_number added numbers (Added place) = place
log_number added numbers (Assumed place) = added + place
log_number added numbers (Learnt place) = slice_index_or numbers place 0

abbrev pub log_pivot : ℕ → List ℕ → Resolution → Pivot
log_pivot added numbers resolution = record {
  var = resolution.var;
  clause = log_number added numbers
      resolution.reason;
}

-- the number of the clause that a reason names is known, and fits the machine's numbers
abbrev pub HasNumber : ℕ → List ℕ → ClauseRef → Type 0
HasNumber added numbers (Added place) = Unit {0}
HasNumber added numbers (Assumed place) = added + place < 2 ^ 64
HasNumber added numbers (Learnt place) = place < length numbers

pub record AllHaveNumbers (added : ℕ) (numbers : List ℕ) (first : ClauseRef)
    (resolutions : List Resolution) : Type 0 where
  pub of_first : HasNumber added numbers first
  pub of_rest : (place : ℕ) (none : Resolution) → place < length resolutions
      → HasNumber added numbers (slice_index_or resolutions place none).reason

-- a reason names no learnt clause that isn't needed
abbrev pub IsNeeded : List Bool → ClauseRef → Type 0
IsNeeded needed (Learnt place) = slice_index_or needed place true ≡ true
IsNeeded needed (Added place) = Unit {0}
IsNeeded needed (Assumed place) = Unit {0}

-- all that a derivation names is needed
pub record AllNeeded (needed : List Bool) (first : ClauseRef) (resolutions : List Resolution) : Type 0 where
  pub of_first : IsNeeded needed first
  pub of_rest : (place : ℕ) (none : Resolution) → place < length resolutions
      → IsNeeded needed (slice_index_or resolutions place none).reason

-- the list of clauses that a log is over
abbrev pub clauses_with_units : List (List Lit) → List Lit → List (List Lit)
clauses_with_units added assumed = added ++ map unit_clause assumed

-- the chains of a log follow, and the first `count` learnt clauses that are needed have their numbers
pub record IsNumbered (added learnt : List (List Lit)) (assumed : List Lit) (needed : List Bool) (count : ℕ)
    (numbers : List ℕ) (log : List Chain) : Type 0 where
  pub counted : length numbers ≡ count
  pub follows : EachFollows (clauses_with_units added assumed) log
  pub numbered :
      (place : ℕ) → place < count → slice_index_or needed place true ≡ true
      → (slice_index_or numbers place 0 < length (clauses_with_units added assumed) + length log)
      × (slice_index_or (clauses_before (clauses_with_units added assumed) log (length log))
      (slice_index_or numbers place 0) [] ≡ slice_index_or learnt place [])

-- a reason names no learnt clause from the place on
abbrev pub IsBelow : ℕ → ClauseRef → Type 0
IsBelow n (Learnt place) = place < n
IsBelow n (Added place) = Unit {0}
IsBelow n (Assumed place) = Unit {0}

pub record AllBelow (n : ℕ) (first : ClauseRef) (resolutions : List Resolution) : Type 0 where
  pub of_first : IsBelow n first
  pub of_rest : (place : ℕ) (none : Resolution) → place < length resolutions
      → IsBelow n (slice_index_or resolutions place none).reason

-- the marks of what is needed, with a reason more
abbrev pub marks_with : List Bool → ClauseRef → List Bool
marks_with needed (Learnt place) = slice_set needed place true
marks_with needed (Added place) = needed
marks_with needed (Assumed place) = needed

-- all that a derivation names is marked, what was marked stays so, and nothing else that is past all of it
-- is marked
pub record MarksMore (old new : List Bool) (first : ClauseRef) (resolutions : List Resolution) : Type 0 where
  pub more : (place : ℕ) → slice_index_or old place true ≡ true → slice_index_or new place true ≡ true
  pub all : AllNeeded new first resolutions
  pub kept : (n place : ℕ) → AllBelow n first resolutions → n ≤ place
      → slice_index_or new place true ≡ slice_index_or old place true

-- each derivation that is needed names only what is needed
abbrev pub AreNeeded : List Bool → List Derivation → Type 0
AreNeeded needed derivations =
    (place : ℕ) (none : Derivation) → place < length derivations → slice_index_or needed place true ≡ true
    → AllNeeded needed (slice_index_or derivations place none).first (slice_index_or derivations place none).rest.items

-- each derivation names only clauses learnt before
abbrev pub AreBelow : List Derivation → Type 0
AreBelow derivations =
    (place : ℕ) (none : Derivation) → place < length derivations
    → AllBelow place (slice_index_or derivations place none).first (slice_index_or derivations place none).rest.items
