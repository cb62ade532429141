-- What an answer of the solver says.
use Rattle.std.specs.Prelude.{◌≡◌, ◌<◌, ◌+◌, ℕ, Bool, List, [], ◌∷◌, length, Contains, slice_index_or}
use Rattle.cnf.specs.declared.lit.Lit.{Lit}
use Rattle.cnf.specs.Clauses.{opposite}
use Rattle.clause_log.specs.declared.chain.Chain.{Chain}
use Rattle.sat_core.specs.declared.outcome.Outcome.{Outcome}
use Rattle.sat_core.specs.declared.outcome.Outcome.TheVariants.{Sat, Unsat}

-- the fact of the model, where there is one
abbrev pub IfSat : Outcome → (List Bool → Type 0) → Type 0
IfSat (Sat model) P = P model
IfSat (Unsat log) P = Unit {0}

-- the fact of the log, where there is one
abbrev pub IfUnsat : Outcome → (List Chain → Type 0) → Type 0
IfUnsat (Sat model) P = Unit {0}
IfUnsat (Unsat log) P = P log

-- the answer is a log, and has the fact
abbrev pub IsUnsat : Outcome → (List Chain → Type 0) → Type 0
IsUnsat (Sat model) P = ⊥
IsUnsat (Unsat log) P = P log

-- two literals of the list are opposite
abbrev pub HasOpposites : List Lit → Type 0
HasOpposites lits = (lit : Lit) × Contains lits lit × Contains lits (opposite lit)

-- the literal stands at the place
abbrev pub StandsAt : List Lit → ℕ → Lit → Type 0
StandsAt lits place lit = (place < length lits) × (slice_index_or lits place lit ≡ lit)

-- the literals at two places are opposite
abbrev pub AreOpposite : List Lit → ℕ → ℕ → Type 0
AreOpposite lits place other = (lit : Lit) × StandsAt lits place lit × StandsAt lits other (opposite lit)

-- the chain that resolves, on a variable, one clause with another to the empty clause
abbrev pub clash : ℕ → ℕ → ℕ → Chain
clash var first second = record { clause = []; first = first; rest = record { var = var; clause = second } ∷ [] }

-- the log resolves the unit clauses of two opposite assumptions, which stand behind so many clauses, and
-- does nothing else
abbrev pub IsOfUnits : ℕ → List Lit → List Chain → Type 0
IsOfUnits added assumed log =
    (lit : Lit) × (place : ℕ) × (other : ℕ) × StandsAt assumed place lit × StandsAt assumed other (opposite lit)
    × (log ≡ clash lit.var (added + place) (added + other) ∷ [])
