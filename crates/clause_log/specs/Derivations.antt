-- Derivations of the empty clause by chains of resolutions.
--
-- Resolution is the rule of J. A. Robinson, A machine-oriented logic based on the resolution
-- principle, Journal of the ACM 12 (1965), on clauses as sets of literals. A chain is a row of such
-- steps, as in the resolution proofs of L. Zhang and S. Malik, Validating SAT solvers using an
-- independent resolution-based checker, DATE 2003.

use Rattle.std.specs.Prelude.{◌≡◌, ◌≢◌, ◌<◌, ◌↔◌, ◌⊎◌, ℕ, List, [], ◌∷◌, ◌++◌, length, map, take, Contains}
use Rattle.std.specs.Prelude.{slice_get, slice_index_or, Some}
use Rattle.cnf.specs.declared.lit.Lit.{Lit}
use Rattle.cnf.specs.Clauses.{opposite, HasNoModel}
use Rattle.clause_log.specs.declared.chain.Pivot.{Pivot}
use Rattle.clause_log.specs.declared.chain.Chain.{Chain}

-- the same literals, in whatever order and however often each stands
abbrev pub SameLits : List Lit → List Lit → Type 0
SameLits xs ys = (lit : Lit) → Contains xs lit ↔ Contains ys lit

-- one resolution: `pivot` is taken from the left, its opposite from the right, and the other literals
-- of both sides make the resolvent
pub record Resolves (left right : List Lit) (pivot : Lit) (after : List Lit) : Type 0 where
  pub on_left : Contains left pivot
  pub on_right : Contains right (opposite pivot)
  pub resolvent :
      (lit : Lit)
      → Contains after lit
      ↔ ((Contains left lit × (lit ≢ pivot)) ⊎ (Contains right lit × (lit ≢ opposite pivot)))

-- the steps lead from the literals so far to those of the clause. Each step names one of the clauses
-- before, and resolves with it on a literal of its variable, of either sign.
abbrev pub Leads : List (List Lit) → List Lit → List Pivot → List Lit → Type 0
Leads before so_far [] clause = SameLits so_far clause
Leads before so_far (step ∷ steps) clause =
    (step.clause < length before)
    × ((pivot : Lit) × (after : List Lit)
    × (pivot.var ≡ step.var)
    × Resolves so_far (slice_index_or before step.clause []) pivot after
    × Leads before after steps clause)

-- a chain follows from the clauses before it: it begins with the literals of its first clause
abbrev pub Follows : List (List Lit) → Chain → Type 0
Follows before chain =
    (chain.first < length before)
    × Leads before (slice_index_or before chain.first []) chain.rest chain.clause

-- the clauses by their numbers: those of the cnf, and then those of the chains
abbrev pub clauses_by_number : List (List Lit) → List Chain → List (List Lit)
clauses_by_number cnf log = cnf ++ map (λ chain. chain.clause) log

-- the clauses before the chain at k
abbrev pub clauses_before : List (List Lit) → List Chain → ℕ → List (List Lit)
clauses_before cnf log k = clauses_by_number cnf (take k log)

-- each chain follows from the clauses before it
abbrev pub EachFollows : List (List Lit) → List Chain → Type 0
EachFollows cnf log = (k : ℕ) (chain : Chain) → slice_get log k ≡ Some chain → Follows (clauses_before cnf log k) chain

-- there is a last chain, and its clause is empty
abbrev pub EndsEmpty : List Chain → Type 0
EndsEmpty log = (front : List Chain) × (last : Chain) × (log ≡ front ++ last ∷ []) × (last.clause ≡ [])

-- the log derives the empty clause
pub record Derives (cnf : List (List Lit)) (log : List Chain) : Type 0 where
  pub each : EachFollows cnf log
  pub ends : EndsEmpty log

-- a log that derives the empty clause shows that no assignment to any number of variables is a model
abbrev pub DerivationsRefute : Type 0
DerivationsRefute = (n : ℕ) (cnf : List (List Lit)) (log : List Chain) → Derives cnf log → HasNoModel n cnf
