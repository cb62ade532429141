-- What is learnt from a clause whose literals are all false.
--
-- The clause at the first unique implication point is that of L. Zhang, C. F. Madigan, M. H.
-- Moskewicz, S. Malik, Efficient conflict driven learning in a Boolean satisfiability solver, ICCAD
-- 2001.
use Rattle.std.specs.Prelude.{◌≡◌, ◌≢◌, ◌<◌, ◌+◌, ◌⊎◌, ℕ, true, false, List, [], length, Contains, Option, Some, None}
use Rattle.std.specs.Prelude.{slice_get}
use Rattle.cnf.specs.declared.lit.Lit.{Lit}
use Rattle.cnf.specs.Clauses.{opposite}
use Rattle.sat_core.specs.declared.clause_ref.ClauseRef.{ClauseRef}
use Rattle.sat_core.specs.declared.trail.Step.{Step}
use Rattle.sat_core.specs.declared.analyse.Backjump.{Backjump}
use Rattle.sat_core.specs.declared.analyse.LearntClause.{LearntClause}
use Rattle.sat_core.specs.Search.{ClauseLists, HasClause, clause_of, IsDerivation, MadeTrue, AllFalse, Forces}
use Rattle.sat_core.specs.Search.{lit_at, step_at, opens_level}

-- a clause that was added or learnt has all its literals false
pub record IsFalseClause (k : ClauseLists) (steps : List Step) (reason : ClauseRef) : Type 0 where
  pub named : HasClause k reason
  pub kept : opens_level (Some reason) ≡ false
  pub all : AllFalse steps (length steps) (clause_of k reason)

-- each literal of the clause but one was made false before the place
abbrev pub OthersFalse : List Step → ℕ → List Lit → Lit → Type 0
OthersFalse steps place clause but = (lit : Lit) → Contains clause lit
    → (lit ≡ but) ⊎ MadeTrue steps place (opposite lit)

-- a reason, where there is one, names the same clause in both
abbrev pub SameReference : ClauseLists → ClauseLists → Option ClauseRef → Type 0
SameReference k other None = Unit {0}
SameReference k other (Some reason) = HasClause k reason × (clause_of k reason ≡ clause_of other reason)

-- after the first `keep` steps the clause forces the literal, whose variable then has no value; the
-- step behind them opens a level
pub record Asserts (steps : List Step) (clause : List Lit) (lit : Lit) (keep : ℕ) : Type 0 where
  pub within : keep < length steps
  pub opens : opens_level (step_at steps keep).reason ≡ true
  pub forces : Forces steps keep clause lit
  pub free : (p : ℕ) → p < keep → (lit_at steps p).var ≡ lit.var → ⊥

-- a learnt clause either turns the trail or is empty
abbrev pub AssertsOrEmpty : List Step → List Lit → Option Backjump → Type 0
AssertsOrEmpty steps clause None = clause ≡ []
AssertsOrEmpty steps clause (Some backjump) = Asserts steps clause backjump.lit backjump.keep

pub record IsLearntFrom (k : ClauseLists) (steps : List Step) (learnt_clause : LearntClause) : Type 0 where
  pub derived : IsDerivation k learnt_clause.derivation.first learnt_clause.derivation.rest.items
      learnt_clause.lits.items
  pub all : AllFalse steps (length steps) learnt_clause.lits.items
  pub turns : AssertsOrEmpty steps learnt_clause.lits.items learnt_clause.backjump

-- the clause's first literal is the one that is forced. The second, if there is one, was made false last: all but the
-- first are false from then on.
pub record IsWatchOrder (steps : List Step) (forced : Lit) (order : List Lit) : Type 0 where
  pub first : slice_get order 0 ≡ Some forced
  pub only : (lit : Lit) → length order ≡ 1 → Contains order lit → lit ≡ forced
  pub second :
      (lit : Lit) → slice_get order 1 ≡ Some lit
      → (lit ≢ forced)
      × ((p : ℕ) × (p < length steps) × (lit_at steps p ≡ opposite lit) × OthersFalse steps (p + 1) order forced)

-- a literal of the clause, beside one that is forced, was made false last: all but the forced one are false from
-- then on
abbrev pub IsLatest : List Step → List Lit → Lit → Lit → Type 0
IsLatest steps clause forced lit =
    Contains clause lit × (lit ≢ forced)
    × ((p : ℕ) × (p < length steps) × (lit_at steps p ≡ opposite lit) × OthersFalse steps (p + 1) clause forced)
