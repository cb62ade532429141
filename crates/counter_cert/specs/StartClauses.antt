-- The clauses that the start log of a certificate refutes: a state of the tableau has the question and does not meet
-- some entry at progress 0. Only an entry with bound -1 can be that one, where its guard holds.
-- The variables are in order:
--   those of one layer (Copies of the tableau), from 0 on;
--   for each entry with bound -1, in the order of the entries, one that implies each signed member of its guard.
-- The clauses are in order:
--   those of the layer;
--   for each signed member of the question, its literal alone;
--   for each entry with bound -1 and each signed member of its guard, that the entry's variable implies the literal;
--   the clause of the variables of all these entries.
-- A new variable for each case of a disjunction is that of G. S. Tseitin, On the complexity of derivation in
-- propositional calculus (1968).

use Rattle.std.specs.Prelude.{ℕ, ◌+◌, ℤ, pos, negsuc, List, [], ◌∷◌, ◌++◌, length, map}
use Rattle.std.specs.List.{flat_map}
use Rattle.core_ltl.specs.declared.question.SignedNode.{SignedNode}
use Rattle.cnf.specs.declared.lit.Lit.{Lit}
use Rattle.cnf.specs.Clauses.{opposite, Problem}
use Rattle.cnf.specs.Gates.{literal}
use Rattle.tableau.specs.TableauStates.{ClosureOverPorts}
use Rattle.tableau.specs.Copies.{LayerLits, LayerCoding, copy_coding}
use Rattle.tableau.specs.Questions.{signed_literal}
use Rattle.counter_cert.specs.declared.bounds.GuardedBound.{GuardedBound}

-- ---- one of several cases holds

-- the variable n implies each of the literals
abbrev pub implied_clauses : ℕ → List Lit → List (List Lit)
implied_clauses n lits = map (λ lit. opposite (literal n) ∷ lit ∷ []) lits

-- the variables from n on, one for each case
abbrev pub case_literals : ℕ → List (List Lit) → List Lit
case_literals n [] = []
case_literals n (lits ∷ cases) = literal n ∷ case_literals (n + 1) cases

-- the variable of each case implies each of its literals
abbrev pub cases_implied : ℕ → List (List Lit) → List (List Lit)
cases_implied n [] = []
cases_implied n (lits ∷ cases) = implied_clauses n lits ++ cases_implied (n + 1) cases

-- the literals of some case hold all together
abbrev pub some_case_clauses : ℕ → List (List Lit) → List (List Lit)
some_case_clauses n cases = cases_implied n cases ++ case_literals n cases ∷ []

-- ---- the start

abbrev pub guard_literals : LayerLits → List SignedNode → List Lit
guard_literals layer guard = map (signed_literal layer) guard

-- each signed member alone
abbrev pub question_clauses : LayerLits → List SignedNode → List (List Lit)
question_clauses layer question = map (λ x. signed_literal layer x ∷ []) question

-- the literals of a guard whose bound is -1; an entry with another bound is met at progress 0, and is no case
abbrev pub guard_case : List Lit → ℤ → List (List Lit)
guard_case lits (pos b) = []
guard_case lits (negsuc n) = lits ∷ []

abbrev pub start_case : LayerLits → GuardedBound → List (List Lit)
start_case layer entry = guard_case (guard_literals layer entry.guard) entry.bound

abbrev pub start_cases : LayerLits → List GuardedBound → List (List Lit)
start_cases layer entries = flat_map (start_case layer) entries

-- over a layer
abbrev pub start_over : LayerCoding → List SignedNode → List GuardedBound → Problem
start_over coding question entries = record {
  vars = coding.vars + length (start_cases coding.layer entries);
  clauses = coding.clauses
      ++ question_clauses coding.layer question
      ++ some_case_clauses coding.vars (start_cases coding.layer entries);
}

abbrev pub start_coding : ClosureOverPorts → List SignedNode → List GuardedBound → Problem
start_coding t question entries = start_over (copy_coding t 0) question entries
