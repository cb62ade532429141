-- The clauses that the step log of a certificate refutes: a state of the tableau with a progress meets all entries, and
-- a state that it steps to, with the progress after it, does not meet some entry.
-- With M the most progress that is counted and m the number of fairness conditions, the variables are in order:
--   those of two layers (Copies of the tableau), the state's from 0 on and then the next state's;
--   one under which the state steps to the next state;
--   g_0 to g_M, where g_b says that progress is beyond b;
--   c_0 to c_(m-1), where c_j says that the state meets the fairness condition j;
--   h_0 to h_M, where h_b says that the progress after the state is beyond b;
--   for each entry, in order, one that implies that the next state with its progress does not meet it.
-- The clauses are in order:
--   those of the two layers;
--   that of the step's variable alone, and then those of the step (Steps of the tableau) under it;
--   for b from 1 to M, that g_b implies g_(b-1);
--   for each fairness condition, that c_j is "not the until, or its right side"; of the condition True c_j alone;
--   for b from 0 to M, that h_b is "g_b, or both g_(b-1) and c_j" with j the remainder of b by m, since progress b has
--   the turn of the condition j;
--   for each entry, one clause that the state meets it: the opposites of the literals of its guard, and of g_b;
--   for each entry and each literal of its guard, and then h_b, that the entry's variable implies it, in the next state;
--   the clause of the variables of all entries.
-- Progress is always beyond -1. So for the number -1 there is no variable, a clause in which g or h would stand for
-- truth is left out, and from a clause in which the opposite would stand it is left out.
-- Progress as a row of variables that falls from true to false is the unary code of O. Bailleux and Y. Boufkhad,
-- Efficient CNF Encoding of Boolean Cardinality Constraints (2003).

use Rattle.std.specs.Prelude.{ℕ, zero, suc, ◌+◌, ◌%◌, ℤ, pos, negsuc, Option, Some, None, List, [], ◌∷◌, ◌++◌, length, map}
use Rattle.std.specs.Prelude.{slice_index_or}
use Rattle.core_ltl.specs.declared.node.NodeId.{NodeId}
use Rattle.cnf.specs.declared.lit.Lit.{Lit}
use Rattle.cnf.specs.Clauses.{opposite, Problem}
use Rattle.cnf.specs.Gates.{literal}
use Rattle.tableau.specs.TableauStates.{ClosureOverPorts, fairness}
use Rattle.tableau.specs.Copies.{LayerLits, LayerCoding, copy_coding, member_literal}
use Rattle.tableau.specs.Steps.{step_clauses}
use Rattle.counter_cert.specs.declared.bounds.GuardedBound.{GuardedBound}
use Rattle.counter_cert.specs.Progress.{most_progress}
use Rattle.counter_cert.specs.StartClauses.{guard_literals, some_case_clauses}

-- the first variable of each kind, behind a layer of n variables
abbrev pub first_over : ℕ → ℕ
first_over n = n + 1

abbrev pub first_condition : ClosureOverPorts → ℕ → ℕ → ℕ
first_condition t k n = first_over n + (most_progress t k + 1)

abbrev pub first_over_next : ClosureOverPorts → ℕ → ℕ → ℕ
first_over_next t k n = first_condition t k n + length (fairness t)

abbrev pub first_entry : ClosureOverPorts → ℕ → ℕ → ℕ
first_entry t k n = first_over_next t k n + (most_progress t k + 1)

-- the lists of the numbers below k, one after the other
abbrev pub each_below : (ℕ → List (List Lit)) → ℕ → List (List Lit)
each_below f zero = []
each_below f (suc k) = each_below f k ++ f k

-- progress beyond b + 1 is beyond b, with the variables from g on
abbrev pub falling_clauses : ℕ → ℕ → List (List Lit)
falling_clauses g b = (opposite (literal (g + (b + 1))) ∷ literal (g + b) ∷ []) ∷ []

-- the literal c says that the state of the layer meets the condition
abbrev pub condition_clauses : LayerLits → Lit → Option (NodeId × NodeId) → List (List Lit)
condition_clauses layer c None = (c ∷ []) ∷ []
condition_clauses layer c (Some until) =
    (opposite c ∷ opposite (member_literal layer until.0.0) ∷ member_literal layer until.1.0 ∷ [])
    ∷ (c ∷ member_literal layer until.0.0 ∷ [])
    ∷ (c ∷ opposite (member_literal layer until.1.0) ∷ [])
    ∷ []

-- the condition j, with the variables from c on
abbrev pub fairness_clauses : ClosureOverPorts → LayerLits → ℕ → ℕ → List (List Lit)
fairness_clauses t layer c j = condition_clauses layer (literal (c + j)) (slice_index_or (fairness t) j None)

-- the literal h says that g holds, or c does: progress is beyond 0, or passes it
abbrev pub beyond_first_clauses : Lit → Lit → Lit → List (List Lit)
beyond_first_clauses g c h =
    (opposite h ∷ g ∷ c ∷ []) ∷ (h ∷ opposite g ∷ []) ∷ (h ∷ opposite c ∷ []) ∷ []

-- the literal h says that g holds, or both g of the number before and c do
abbrev pub beyond_clauses : Lit → Lit → Lit → Lit → List (List Lit)
beyond_clauses g before c h =
    (opposite h ∷ g ∷ before ∷ [])
    ∷ (opposite h ∷ g ∷ c ∷ [])
    ∷ (h ∷ opposite g ∷ [])
    ∷ (h ∷ opposite before ∷ opposite c ∷ [])
    ∷ []

-- the progress after the state, against b, with m conditions and the variables from g, from c and from h on
abbrev pub progress_clauses : ℕ → ℕ → ℕ → ℕ → ℕ → List (List Lit)
progress_clauses m g c h zero = beyond_first_clauses (literal g) (literal c) (literal h)
progress_clauses m g c h (suc b) =
    beyond_clauses (literal (g + suc b)) (literal (g + b)) (literal (c + suc b % m)) (literal (h + suc b))

-- progress is beyond the bound, with the variables from n on
abbrev pub beyond_literals : ℕ → ℤ → List Lit
beyond_literals n (pos b) = literal (n + b) ∷ []
beyond_literals n (negsuc i) = []

-- the literals that say together that the entry is not met
abbrev pub unmet_literals : LayerLits → ℕ → GuardedBound → List Lit
unmet_literals layer n entry = guard_literals layer entry.guard ++ beyond_literals n entry.bound

abbrev pub unmet_cases : LayerLits → ℕ → List GuardedBound → List (List Lit)
unmet_cases layer n entries = map (unmet_literals layer n) entries

-- none of the cases holds
abbrev pub no_case_clauses : List (List Lit) → List (List Lit)
no_case_clauses cases = map (map opposite) cases

-- what is said of progress up to a number, with the variables from g, from c and from h on
abbrev pub counting_clauses : ClosureOverPorts → ℕ → LayerLits → ℕ → ℕ → ℕ → List (List Lit)
counting_clauses t most from g c h =
    each_below (falling_clauses g) most
    ++ each_below (fairness_clauses t from c) (length (fairness t))
    ++ each_below (progress_clauses (length (fairness t)) g c h) (most + 1)

-- over two layers
abbrev pub step_over : ClosureOverPorts → ℕ → LayerCoding → LayerCoding → List GuardedBound → Problem
step_over t k from to entries = record {
  vars = first_entry t k to.vars + length entries;
  clauses = from.clauses ++ to.clauses
      ++ (literal to.vars ∷ []) ∷ []
      ++ step_clauses t from.layer to.layer (literal to.vars)
      ++ counting_clauses t (most_progress t k) from.layer (first_over to.vars) (first_condition t k to.vars)
      (first_over_next t k to.vars)
      ++ no_case_clauses (unmet_cases from.layer (first_over to.vars) entries)
      ++ some_case_clauses (first_entry t k to.vars) (unmet_cases to.layer (first_over_next t k to.vars) entries);
}

abbrev pub step_coding : ClosureOverPorts → ℕ → List GuardedBound → Problem
step_coding t k entries = step_over t k (copy_coding t 0) (copy_coding t (copy_coding t 0).vars) entries
