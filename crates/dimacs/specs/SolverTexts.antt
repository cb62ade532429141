-- What a solver answers, as text.
--
-- The answer is that of the SAT competitions (M. Järvisalo, D. Le Berre, O. Roussel and L. Simon, The international SAT
-- solver competitions, AI Magazine 33, 2012): a line `s`, and of a model a line `v` with a literal for each variable
-- and 0 behind them. A trace is one for TraceCheck, as PicoSAT writes it (A. Biere, PicoSAT essentials, Journal on
-- Satisfiability, Boolean Modeling and Computation 4, 2008): a line for each clause, with its number, its literals, 0,
-- the numbers of the clauses that it is resolved from, and 0.

use Rattle.std.specs.Prelude.{ℕ, ◌+◌, Bool, List, [], ◌∷◌, ◌++◌, length, codes, decimal}
use Rattle.std.specs.List.{flat_map}
use Rattle.cnf.specs.declared.lit.Lit.{Lit}
use Rattle.clause_log.specs.declared.chain.Chain.{Chain}
use Rattle.clause_log.specs.declared.chain.Pivot.{Pivot}
use Rattle.dimacs.specs.Dimacs.{literal_word}

abbrev pub spaced_literal : Lit → List ℕ
spaced_literal lit = 32 ∷ literal_word lit

abbrev pub spaced_number : ℕ → List ℕ
spaced_number number = 32 ∷ decimal number

-- the literals that hold in a model, from this variable on
abbrev pub values_text : ℕ → List Bool → List ℕ
values_text var [] = []
values_text var (value ∷ values) =
    spaced_literal (record { var = var; positive = value }) ++ values_text (var + 1) values

unfoldable pub sat_text : List Bool → List ℕ
sat_text model = codes "s SATISFIABLE\nv" ++ values_text 0 model ++ codes " 0\n"

unfoldable pub unsat_text : List ℕ
unsat_text = codes "s UNSATISFIABLE\n"

-- the line of the clause of this number, with what names the clauses that it is resolved from
abbrev pub trace_line : ℕ → List Lit → List ℕ → List ℕ
trace_line number clause named = decimal number ++ flat_map spaced_literal clause ++ codes " 0" ++ named ++ codes " 0\n"

-- clauses that are given, the first of them with this number
abbrev pub given_lines : ℕ → List (List Lit) → List ℕ
given_lines number [] = []
given_lines number (clause ∷ clauses) = trace_line number clause [] ++ given_lines (number + 1) clauses

-- clauses are counted from 1 here, and from 0 in a log
abbrev pub spaced_step : Pivot → List ℕ
spaced_step step = spaced_number (step.clause + 1)

abbrev pub chain_text : Chain → List ℕ
chain_text chain = spaced_number (chain.first + 1) ++ flat_map spaced_step chain.rest

abbrev pub chain_lines : ℕ → List Chain → List ℕ
chain_lines number [] = []
chain_lines number (chain ∷ log) = trace_line number chain.clause (chain_text chain) ++ chain_lines (number + 1) log

-- the trace of a log over these clauses
abbrev pub trace_text : List (List Lit) → List Chain → List ℕ
trace_text clauses log = given_lines 1 clauses ++ chain_lines (length clauses + 1) log
