use Rattle.std.proofs.Common.{◌≡◌, ◌↔◌, List, length, drop}
use Rattle.cnf.specs.declared.lit.Lit.{Lit}
use Rattle.clause_log.specs.Members.{marked_lits}
use Rattle.clause_log.specs.Derivations.{clauses_by_number, Leads}
use Rattle.clause_log.proofs.checking.take_steps.Given as goal

-- all the steps lead from the first set where the rest of them leads from the set so far
abbrev pub invariant-loop-step : goal.invariant-loop-step
invariant-loop-step l = record {
  vars : length l.set ≡ length l.fn.set;
  leads : (clause : List Lit)
      → Leads (clauses_by_number l.cnf l.log) (marked_lits l.fn.set) l.steps clause
      ↔ Leads (clauses_by_number l.cnf l.log) (marked_lits l.set) (drop l.step-index l.steps) clause;
}
