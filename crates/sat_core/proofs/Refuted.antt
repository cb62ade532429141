-- An answer with a log that derives comes only where there is no model.
use Rattle.std.proofs.Common.{ℕ, List, Ok, Err}
use Rattle.std.specs.Prelude.{Result, IfOk}
use Rattle.port_types.specs.declared.memory.NoMemory.{NoMemory}
use Rattle.cnf.specs.declared.lit.Lit.{Lit}
use Rattle.cnf.specs.Clauses.{HasNoModel}
use Rattle.clause_log.specs.Derivations.{Derives, DerivationsRefute}
use Rattle.sat_core.specs.declared.outcome.Outcome.{Outcome}
use Rattle.sat_core.specs.declared.outcome.Outcome.TheVariants.{Sat, Unsat}
use Rattle.sat_core.specs.Outcomes.{IfUnsat}

pub refuted : (n : ℕ) (clauses : List (List Lit)) (r : Result Outcome NoMemory) → DerivationsRefute
    → IfOk r (λ outcome. IfUnsat outcome (Derives clauses))
    → IfOk r (λ outcome. IfUnsat outcome (λ _. HasNoModel n clauses))
refuted n clauses (Ok (Sat model)) law h = tt
refuted n clauses (Ok (Unsat log)) law h = law n clauses log h
refuted n clauses (Err e) law h = tt
