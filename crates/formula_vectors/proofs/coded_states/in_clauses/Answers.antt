use Rattle.formula_vectors.proofs.coded_states.in_clauses.Goals as goal

pub code_atom-requires-clause-now : goal.code_atom-requires-clause-now
code_atom-requires-clause-now c =
    c.states_stay.ensures _ _ _ _ _ _ _ c.code_state-2.ensures.grows.vars c.code_state-2.ensures.grows.clauses.1 c.in_ok-now.ensures.state
